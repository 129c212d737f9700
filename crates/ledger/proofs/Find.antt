-- Where a node stands: in one place only, which is what `where` answers; and rule (c) as a test over the nodes and the lists' members.
-- Assumes nothing.
use mathlib.Core.Path.{◌≡◌, refl, sym, ap, ◌∙◌}
use mathlib.Core.Bool.{Bool, true, false, cond}
use mathlib.Core.List.{List, [], ◌∷◌}
use Prim.Native.Nat.{ℕ, zero, suc, ◌+◌, ◌≤◌, ◌<◌, zero-le, suc-le-suc}
use native.Mathlib.Nat.{le_of_suc-le-suc, not-suc-le-zero}
use native.Mathlib.Decide.{dec_le}
use native.Mathlib.Omega.{arith}
use lib.ListN.{length, get_or}
use lib.Dec.{eqb, ltb}
use Rattle.ledger.specs.Settings.{Settings}
use Rattle.ledger.specs.Ledger.{is_node, Packet, bare, Place, place#, place_of, Ledger, list_at, PlaceIn}
use Rattle.ledger.specs.Ready.{bit}
use Rattle.ledger.specs.Calls.{Reply, found, where_is, position, which, step}
use Rattle.ledger.specs.Sound.{Everywhere, sum, weigh, one, Once, Orderly, Roomy}
use Rattle.ledger.proofs.Tests.{true≢false, ltb_yes, ltb_no, ltb_is, eqb_yes, eqb_is, eqb_not}
use Rattle.ledger.proofs.Lists.{All-at, everywhere_map, sum_below, weigh_cong, weigh_none}
use Rattle.ledger.proofs.Places.{place_number, place_of_lem, Node, node_is, bit_le}
use Rattle.ledger.proofs.Keep.{some_queue, len, nodes}

-- ---- in a list

pub position_at : (y : ℕ) (xs : List Packet) → position y xs < length xs → (get_or xs (position y xs) (bare 0)).node ≡ y
position_at y [] h = absurd (not-suc-le-zero h)
position_at y (x ∷ xs) h = go (eqb x.node y) refl h (position_at y xs)
  where
    go : (b : Bool) → eqb x.node y ≡ b → cond b 0 (suc (position y xs)) < suc (length xs)
        → (position y xs < length xs → (get_or xs (position y xs) (bare 0)).node ≡ y) → (get_or (x ∷ xs) (cond b 0 (suc (position y xs))) (bare 0)).node ≡ y
    go true e k f = eqb_yes x.node y e
    go false e k f = f (le_of_suc-le-suc k)

pub position_lt : (y : ℕ) (xs : List Packet) → 1 ≤ sum (one y 0) xs → position y xs < length xs
position_lt y [] h = absurd (omega arith)
position_lt y (x ∷ xs) h = go (eqb x.node y) h (position_lt y xs)
  where
    go : (b : Bool) → 1 ≤ bit b + sum (one y 0) xs → (1 ≤ sum (one y 0) xs → position y xs < length xs) → cond b 0 (suc (position y xs)) < suc (length xs)
    go true k f = suc-le-suc zero-le
    go false k f = suc-le-suc (f (omega arith))

-- a node that stands in a list is counted there
pub sum_at : (y : ℕ) (xs : List Packet) (i : ℕ) → i < length xs → (get_or xs i (bare 0)).node ≡ y → 1 ≤ sum (one y 0) xs
sum_at y [] i h e = absurd (not-suc-le-zero h)
sum_at y (x ∷ xs) zero h e = omega (arith, ap bit (eqb_is x.node y e))
sum_at y (x ∷ xs) (suc i) h e = omega (arith, sum_at y xs i (le_of_suc-le-suc h) e)

-- where a node is counted at most once, the position at which it stands is the one that is found
position_is : (y : ℕ) (xs : List Packet) (i : ℕ) → sum (one y 0) xs ≤ 1 → i < length xs → (get_or xs i (bare 0)).node ≡ y → position y xs ≡ i
position_is y [] i w h e = absurd (not-suc-le-zero h)
position_is y (x ∷ xs) zero w h e = rw (eqb_is x.node y e)
position_is y (x ∷ xs) (suc i) w h e = go (eqb x.node y) w (sum_at y xs i (le_of_suc-le-suc h) e) (λ k. position_is y xs i k (le_of_suc-le-suc h) e)
  where
    go : (b : Bool) → bit b + sum (one y 0) xs ≤ 1 → 1 ≤ sum (one y 0) xs → (sum (one y 0) xs ≤ 1 → position y xs ≡ i) → cond b 0 (suc (position y xs)) ≡ suc i
    go true k a f = absurd (omega arith)
    go false k a f = ap suc (f (omega arith))

-- ---- among the lists

-- node y stands in list n
pub record Stands (y : ℕ) (ls : List (List Packet)) (n : ℕ) : Type 0 where
  pub which_lt : n < length ls
  pub there : position y (get_or ls n []) < length (get_or ls n [])

pub stands : (y : ℕ) (ls : List (List Packet)) → 1 ≤ weigh (one y) ls → Stands y ls (which y ls)
stands y [] h = absurd (omega arith)
stands y (l ∷ ls) h = go (ltb (position y l) (length l)) refl (stands y ls) (dec_le 1 (sum (one y 0) l))
  where
    go : (b : Bool) → ltb (position y l) (length l) ≡ b → (1 ≤ weigh (one y) ls → Stands y ls (which y ls)) → Dec (1 ≤ sum (one y 0) l)
        → Stands y (l ∷ ls) (cond b 0 (suc (which y ls)))
    go true e f d = record { which_lt = suc-le-suc zero-le; there = ltb_yes (position y l) (length l) e }
    go false e f (yes k) = absurd (omega (arith, position_lt y l k, ltb_no (position y l) (length l) e))
    go false e f (no k) = let g = f (omega arith) in record { which_lt = suc-le-suc g.which_lt; there = g.there }

which_is : (y : ℕ) (ls : List (List Packet)) (l : ℕ) → weigh (one y) ls ≤ 1 → l < length ls → 1 ≤ sum (one y 0) (get_or ls l []) → which y ls ≡ l
which_is y [] l w h k = absurd (not-suc-le-zero h)
which_is y (xs ∷ ls) zero w h k = rw (ltb_is (position y xs) (length xs) (position_lt y xs k))
which_is y (xs ∷ ls) (suc l) w h k = go (ltb (position y xs) (length xs)) refl (which_is y ls l (omega arith) (le_of_suc-le-suc h) k)
  where
    go : (b : Bool) → ltb (position y xs) (length xs) ≡ b → which y ls ≡ l → cond b 0 (suc (which y ls)) ≡ suc l
    go true e f =
        let p : position y xs < length xs = ltb_yes (position y xs) (length xs) e in
        absurd (omega (arith, sum_below (one y) ls l, sum_at y xs (position y xs) p (position_at y xs p)))
    go false e f = ap suc f

-- where a node is counted at most once, the list and the position at which it stands are those that are found
pub find_first : (y : ℕ) (ls : List (List Packet)) → weigh (one y) ls ≤ 1
    → (l i : ℕ) → l < length ls → i < length (get_or ls l []) → (get_or (get_or ls l []) i (bare 0)).node ≡ y
    → (which y ls ≡ l) × (position y (get_or ls l []) ≡ i)
find_first y ls w l i h k e = (
  which_is y ls l w h (sum_at y (get_or ls l []) i k e),
  position_is y (get_or ls l []) i (omega (arith, sum_below (one y) ls l)) k e,
)

-- ---- rule (c) as a test over the lists' members and the nodes: what code can walk

pub once_by_test : (S : Settings) (ls : List (List Packet)) → Everywhere (λ l k. is_node S k.node ≡ true) ls
    → ((y : ℕ) → is_node S y ≡ true → weigh (one y) ls ≡ 1) → Once S ls
once_by_test S ls e f y = go (is_node S y) refl
  where
    go : (b : Bool) → is_node S y ≡ b → weigh (one y) ls ≡ bit b
    go true i = f y i
    go false i =
        weigh_cong (one y) (λ l k. 0) ls
        (everywhere_map ls (λ l k j. ap bit (eqb_not k.node y (λ h. true≢false (sym j ∙ ap (is_node S) h ∙ i)))) e)
        ∙ weigh_none ls

-- ---- in an orderly ledger

module _ (S : Settings) (roomy : Roomy S) (L : Ledger) (s : Orderly S L) where
  -- of a node that stands somewhere, `where` answers that
  pub where_is_lem : (y : ℕ) (v : Place) (i : ℕ) → PlaceIn S v → i < length (list_at S L v) → (get_or (list_at S L v) i (bare 0)).node ≡ y
      → step S L (where_is y) ≡ (found v i, L)
  where_is_lem y v i h k e =
      let f = find_first y L.lists (omega (arith, s.once y, bit_le (is_node S y))) (place# S v) i (len S roomy L s v h) k e in
      let n : Node S (get_or (list_at S L v) i (bare 0)).node =
      All-at (λ x. Node S x.node) (list_at S L v) (bare 0) ((nodes S roomy L s).holds (place# S v) (len S roomy L s v h)) i k in
      let n' : is_node S y ≡ true = node_is S y (rw e at n) in
      rw (n', f.0, f.1, place_number S v h)

  -- what `where` answers of a node is where it stands
  pub where_right : (y : ℕ) → is_node S y ≡ true
      → (v : Place) × (i : ℕ) × (step S L (where_is y) ≡ (found v i, L)) × PlaceIn S v × (i < length (list_at S L v))
      × ((get_or (list_at S L v) i (bare 0)).node ≡ y)
  where_right y e =
      let n = which y L.lists in
      let t = stands y L.lists (omega (arith, s.once y, ap bit e)) in
      let w = place_of_lem S n (some_queue S roomy L s) (omega (arith, t.which_lt, s.shaped.lists_long)) in (
        place_of S n,
        position y (get_or L.lists n []),
        rw e refl,
        w.0,
        rw w.1 t.there,
        rw w.1 (position_at y (get_or L.lists n []) t.there),
      )

  -- a node stands in one place only: `where` has one answer
  pub one_place : (v w : Place) (i j : ℕ) → PlaceIn S v → PlaceIn S w → i < length (list_at S L v) → j < length (list_at S L w)
      → (get_or (list_at S L v) i (bare 0)).node ≡ (get_or (list_at S L w) j (bare 0)).node → (v ≡ w) × (i ≡ j)
  one_place v w i j hv hw hi hj e =
      let y = (get_or (list_at S L w) j (bare 0)).node in
      let a : (step S L (where_is y)).0 ≡ found v i = ap (λ (r : Reply × Ledger). r.0) (where_is_lem y v i hv hi e) in
      let b : (step S L (where_is y)).0 ≡ found w j = ap (λ (r : Reply × Ledger). r.0) (where_is_lem y w j hw hj refl) in
      let c : found v i ≡ found w j = sym a ∙ b in
      (cc, cc)
