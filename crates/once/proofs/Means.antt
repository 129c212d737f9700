-- What the walk finds is whole exactly where every list hangs together and every node stands once in one list. Assumes nothing.
use mathlib.Core.Path.{◌≡◌, refl, sym, ap, ◌∙◌}
use mathlib.Core.Bool.{Bool, true, false, cond}
use mathlib.Core.List.{List, [], ◌∷◌, map}
use Prim.Native.Nat.{ℕ, zero, suc, ◌+◌, ◌≤◌, ◌<◌}
use native.Mathlib.Nat.{not-suc-le-zero, le_of_suc-le-suc}
use native.Mathlib.Decide.{ℕ_discrete}
use native.Mathlib.Omega.{arith}
use lib.ListN.{length, get_or, set, replicate, length-replicate}
use lib.Seq.{get_or-set_same, get_or-set_other}
use lib.Dec.{eqb, ltb}
use Rattle.ledger.specs.Settings.{Settings, size}
use Rattle.ledger.specs.Ledger.{is_node}
use Rattle.ledger.specs.Audit.{node_at}
use Rattle.ledger.specs.Ready.{bit}
use Rattle.ledger.specs.Sound.{sum, weigh, one, Once, Roomy}
use Rattle.std.specs.Prelude.{Option, None, Some}
use Rattle.ledger.proofs.Tests.{ltb_yes, eqb_yes, eqb_is, and_left, and_right}
use Rattle.ledger.proofs.Places.{node_of, node_is}
use Rattle.layout.specs.Tables.{lists, all}
use Rattle.layout.specs.Picture.{slot, nodes_of, node_in, tabulate, ledger_in, Hangs}
use Rattle.layout.proofs.Tables.{zeros}
use Rattle.memory.specs.Ends.{Tidy}
use Rattle.memory.proofs.Audit.{node_at_lem}
use Rattle.memory.proofs.Chains.{times, bit_same, bit_other, item_node, shown, slot_lt, slot_inj}
use Rattle.once.specs.Once.{is_new, mark, all_new, mark_all, ends, right, unmarked, scan, once_found}
use Rattle.once.proofs.Marks.{length_mark, New, new, new_is}
use Rattle.once.proofs.Walk.{all_marked}

-- ---- marks that are set

-- where a finding is whole, a test before it passed
pub passed : (b : Bool) (f : Option ℕ) (n : ℕ) → cond b f (Some n) ≡ None → (b ≡ true) × (f ≡ None)
passed true f n e = (refl, e)
passed false f n e = let z : ◌≡◌ {A = ℕ} 0 1 = cc in absurd (omega arith)

none_unmarked : (n : ℕ) (ks : List ℕ) → unmarked n ks ≡ None → (i : ℕ) → i < length ks → 1 ≤ get_or ks i 0
unfolding unmarked
none_unmarked n [] e i h = absurd (not-suc-le-zero h)
none_unmarked n (k ∷ ks) e zero h = ltb_yes 0 k (passed (ltb 0 k) (unmarked (suc n) ks) n e).0
none_unmarked n (k ∷ ks) e (suc i) h = none_unmarked (suc n) ks (passed (ltb 0 k) (unmarked (suc n) ks) n e).1 i (le_of_suc-le-suc h)

module _ (S : Settings) where
  pub length_all : (xs ms : List ℕ) → length (mark_all S ms xs) ≡ length ms
  unfolding mark_all
  length_all [] ms = refl
  length_all (x ∷ xs) ms = length_all xs (mark S ms x) ∙ length_mark S ms x

  -- how often the marks say that y was met
  pub seen : List ℕ → ℕ → ℕ
  seen ms y = cond (is_node S y) (get_or ms (slot S y) 0) 0

  pub seen_node : (ms : List ℕ) (y : ℕ) → is_node S y ≡ true → seen ms y ≡ get_or ms (slot S y) 0
  unfolding seen
  seen_node ms y e = rw e

  seen_none : (ms : List ℕ) (y : ℕ) → is_node S y ≡ false → seen ms y ≡ 0
  unfolding seen
  seen_none ms y e = rw e

  -- ---- nodes that are met in turn

  -- a new node is counted, and no node more than once
  mark_adds : (ms : List ℕ) (x : ℕ) → length ms ≡ all S → New S ms x → (y : ℕ)
      → (seen (mark S ms x) y ≡ seen ms y + bit (eqb x y)) × (seen ms y ≤ bit (is_node S y) → seen (mark S ms x) y ≤ bit (is_node S y))
  unfolding mark
  mark_adds ms x long n y = go (ℕ_discrete x y) (is_node S y) refl
    where
      ms' : List ℕ
      ms' = set ms (slot S x) 1

      go : Dec (x ≡ y) → (b : Bool) → is_node S y ≡ b
          → (seen ms' y ≡ seen ms y + bit (eqb x y)) × (seen ms y ≤ bit (is_node S y) → seen ms' y ≤ bit (is_node S y))
      go (yes p) b e =
          let node : is_node S y ≡ true = rw p at n.node in
          let same : slot S y ≡ slot S x = ap (slot S) (sym p) in
          let low : slot S x < length ms = rw long (slot_lt S x n.node) in
          let now : get_or ms' (slot S y) 0 ≡ 1 = rw same (get_or-set_same ms (slot S x) 1 0 low) in
          let then : get_or ms (slot S y) 0 ≡ 0 = rw same n.clear in
          (omega (arith, seen_node ms' y node, seen_node ms y node, bit_same x y p), λ h. omega (arith, seen_node ms' y node, ap bit node))
      go (no d) true e =
          let other = get_or-set_other ms (slot S x) (slot S y) 1 0 (λ q. d (slot_inj S x y n.node e (sym q))) in
          (omega (arith, seen_node ms' y e, seen_node ms y e, bit_other x y d), λ h. omega (arith, seen_node ms' y e, seen_node ms y e))
      go (no d) false e = (omega (arith, seen_none ms' y e, seen_none ms y e, bit_other x y d), λ h. omega (arith, seen_none ms' y e))

  pub all_adds : (xs ms : List ℕ) → length ms ≡ all S → all_new S ms xs ≡ true → (y : ℕ)
      → (seen (mark_all S ms xs) y ≡ seen ms y + times y xs) × (seen ms y ≤ bit (is_node S y) → seen (mark_all S ms xs) y ≤ bit (is_node S y))
  unfolding all_new mark_all
  all_adds [] ms long e y = (omega arith, λ h. h)
  all_adds (x ∷ xs) ms long e y =
      let f = mark_adds ms x long (new S ms x (and_left (is_new S ms x) _ e)) y in
      let r = all_adds xs (mark S ms x) (length_mark S ms x ∙ long) (and_right (is_new S ms x) _ e) y in
      (omega (arith, f.0, r.0), λ h. r.1 (f.1 h))

  -- where none is met too often, each is new
  pub all_new_lem : (xs ms : List ℕ) → length ms ≡ all S → ((y : ℕ) → seen ms y + times y xs ≤ bit (is_node S y)) → all_new S ms xs ≡ true
  unfolding all_new
  all_new_lem [] ms long b = refl
  all_new_lem (x ∷ xs) ms long b =
      let self = bit_same x x refl in
      let node : is_node S x ≡ true = node_is S x (node_of S x (omega (arith, b x))) in
      let n : New S ms x = record { node = node; clear = omega (arith, b x, seen_node ms x node, ap bit node) } in
      rw (new_is S ms x n) (all_new_lem xs (mark S ms x) (length_mark S ms x ∙ long) (λ y. omega (arith, b y, (mark_adds ms x long n y).0)))

-- ---- lists that are met in turn

module _ (S : Settings) (m : List ℕ) where
  times_items : (y k l : ℕ) (xs : List ℕ) → sum (one y k) (map (node_in S m l) xs) ≡ times y xs
  times_items y k l [] = refl
  times_items y k l (x ∷ xs) = omega (arith, ap (λ (z : ℕ). bit (eqb z y)) (item_node S m l x), times_items y k l xs)

  -- how often y stands in n lists from l on
  unfoldable pub stands : ℕ → ℕ → ℕ → ℕ
  stands y l n = weigh (one y) (tabulate (shown S m) l n)

  pub stands_more : (y l n : ℕ) → stands y l (suc n) ≡ times y (nodes_of S m l) + stands y (suc l) n
  unfolding stands
  stands_more y l n = omega (arith, times_items y 0 l (nodes_of S m l))

  pub right_says : (ms : List ℕ) (l : ℕ) → right S m ms l ≡ true → (all_new S ms (nodes_of S m l) ≡ true) × Hangs S m l
  unfolding right ends
  right_says ms l e = (and_left (all_new S ms (nodes_of S m l)) _ e, eqb_yes _ _ (and_right (all_new S ms (nodes_of S m l)) _ e))

  pub right_is : (ms : List ℕ) (l : ℕ) → all_new S ms (nodes_of S m l) ≡ true → Hangs S m l → right S m ms l ≡ true
  unfolding right ends
  right_is ms l a h = rw (a, eqb_is _ _ h)

  met_all : (l : ℕ) (ms : List ℕ) → length ms ≡ all S → ((y : ℕ) → seen S ms y ≤ bit (is_node S y)) → unmarked l ms ≡ None
      → (y : ℕ) → seen S ms y ≡ bit (is_node S y)
  met_all l ms long b e y = go (is_node S y) refl
    where
      go : (c : Bool) → is_node S y ≡ c → seen S ms y ≡ bit (is_node S y)
      go true n =
          let low : slot S y < length ms = rw long (slot_lt S y n) in
          omega (arith, b y, ap bit n, seen_node S ms y n, none_unmarked l ms e (slot S y) low)
      go false n = omega (arith, ap bit n, seen_none S ms y n)

  each_marked : Roomy S → (ms : List ℕ) → ((y : ℕ) → seen S ms y ≡ bit (is_node S y)) → (i : ℕ) → i < all S → 1 ≤ get_or ms i 0
  each_marked R ms c i k =
      let f = node_at_lem S R i k in
      let y : ℕ = node_at S i in
      let h : 1 ≤ get_or ms (slot S y) 0 = omega (arith, c y, ap bit f.node, seen_node S ms y f.node) in
      rw f.slot_is at h

  -- a scan that finds nothing: the lists hang together, and each node was met once
  scan_says : (n l : ℕ) (ms : List ℕ) → length ms ≡ all S → ((y : ℕ) → seen S ms y ≤ bit (is_node S y)) → scan S m ms l n ≡ None
      → ((j : ℕ) → l ≤ j → j < l + n → Hangs S m j) × ((y : ℕ) → seen S ms y + stands y l n ≡ bit (is_node S y))
  unfolding scan
  scan_says zero l ms long b e = (λ j h k. absurd (omega arith), λ y. unfold stands in omega (arith, met_all l ms long b e y))
  scan_says (suc n) l ms long b e =
      let p = passed (right S m ms l) _ l e in
      let r = right_says ms l p.0 in
      let a = all_adds S (nodes_of S m l) ms long r.0 in
      let w = scan_says n (suc l) (mark_all S ms (nodes_of S m l)) (length_all S (nodes_of S m l) ms ∙ long) (λ y. (a y).1 (b y)) p.1 in
      (λ j h k. go r.1 w.0 j h k (ℕ_discrete j l), λ y. omega (arith, w.1 y, (a y).0, stands_more y l n))
    where
      go : Hangs S m l → ((j : ℕ) → suc l ≤ j → j < suc l + n → Hangs S m j) → (j : ℕ) → l ≤ j → j < l + suc n → Dec (j ≡ l) → Hangs S m j
      go here later j h k (yes p) = rw p here
      go here later j h k (no d) = later j (omega arith) (omega arith)

  -- and back
  scan_is : Roomy S → (n l : ℕ) (ms : List ℕ) → length ms ≡ all S → ((j : ℕ) → l ≤ j → j < l + n → Hangs S m j)
      → ((y : ℕ) → seen S ms y + stands y l n ≡ bit (is_node S y)) → scan S m ms l n ≡ None
  unfolding scan
  scan_is R zero l ms long h c = all_marked l ms (λ i k. each_marked R ms (λ y. unfold stands in omega (arith, c y)) i (rw long at k))
  scan_is R (suc n) l ms long h c =
      let a = all_new_lem S (nodes_of S m l) ms long (λ y. omega (arith, c y, stands_more y l n)) in
      rw (right_is ms l a (h l (omega arith) (omega arith)))
      (scan_is R n (suc l) (mark_all S ms (nodes_of S m l)) (length_all S (nodes_of S m l) ms ∙ long)
      (λ j i k. h j (omega arith) (omega arith))
      (λ y. omega (arith, c y, stands_more y l n, (all_adds S (nodes_of S m l) ms long a y).0)))

  -- ---- the walk from marks that are all clear

  pub clear : (y : ℕ) → seen S (replicate (all S) 0) y ≡ 0
  clear y = go (is_node S y) refl
    where
      go : (c : Bool) → is_node S y ≡ c → seen S (replicate (all S) 0) y ≡ 0
      go true n = seen_node S (replicate (all S) 0) y n ∙ zeros (all S) (slot S y)
      go false n = seen_none S (replicate (all S) 0) y n

  pub stands_all : (y : ℕ) → stands y 0 (lists S) ≡ weigh (one y) (ledger_in S m).lists
  unfolding stands ledger_in
  stands_all y = refl

  pub found_whole : once_found S m ≡ None → ((l : ℕ) → l < lists S → Hangs S m l) × Once S (ledger_in S m).lists
  unfolding once_found
  found_whole e =
      let w = scan_says (lists S) 0 (replicate (all S) 0) (length-replicate (all S) 0) (λ y. omega (arith, clear y)) e in
      (λ l h. w.0 l (omega arith) (omega arith), λ y. omega (arith, w.1 y, clear y, stands_all y))

  -- with the tails
  pub found_tidy : size S ≤ length m → once_found S m ≡ None → Tidy S m
  found_tidy long e = let w = found_whole e in record { long = long; hangs = w.0; once = λ y. omega (arith, w.1 y) }

  pub whole_found : Roomy S → ((l : ℕ) → l < lists S → Hangs S m l) × Once S (ledger_in S m).lists → once_found S m ≡ None
  unfolding once_found
  whole_found R h =
      scan_is R (lists S) 0 (replicate (all S) 0) (length-replicate (all S) 0) (λ j i k. h.0 j (omega arith))
      (λ y. omega (arith, h.1 y, clear y, stands_all y))
