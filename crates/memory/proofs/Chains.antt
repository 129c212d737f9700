-- The lists of a memory: what they show, who stands in them, and which changes leave them as they are. Assumes nothing.
use mathlib.Core.Path.{◌≡◌, sym, refl, ap, ◌∙◌}
use mathlib.Core.Logic.{◌≢◌}
use mathlib.Core.Bool.{Bool, true, false, cond}
use mathlib.Core.List.{List, [], ◌∷◌, ◌++◌, map}
use Prim.Native.Nat.{ℕ, zero, suc, ◌+◌, ◌-◌, ◌*◌, ◌%◌, ◌≤◌, ◌<◌}
use native.Mathlib.Nat.{not-suc-le-zero, le_of_suc-le-suc}
use native.Mathlib.Decide.{dec_lt, ℕ_discrete}
use native.Mathlib.Omega.{arith}
use lib.ListN.{length, get_or, set, length-set, length-map}
use lib.Seq.{get_or-set_same, get_or-set_other, ext_get_or}
use lib.Dec.{eqb, ltb}
use Rattle.ledger.specs.Settings.{Settings, row}
use Rattle.ledger.specs.Ledger.{owner, index, is_node, Packet, bare, Ledger, arrival, outward, last, mapped, halted, buckets, Column, tall}
use Rattle.ledger.specs.Ready.{bit}
use Rattle.ledger.specs.Sound.{All, sum, weigh, one, Roomy}
use Rattle.ledger.proofs.Tests.{eqb_is, eqb_not, ltb_is, ltb_not}
use Rattle.ledger.proofs.Lists.{weigh_set, sum_below, All-map, counted}
use Rattle.ledger.proofs.Places.{row_lt, row_inj, Node, node_of, bit_le}
use Rattle.layout.specs.declared.Table.{Table}
use Rattle.layout.specs.declared.Table.TheVariants.{Setting, Mapped, Last, Halted, Arrival, Outward, Buckets, Head, Tail, Count, Next, Length, Stamp}
use Rattle.layout.specs.declared.Table.TheVariants.{Queue, Dest, Poisoned, Transaction, Price}
use Rattle.layout.specs.Tables.{turn_of, lists, all, many, get, table_of}
use Rattle.layout.specs.Picture.{slot, chain, nodes_of, packet_at, node_in, tabulate, ledger_in, last_d, StateOf}
use Rattle.memory.specs.Ends.{Tidy, IsRecord, with_lists, SameNumbers}

-- ---- the table of a column: before the lists', as long as the column, and no other column's

-- the column whose table has turn n
abbrev column_in : ℕ → Column
column_in n = get_or (mapped ∷ mapped ∷ last ∷ halted ∷ arrival ∷ outward ∷ buckets ∷ []) n mapped

pub record ColumnTable (S : Settings) (c : Column) : Type 0 where
  pub low : turn_of (table_of c) < turn_of Head
  pub above : 0 < turn_of (table_of c)
  pub long : many S (table_of c) ≡ tall S c
  pub back : column_in (turn_of (table_of c)) ≡ c

pub column_table : (S : Settings) (c : Column) → ColumnTable S c
column_table S arrival = record { low = omega arith; above = omega arith; long = refl; back = refl }
column_table S outward = record { low = omega arith; above = omega arith; long = refl; back = refl }
column_table S last = record { low = omega arith; above = omega arith; long = refl; back = refl }
column_table S mapped = record { low = omega arith; above = omega arith; long = refl; back = refl }
column_table S halted = record { low = omega arith; above = omega arith; long = refl; back = refl }
column_table S buckets = record { low = omega arith; above = omega arith; long = refl; back = refl }

pub table_inj : (S : Settings) (c d : Column) → turn_of (table_of c) ≡ turn_of (table_of d) → c ≡ d
table_inj S c d e = sym (column_table S c).back ∙ ap column_in e ∙ (column_table S d).back

-- ---- tables as lists

pub length_tabulate : {A : Type 0} (f : ℕ → A) (a n : ℕ) → length (tabulate f a n) ≡ n
length_tabulate f a zero = refl
length_tabulate f a (suc n) = ap suc (length_tabulate f (suc a) n)

pub get_d_tabulate : {A : Type 0} (f : ℕ → A) (a n i : ℕ) (d : A) → i < n → get_or (tabulate f a n) i d ≡ f (a + i)
get_d_tabulate f a zero i d h = absurd (not-suc-le-zero h)
get_d_tabulate f a (suc n) zero d h = let e : a ≡ a + 0 = omega arith in ap f e
get_d_tabulate f a (suc n) (suc i) d h = let e : suc a + i ≡ a + suc i = omega arith in get_d_tabulate f (suc a) n i d (le_of_suc-le-suc h) ∙ ap f e

pub get_d_table : {A : Type 0} (f : ℕ → A) (n i : ℕ) (d : A) → i < n → get_or (tabulate f 0 n) i d ≡ f i
get_d_table f n i d h = let e : 0 + i ≡ i = omega arith in get_d_tabulate f 0 n i d h ∙ ap f e

pub tabulate_ext : {A : Type 0} (f g : ℕ → A) (a n : ℕ) → ((i : ℕ) → a ≤ i → i < a + n → f i ≡ g i) → tabulate f a n ≡ tabulate g a n
tabulate_ext f g a zero h = refl
tabulate_ext f g a (suc n) h = λ i. h a (omega arith) (omega arith) i ∷ tabulate_ext f g (suc a) n (λ j k l. h j (omega arith) (omega arith)) i

pub table_ext : {A : Type 0} (f g : ℕ → A) (n : ℕ) → ((i : ℕ) → i < n → f i ≡ g i) → tabulate f 0 n ≡ tabulate g 0 n
table_ext f g n h = tabulate_ext f g 0 n (λ i k l. h i (omega arith))

-- with one entry changed
pub table_set : {A : Type 0} (f g : ℕ → A) (n a : ℕ) (u : A) → a < n → g a ≡ u → ((l : ℕ) → l < n → l ≢ a → g l ≡ f l)
    → tabulate g 0 n ≡ set (tabulate f 0 n) a u
table_set f g n a u ha ea other =
    ext_get_or u _ _ (simp (length-set, length_tabulate))
    (λ l h. let k : l < n = rw length_tabulate at h in get_d_table g n l u k ∙ entry l k (ℕ_discrete l a))
  where
    entry : (l : ℕ) → l < n → Dec (l ≡ a) → g l ≡ get_or (set (tabulate f 0 n) a u) l u
    entry l h (yes p) = let k : a < length (tabulate f 0 n) = rw length_tabulate ha in rw (p, get_or-set_same (tabulate f 0 n) a u u k) ea
    entry l h (no p) = rw (get_or-set_other (tabulate f 0 n) a l u u p, get_d_table f n l u h) (other l h p)

-- ---- facts about every element

pub All-unmap : {A B : Type 0} (P : B → Type 0) (f : A → B) (xs : List A) → All P (map f xs) → All (λ x. P (f x)) xs
All-unmap P f [] a = tt
All-unmap P f (x ∷ xs) a = (a.0, All-unmap P f xs a.1)

pub map_same : {A B : Type 0} (f g : A → B) (xs : List A) → All (λ x. f x ≡ g x) xs → map f xs ≡ map g xs
map_same f g [] a = refl
map_same f g (x ∷ xs) a = λ i. a.0 i ∷ map_same f g xs a.1 i

-- how often y stands in a list of nodes
abbrev pub times : ℕ → List ℕ → ℕ
times y xs = sum (λ x. bit (eqb x y)) xs

pub bit_same : (x y : ℕ) → x ≡ y → bit (eqb x y) ≡ 1
bit_same x y e = ap bit (eqb_is x y e)

pub bit_other : (x y : ℕ) → x ≢ y → bit (eqb x y) ≡ 0
bit_other x y n = ap bit (eqb_not x y n)

pub not_in : (y : ℕ) (xs : List ℕ) → times y xs ≡ 0 → All (λ x. x ≢ y) xs
not_in y [] e = tt
not_in y (x ∷ xs) e = (λ p. omega (arith, bit_same x y p), not_in y xs (omega arith))

-- pigeonholes: numbers below n, of which none stands twice, are n at most
below : ℕ → List ℕ → ℕ
below n xs = sum (λ x. bit (ltb x n)) xs

below_none : (xs : List ℕ) → below 0 xs ≡ 0
unfolding below
below_none [] = refl
below_none (x ∷ xs) = omega (arith, below_none xs, ap bit (ltb_not x 0 (omega arith)))

bit_suc : (x n : ℕ) → Dec (x < n) → Dec (x ≡ n) → bit (ltb x (suc n)) ≡ bit (ltb x n) + bit (eqb x n)
bit_suc x n (yes h) d = omega (arith, ap bit (ltb_is x (suc n) (omega arith)), ap bit (ltb_is x n h), bit_other x n (omega arith))
bit_suc x n (no h) (yes e) = omega (arith, ap bit (ltb_is x (suc n) (omega arith)), ap bit (ltb_not x n (omega arith)), bit_same x n e)
bit_suc x n (no h) (no e) = omega (arith, ap bit (ltb_not x (suc n) (omega arith)), ap bit (ltb_not x n (omega arith)), bit_other x n e)

below_suc : (n : ℕ) (xs : List ℕ) → below (suc n) xs ≡ below n xs + times n xs
unfolding below
below_suc n [] = refl
below_suc n (x ∷ xs) = omega (arith, below_suc n xs, bit_suc x n (dec_lt x n) (ℕ_discrete x n))

below_all : (n : ℕ) (xs : List ℕ) → All (λ x. x < n) xs → below n xs ≡ length xs
unfolding below
below_all n [] a = refl
below_all n (x ∷ xs) a = omega (arith, below_all n xs a.1, ap bit (ltb_is x n a.0))

below_most : (n : ℕ) (xs : List ℕ) → ((y : ℕ) → times y xs ≤ 1) → below n xs ≤ n
below_most zero xs h = omega (arith, below_none xs)
below_most (suc n) xs h = omega (arith, below_suc n xs, below_most n xs h, h n)

pub pigeonholes : (n : ℕ) (xs : List ℕ) → All (λ x. x < n) xs → ((y : ℕ) → times y xs ≤ 1) → length xs ≤ n
pigeonholes n xs a h = omega (arith, below_all n xs a, below_most n xs h)

-- ---- chains

module _ (S : Settings) (m : List ℕ) where
  pub chain_length : (n x : ℕ) → length (chain S m n x) ≡ n
  unfolding chain
  chain_length zero x = refl
  chain_length (suc n) x = ap suc (chain_length n (get S m Next (slot S x)))

  pub nodes_length : (l : ℕ) → length (nodes_of S m l) ≡ get S m Count l
  unfolding nodes_of
  nodes_length l = chain_length (get S m Count l) (get S m Head l)

  -- a chain that goes on, with n nodes to go, or with i of n behind
  pub chain_more : (n x : ℕ) → 0 < n → chain S m n x ≡ x ∷ chain S m (n - 1) (get S m Next (slot S x))
  unfolding chain
  chain_more n x h = let e : n ≡ suc (n - 1) = omega arith in ap (λ (k : ℕ). chain S m k x) e

  pub chain_front : (n i x : ℕ) → i < n → chain S m (n - i) x ≡ x ∷ chain S m (n - (i + 1)) (get S m Next (slot S x))
  unfolding chain
  chain_front n i x h = let e : n - i ≡ suc (n - (i + 1)) = omega arith in ap (λ (k : ℕ). chain S m k x) e

  -- a list that is not empty, as a chain and from its front
  pub nodes_full : (l : ℕ) → 0 < get S m Count l → nodes_of S m l ≡ chain S m (suc (get S m Count l - 1)) (get S m Head l)
  unfolding nodes_of
  nodes_full l h =
      let e : get S m Count l ≡ suc (get S m Count l - 1) = omega arith in
      ap (λ (n : ℕ). chain S m n (get S m Head l)) e

  pub nodes_front : (l : ℕ) → 0 < get S m Count l
      → nodes_of S m l ≡ get S m Head l ∷ chain S m (get S m Count l - 1) (get S m Next (slot S (get S m Head l)))
  unfolding chain
  nodes_front l h = nodes_full l h

  -- the last node stands once more in a chain than before it
  pub times_last : (n x d t : ℕ) → last_d (chain S m (suc n) x) d ≡ t → times t (chain S m (suc n) x) ≡ times t (chain S m n x) + 1
  unfolding chain
  times_last zero x d t e = omega (arith, bit_same x t e)
  times_last (suc n) x d t e = omega (arith, times_last n (get S m Next (slot S x)) x t e)

  pub All-shorter : (Q : ℕ → Type 0) (n x : ℕ) → All Q (chain S m (suc n) x) → All Q (chain S m n x)
  unfolding chain
  All-shorter Q zero x a = tt
  All-shorter Q (suc n) x a = (a.0, All-shorter Q n (get S m Next (slot S x)) a.1)

  -- ---- what a memory shows

  pub item_node : (l x : ℕ) → (node_in S m l x).node ≡ x
  unfolding node_in packet_at
  item_node l x = go (eqb (l % row S) 0)
    where
      go : (b : Bool) → (cond b (bare x) (packet_at S m x)).node ≡ x
      go true = refl
      go false = refl

  -- in a list that is not free
  pub item_used : (l x : ℕ) → l % row S ≢ 0 → node_in S m l x ≡ packet_at S m x
  unfolding node_in
  item_used l x n = rw (eqb_not (l % row S) 0 n)

  abbrev pub shown : ℕ → List Packet
  shown l = map (node_in S m l) (nodes_of S m l)

  pub length_lists : length (ledger_in S m).lists ≡ lists S
  unfolding ledger_in
  length_lists = length_tabulate shown 0 (lists S)

  pub list_at_lem : (l : ℕ) → l < lists S → get_or (ledger_in S m).lists l [] ≡ map (node_in S m l) (nodes_of S m l)
  unfolding ledger_in
  list_at_lem l h = get_d_table shown (lists S) l [] h

  pub list_length : (l : ℕ) → l < lists S → length (get_or (ledger_in S m).lists l []) ≡ get S m Count l
  list_length l h = ap length (list_at_lem l h) ∙ length-map (nodes_of S m l) (node_in S m l) ∙ nodes_length l

  pub list_empty : (l : ℕ) → l < lists S → get S m Count l ≡ 0 → get_or (ledger_in S m).lists l [] ≡ []
  unfolding nodes_of chain
  list_empty l h e = list_at_lem l h ∙ ap (λ (n : ℕ). map (node_in S m l) (chain S m n (get S m Head l))) e

  times_items : (y k l : ℕ) (xs : List ℕ) → sum (one y k) (map (node_in S m l) xs) ≡ times y xs
  times_items y k l [] = refl
  times_items y k l (x ∷ xs) = omega (arith, ap (λ (z : ℕ). bit (eqb z y)) (item_node l x), times_items y k l xs)

  times_at : (y l : ℕ) → l < lists S → sum (one y l) (get_or (ledger_in S m).lists l []) ≡ times y (nodes_of S m l)
  times_at y l h = ap (sum (one y l)) (list_at_lem l h) ∙ times_items y l l (nodes_of S m l)

  -- a node is counted in a list, and in two
  pub times_le : (y l : ℕ) → l < lists S → times y (nodes_of S m l) ≤ weigh (one y) (ledger_in S m).lists
  times_le y l h = omega (arith, times_at y l h, sum_below (one y) (ledger_in S m).lists l)

  pub times_two : (y k l : ℕ) → k < lists S → l < lists S → l ≢ k → times y (nodes_of S m k) + times y (nodes_of S m l) ≤ weigh (one y) (ledger_in S m).lists
  times_two y k l hk hl n =
      let ls = (ledger_in S m).lists in
      let w = weigh_set (one y) ls k [] (rw length_lists hk) in
      let o : sum (one y l) (get_or ls l []) ≤ weigh (one y) (set ls k []) = rw (get_or-set_other ls k l [] [] n) at (sum_below (one y) (set ls k []) l) in
      omega (arith, times_at y k hk, times_at y l hl)

-- ---- nodes and their elements

bit_true : (b : Bool) → 1 ≤ bit b → b ≡ true
bit_true true h = refl
bit_true false h = absurd (omega arith)

module _ (S : Settings) where
  pub node_from : (y : ℕ) → is_node S y ≡ true → Node S y
  node_from y e = node_of S y (rw e (omega arith))

  pub node_below : (y : ℕ) → is_node S y ≡ true → y < S.ports * 2048
  node_below y e = let n = node_from y e in omega arith

  pub node_lt : (y : ℕ) → Roomy S → is_node S y ≡ true → y < 65536
  node_lt y R e = omega (arith, node_below y e)

  pub slot_lt : (y : ℕ) → is_node S y ≡ true → slot S y < all S
  unfolding slot
  slot_lt y e = let n = node_from y e in row_lt S.nodes S.ports (owner y) (index y) n.home n.low

  pub slot_inj : (x y : ℕ) → is_node S x ≡ true → is_node S y ≡ true → slot S x ≡ slot S y → x ≡ y
  unfolding slot
  slot_inj x y d e p =
      let i = row_inj S.nodes (owner x) (owner y) (index x) (index y) (node_from x d).low (node_from y e).low p in
      omega arith

  -- an element for each node in a table of records
  many_record : (t : Table) → IsRecord t → many S t ≡ all S
  many_record Setting h = absurd (omega arith)
  many_record Mapped h = absurd (omega arith)
  many_record Last h = absurd (omega arith)
  many_record Halted h = absurd (omega arith)
  many_record Arrival h = absurd (omega arith)
  many_record Outward h = absurd (omega arith)
  many_record Buckets h = absurd (omega arith)
  many_record Head h = absurd (omega arith)
  many_record Tail h = absurd (omega arith)
  many_record Count h = absurd (omega arith)
  many_record Next h = absurd (omega arith)
  many_record Length h = refl
  many_record Stamp h = refl
  many_record Queue h = refl
  many_record Dest h = refl
  many_record Poisoned h = refl
  many_record Transaction h = refl
  many_record Price h = refl

  pub slot_record : (y : ℕ) (t : Table) → is_node S y ≡ true → IsRecord t → slot S y < many S t
  slot_record y t e h = rw (many_record t h) (slot_lt y e)

-- ---- who stands in the lists of a tidy memory

-- a switch state is tidy
pub state_tidy : (S : Settings) (m : List ℕ) → StateOf S m → Tidy S m
state_tidy S m s = record { long = s.long; hangs = s.hangs; once = λ y. omega (arith, s.sound.orderly.once y) }

module _ (S : Settings) (m : List ℕ) (P : Tidy S m) where
  pub members : (l : ℕ) → l < lists S → All (λ y. is_node S y ≡ true) (nodes_of S m l)
  members l h =
      let c = (counted (ledger_in S m).lists).holds l (rw length_lists h) in
      All-map (nodes_of S m l) node (All-unmap _ (node_in S m l) (nodes_of S m l) (rw (list_at_lem S m l h) at c))
    where
      node : (y : ℕ) → 1 ≤ weigh (one (node_in S m l y).node) (ledger_in S m).lists → is_node S y ≡ true
      node y k = bit_true (is_node S y) (let k' = rw (item_node S m l y) at k in omega (arith, P.once y))

  pub once_most : (y : ℕ) → weigh (one y) (ledger_in S m).lists ≤ 1
  once_most y = omega (arith, P.once y, bit_le (is_node S y))

  pub head_is_node : (l : ℕ) → l < lists S → 0 < get S m Count l → is_node S (get S m Head l) ≡ true
  head_is_node l h k = (rw (nodes_front S m l k) at (members l h)).0

  -- the end of a list that is not empty is its tail, which stands there alone
  pub nodes_end : (l : ℕ) → l < lists S → 0 < get S m Count l
      → last_d (chain S m (suc (get S m Count l - 1)) (get S m Head l)) (get S m Tail l) ≡ get S m Tail l
  nodes_end l h k = rw (nodes_full S m l k) at (P.hangs l h)

  pub tail_times : (l : ℕ) → l < lists S → 0 < get S m Count l
      → times (get S m Tail l) (nodes_of S m l) ≡ times (get S m Tail l) (chain S m (get S m Count l - 1) (get S m Head l)) + 1
  tail_times l h k = rw (nodes_full S m l k) (times_last S m (get S m Count l - 1) (get S m Head l) (get S m Tail l) (get S m Tail l) (nodes_end l h k))

  pub tail_is_node : (l : ℕ) → l < lists S → 0 < get S m Count l → is_node S (get S m Tail l) ≡ true
  tail_is_node l h k = bit_true (is_node S (get S m Tail l)) (omega (arith, tail_times l h k, times_le S m (get S m Tail l) l h, P.once (get S m Tail l)))

  -- a list is no longer than there are entry ids
  pub count_bound : (l : ℕ) → l < lists S → get S m Count l ≤ S.ports * 2048
  count_bound l h =
      omega (
        arith,
        nodes_length S m l,
        pigeonholes (S.ports * 2048) (nodes_of S m l) (All-map (nodes_of S m l) (node_below S) (members l h))
            (λ y. omega (arith, times_le S m y l h, once_most y)),
      )

  pub total_bound : Roomy S → (l : ℕ) → l < lists S → get S m Count l ≤ 65536
  total_bound R l h = omega (arith, count_bound l h)

-- ---- which changes leave a list as it is

module _ (S : Settings) (m m' : List ℕ) where
  -- the node after y is the same
  abbrev pub SameNext : ℕ → Type 0
  SameNext y = get S m' Next (slot S y) ≡ get S m Next (slot S y)

  pub chain_same : (n x : ℕ) → All SameNext (chain S m n x) → chain S m' n x ≡ chain S m n x
  unfolding chain
  chain_same zero x a = refl
  chain_same (suc n) x a = rw a.0 (ap (λ (ys : List ℕ). x ∷ ys) (chain_same n (get S m Next (slot S x)) a.1))

  -- a chain with one node more, after its last
  pub chain_grown : (n x d z : ℕ) → All SameNext (chain S m n x) → get S m' Next (slot S (last_d (chain S m (suc n) x) d)) ≡ z
      → chain S m' (suc (suc n)) x ≡ chain S m (suc n) x ++ (z ∷ [])
  unfolding chain
  chain_grown zero x d z a e = ap (λ (y : ℕ). x ∷ y ∷ []) e
  chain_grown (suc n) x d z a e = rw a.0 (ap (λ (ys : List ℕ). x ∷ ys) (chain_grown n (get S m Next (slot S x)) x z a.1 e))

  pub nodes_same : (l : ℕ) → get S m' Head l ≡ get S m Head l → get S m' Count l ≡ get S m Count l → All SameNext (nodes_of S m l)
      → nodes_of S m' l ≡ nodes_of S m l
  unfolding nodes_of
  nodes_same l h c a = rw (h, c) (chain_same (get S m Count l) (get S m Head l) a)

  pub packet_same : (y : ℕ) → ((t : Table) → IsRecord t → get S m' t (slot S y) ≡ get S m t (slot S y)) → packet_at S m' y ≡ packet_at S m y
  unfolding packet_at
  packet_same y h =
      λ i. record {
        node = y;
        len = h Length (omega arith) i;
        queue = h Queue (omega arith) i;
        dest = h Dest (omega arith) i;
        stamp = h Stamp (omega arith) i;
        poisoned = h Poisoned (omega arith) i;
        transaction = h Transaction (omega arith) i;
        price = h Price (omega arith) i;
      }

  pub item_same : (l y : ℕ) → packet_at S m' y ≡ packet_at S m y → node_in S m' l y ≡ node_in S m l y
  unfolding node_in
  item_same l y e = ap (cond (eqb (l % row S) 0) (bare y)) e

  -- nodes with the same records are shown as before
  pub items_same : (l : ℕ) (ys : List ℕ) → All (λ y. packet_at S m' y ≡ packet_at S m y) ys → map (node_in S m' l) ys ≡ map (node_in S m l) ys
  items_same l ys a = map_same (node_in S m' l) (node_in S m l) ys (All-map ys (item_same l) a)

  -- tables before those of the lists that are the same
  pub rest_same : ((t : Table) (j : ℕ) → turn_of t < turn_of Head → j < many S t → get S m' t j ≡ get S m t j) → SameNumbers (ledger_in S m) (ledger_in S m')
  unfolding ledger_in
  rest_same h c =
      table_ext (get S m' (table_of c)) (get S m (table_of c)) (tall S c) (λ j k. let f = column_table S c in h (table_of c) j f.low (rw f.long k))

pub with_lists_lem : (L L' : Ledger) (ls : List (List Packet)) → L'.lists ≡ ls → SameNumbers L L' → L' ≡ with_lists ls L
with_lists_lem L L' ls e r = λ i. record { lists = e i; numbers = λ c. r c i }

-- tables apart in their order are different tables
pub differ : (t r : Table) → turn_of t ≢ turn_of r → t ≢ r
differ t r n e = n (ap turn_of e)
