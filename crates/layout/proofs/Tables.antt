-- The laws of the tables: they fill a state's bytes, no two elements share a byte, and what lies past the size is neither read nor written.
-- Assumes nothing.
use mathlib.Core.Path.{◌≡◌, refl, sym, ap, ◌∙◌}
use mathlib.Core.Logic.{◌≢◌, ◌⊎◌, inl, inr}
use mathlib.Core.List.{List, [], ◌∷◌, ◌++◌}
use Prim.Native.Nat.{ℕ, zero, suc, ◌+◌, ◌*◌, ◌/◌, ◌%◌, ◌^◌, ◌≤◌, ◌<◌}
use native.Mathlib.Nat.{mul-le-mul_right, div-add-mod', zero-add, le_of_suc-le-suc, not-suc-le-zero}
use native.Mathlib.Decide.{dec_le}
use native.Mathlib.Omega.{arith}
use lib.ListN.{length, get_or, take, drop, set, replicate, length-drop, length-set, get_or-append}
use lib.Seq.{take_all, take-nil, set-append_left, get_or-drop, ext_get_or}
use Rattle.numbers.specs.Bytes.{number, store}
use Rattle.numbers.proofs.Bytes.{number_lt, length_store, byte_apart, number_same, number_apart, number_stored_small, store_back}
use Rattle.ledger.specs.Settings.{Settings, setting_count, size}
use Rattle.ledger.specs.Ledger.{owner, index}
use Rattle.ledger.specs.Sound.{sum}
use Rattle.ledger.proofs.Places.{row_lt, row_inj, Node}
use Rattle.layout.specs.declared.Table.{Table}
use Rattle.layout.specs.declared.Table.TheVariants.{Setting, Mapped, Last, Halted, Arrival, Outward, Buckets, Head, Tail, Count, Next, Length, Stamp}
use Rattle.layout.specs.declared.Table.TheVariants.{Queue, Dest, Poisoned, Transaction, Price}
use Rattle.layout.specs.Tables.{turn_of, width, all, many, bytes_of, tables, sizes, start_of, get, put}
use Rattle.layout.specs.Picture.{settings_in, slot}

-- ---- lists

-- what stands before a later place of a row has room for what stands at an earlier one
before : (xs : List ℕ) (i j : ℕ) → i < j → sum (λ n. n) (take i xs) + get_or xs i 0 ≤ sum (λ n. n) (take j xs)
before [] i j h = rw (take-nil i, take-nil j) (omega arith)
before (x ∷ xs) i zero h = absurd (not-suc-le-zero h)
before (x ∷ xs) zero (suc j) h = omega arith
before (x ∷ xs) (suc i) (suc j) h = omega (arith, before xs i j (le_of_suc-le-suc h))

before_end : (xs : List ℕ) (i : ℕ) → sum (λ n. n) (take i xs) + get_or xs i 0 ≤ sum (λ n. n) xs
before_end xs i =
    let j : ℕ = suc i + length xs in
    rw (take_all j xs (omega arith)) at (before xs i j (omega arith))

store_append : (k : ℕ) (xs ys : List ℕ) (at v : ℕ) → at + k ≤ length xs → store k (xs ++ ys) at v ≡ store k xs at v ++ ys
unfolding store
store_append zero xs ys at v h = refl
store_append (suc k) xs ys at v h =
    let b : ℕ = v / 256 ^ k % 256 in
    ap (λ (l : List ℕ). store k l (suc at) v) (set-append_left xs ys at b (omega arith))
    ∙ store_append k (set xs at b) ys (suc at) v (omega (arith, length-set xs at b))

number_zero : (k : ℕ) (m : List ℕ) (at : ℕ) → ((j : ℕ) → get_or m j 0 ≡ 0) → number k m at ≡ 0
unfolding number
number_zero zero m at h = refl
number_zero (suc k) m at h = rw (h at, number_zero k m (suc at) h) (omega arith)

pub zeros : (n j : ℕ) → ◌≡◌ {A = ℕ} (get_or (replicate n 0) j 0) 0
zeros zero j = refl
zeros (suc n) zero = refl
zeros (suc n) (suc j) = zeros n j

-- ---- where the tables stand

-- a turn gives its table back
turn : (S : Settings) (t : Table) → (get_or tables (turn_of t) Setting ≡ t) × (get_or (sizes S) (turn_of t) 0 ≡ bytes_of S t)
turn S Setting = (refl, refl)
turn S Mapped = (refl, refl)
turn S Last = (refl, refl)
turn S Halted = (refl, refl)
turn S Arrival = (refl, refl)
turn S Outward = (refl, refl)
turn S Buckets = (refl, refl)
turn S Head = (refl, refl)
turn S Tail = (refl, refl)
turn S Count = (refl, refl)
turn S Next = (refl, refl)
turn S Length = (refl, refl)
turn S Stamp = (refl, refl)
turn S Queue = (refl, refl)
turn S Dest = (refl, refl)
turn S Poisoned = (refl, refl)
turn S Transaction = (refl, refl)
turn S Price = (refl, refl)

pub tables_fill : (S : Settings) → sum (λ n. n) (sizes S) ≡ size S
unfolding size
tables_fill S = omega arith

-- where element i of a table stands
abbrev place : Settings → Table → ℕ → ℕ
place S t i = start_of S t + i * width t

module _ (S : Settings) (t : Table) where
  turn_inj : (r : Table) → turn_of t ≡ turn_of r → t ≡ r
  turn_inj r e = sym (turn S t).0 ∙ ap (λ (n : ℕ). get_or tables n Setting) e ∙ (turn S r).0

  -- a table's bytes lie before a later table, and before the size
  tables_apart : (r : Table) → turn_of t < turn_of r → start_of S t + bytes_of S t ≤ start_of S r
  unfolding start_of
  tables_apart r h = rw (turn S t).1 at (before (sizes S) (turn_of t) (turn_of r) h)

  table_within : start_of S t + bytes_of S t ≤ size S
  unfolding start_of
  table_within = rw ((turn S t).1, tables_fill S) at (before_end (sizes S) (turn_of t))

  -- an element's bytes lie before a later element, and before the table's end
  elements_apart : (i j : ℕ) → i < j → place S t i + width t ≤ place S t j
  elements_apart i j h = omega (arith, mul-le-mul_right (width t) h)

  element_within : (i : ℕ) → i < many S t → place S t i + width t ≤ start_of S t + bytes_of S t
  element_within i h = omega (arith, mul-le-mul_right (width t) h)

  pub within : (i : ℕ) → i < many S t → start_of S t + i * width t + width t ≤ size S
  within i h = omega (arith, element_within i h, table_within)

-- two elements share no byte
apart : (S : Settings) (t : Table) (i : ℕ) (r : Table) (j : ℕ) → i < many S t → j < many S r → (t ≡ r → i ≡ j → ⊥)
    → (place S r j + width r ≤ place S t i) ⊎ (place S t i + width t ≤ place S r j)
apart S t i r j hi hj ne = go (dec_le (suc (turn_of t)) (turn_of r)) (dec_le (suc (turn_of r)) (turn_of t))
  where
    same : (r : Table) → t ≡ r → (i ≡ j → ⊥) → Dec (i < j) → (place S r j + width r ≤ place S t i) ⊎ (place S t i + width t ≤ place S r j)
    same r e n (yes h) = inr (rw e (elements_apart S r i j h))
    same r e n (no h) = inl (rw e (elements_apart S r j i (omega arith)))

    go : Dec (turn_of t < turn_of r) → Dec (turn_of r < turn_of t) → (place S r j + width r ≤ place S t i) ⊎ (place S t i + width t ≤ place S r j)
    go (yes h) d = inr (omega (arith, element_within S t i hi, tables_apart S t r h))
    go (no h) (yes k) = inl (omega (arith, element_within S r j hj, tables_apart S r t k))
    go (no h) (no k) = let e : t ≡ r = turn_inj S t r (omega arith) in same r e (ne e) (dec_le (suc i) j)

-- ---- reading and writing

pub length_put : (S : Settings) (t : Table) (i v : ℕ) (m : List ℕ) → length (put S t i v m) ≡ length m
unfolding put
length_put S t i v m = length_store (width t) m (place S t i) v

pub get_lt : (S : Settings) (m : List ℕ) (t : Table) (i : ℕ) → get S m t i < 256 ^ width t
unfolding get
get_lt S m t i = number_lt (width t) m (place S t i)

pub get_put : (S : Settings) (m : List ℕ) (t : Table) (i v : ℕ) → size S ≤ length m → i < many S t → v < 256 ^ width t → get S (put S t i v m) t i ≡ v
unfolding get put
get_put S m t i v long h small = number_stored_small (width t) m (place S t i) v (omega (arith, within S t i h)) small

-- an element that was there, put back
pub put_back : (S : Settings) (m : List ℕ) (t : Table) (i v : ℕ) → ((j : ℕ) → get_or m j 0 < 256) → size S ≤ length m → i < many S t
    → put S t i (get S m t i) (put S t i v m) ≡ m
unfolding get put
put_back S m t i v small long h = store_back (width t) m (place S t i) v small (omega (arith, within S t i h))

-- where an element is a byte, storing one sets it
pub put_byte : (S : Settings) (t : Table) (i v : ℕ) (m : List ℕ) → width t ≡ 1 → v < 256 → put S t i v m ≡ set m (start_of S t + i) v
unfolding put store
put_byte S t i v m one small =
    let at : start_of S t + i * 1 ≡ start_of S t + i = omega arith in
    let low : v / 1 % 256 ≡ v = omega arith in
    rw (one, at, low)

pub get_put_else : (S : Settings) (m : List ℕ) (t : Table) (i v : ℕ) (r : Table) (j : ℕ)
    → i < many S t → j < many S r → (t ≡ r → i ≡ j → ⊥) → get S (put S t i v m) r j ≡ get S m r j
unfolding get put
get_put_else S m t i v r j hi hj ne = number_apart (width r) (width t) m (place S t i) v (place S r j) (apart S t i r j hi hj ne)

-- what is put in a table isn't read in one behind it, at whatever index
pub get_put_behind : (S : Settings) (m : List ℕ) (t : Table) (i v : ℕ) (r : Table) (j : ℕ)
    → i < many S t → turn_of t < turn_of r → get S (put S t i v m) r j ≡ get S m r j
unfolding get put
get_put_behind S m t i v r j hi h =
    number_apart (width r) (width t) m (place S t i) v (place S r j) (inr (omega (arith, element_within S t i hi, tables_apart S t r h)))

-- what is read goes by the bytes below the size
pub get_same : (S : Settings) (m n : List ℕ) (t : Table) (i : ℕ) → i < many S t → ((j : ℕ) → j < size S → get_or m j 0 ≡ get_or n j 0)
    → get S m t i ≡ get S n t i
unfolding get
get_same S m n t i h same = number_same (width t) m n (place S t i) (λ j low high. same j (omega (arith, within S t i h)))

pub get_append : (S : Settings) (t : Table) (i : ℕ) (xs ys : List ℕ) → i < many S t → size S ≤ length xs → get S (xs ++ ys) t i ≡ get S xs t i
get_append S t i xs ys h long = get_same S (xs ++ ys) xs t i h (λ j low. get_or-append xs ys 0 j (omega arith))

pub put_append : (S : Settings) (t : Table) (i v : ℕ) (xs ys : List ℕ) → i < many S t → size S ≤ length xs → put S t i v (xs ++ ys) ≡ put S t i v xs ++ ys
unfolding put
put_append S t i v xs ys h long = store_append (width t) xs ys (place S t i) v (omega (arith, within S t i h))

pub byte_past : (S : Settings) (t : Table) (i v j : ℕ) (m : List ℕ) → i < many S t → size S ≤ j → get_or (put S t i v m) j 0 ≡ get_or m j 0
unfolding put
byte_past S t i v j m h past = byte_apart (width t) m (place S t i) v j (inr (omega (arith, within S t i h)))

pub drop_put : (S : Settings) (t : Table) (i v : ℕ) (m : List ℕ) → i < many S t → drop (size S) (put S t i v m) ≡ drop (size S) m
drop_put S t i v m h =
    ext_get_or 0 (drop (size S) (put S t i v m)) (drop (size S) m)
    (simp (length-drop, length_put))
    (λ j low. simp get_or-drop (byte_past S t i v (size S + j) m h (omega arith)))

-- in bytes that are all 0 every element is 0
pub get_zero : (S : Settings) (m : List ℕ) (t : Table) (i : ℕ) → ((j : ℕ) → get_or m j 0 ≡ 0) → get S m t i ≡ 0
unfolding get
get_zero S m t i h = number_zero (width t) m (place S t i) h

-- ---- the settings

settings_same : (m n : List ℕ) → ((k : ℕ) → k < setting_count → number 2 m (k * 2) ≡ number 2 n (k * 2)) → settings_in m ≡ settings_in n
unfolding settings_in
settings_same m n same =
    rw (
      same 0 (omega arith),
      same 1 (omega arith),
      same 2 (omega arith),
      same 3 (omega arith),
      same 4 (omega arith),
      same 5 (omega arith),
      same 6 (omega arith),
      same 7 (omega arith),
    )

pub settings_put : (S : Settings) (m : List ℕ) (t : Table) (i v : ℕ) → i < many S t → t ≢ Setting → settings_in (put S t i v m) ≡ settings_in m
unfolding get start_of
settings_put S m t i v h ne = settings_same (put S t i v m) m (λ k small. simp zero-add at (get_put_else S m t i v Setting k h small (λ e same. ne e)))

-- ---- nodes

pub slot_lt : (S : Settings) (x : ℕ) → Node S x → slot S x < all S
unfolding slot
slot_lt S x n = row_lt S.nodes S.ports (owner x) (index x) n.home n.low

pub slot_inj : (S : Settings) (x y : ℕ) → Node S x → Node S y → slot S x ≡ slot S y → x ≡ y
unfolding slot
slot_inj S x y n o e =
    let same = row_inj S.nodes (owner x) (owner y) (index x) (index y) n.low o.low e in
    omega (arith, same.0, same.1, div-add-mod' x 2048, div-add-mod' y 2048)
