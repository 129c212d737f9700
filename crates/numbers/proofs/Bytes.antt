-- The laws of `number`, `store` and `digits`, over the count of bytes k. Assumes nothing.
use mathlib.Core.Path.{◌≡◌, refl, sym, ap, ap₂, ◌∙◌}
use mathlib.Core.Logic.{◌⊎◌, inl, inr}
use mathlib.Core.List.{List, [], ◌∷◌, ◌++◌}
use Prim.Native.Nat.{ℕ, zero, suc, ◌+◌, ◌-◌, ◌*◌, ◌/◌, ◌%◌, ◌^◌, ◌≤◌, ◌<◌}
use native.Mathlib.Nat.{mod-lt, mod-mod, mod-eq_of_lt, div-one, div-add-mod', div-div-eq-div-mul, mul-add-div_right, mul-add-mod_self_right}
use native.Mathlib.Nat.{one-le-pow, zero-lt-suc, pow-suc, pow-succ', zero-add, add-zero, suc-add, add-suc, add_comm, mul-suc, mul_assoc, add-mul}
use native.Mathlib.Nat.{add_assoc, not-suc-le-zero}
use native.Mathlib.Decide.{dec_le}
use native.Mathlib.Omega.{arith}
use lib.Arith.{digits_lt, digits_div, mod-mul}
use lib.ListN.{length, get_or, set, take, drop, length-set}
use lib.Pow.{pow-add}
use lib.Seq.{drop-cons, get_or-append-add, get_or-set_same, get_or-set_other, get_or-take, get_or-drop, ext_get_or}
use Rattle.numbers.specs.Bytes.{number, store, digits}

-- the byte of v that has k bytes below it: the first of suc k bytes
abbrev byte : ℕ → ℕ → ℕ
byte k v = v / 256 ^ k % 256

positive : (k : ℕ) → 0 < 256 ^ k
positive k = one-le-pow k 256 (zero-lt-suc 255)

pub number_lt : (k : ℕ) (m : List ℕ) (at : ℕ) → number k m at < 256 ^ k
unfolding number
number_lt zero m at = zero-lt-suc 0
number_lt (suc k) m at = rw pow-succ' (digits_lt (mod-lt (get_or m at 0) (zero-lt-suc 255)) (number_lt k m (suc at)))

pub length_store : (k : ℕ) (m : List ℕ) (at v : ℕ) → length (store k m at v) ≡ length m
unfolding store
length_store zero m at v = refl
length_store (suc k) m at v = length_store k (set m at (byte k v)) (suc at) v ∙ length-set m at (byte k v)

-- a byte beside the store is kept
pub byte_apart : (k : ℕ) (m : List ℕ) (at v i : ℕ) → (i < at) ⊎ (at + k ≤ i) → get_or (store k m at v) i 0 ≡ get_or m i 0
unfolding store
byte_apart zero m at v i h = refl
byte_apart (suc k) m at v i (inl h) = byte_apart k (set m at (byte k v)) (suc at) v i (inl (omega arith)) ∙ get_or-set_other m at i (byte k v) 0 (omega arith)
byte_apart (suc k) m at v i (inr h) = byte_apart k (set m at (byte k v)) (suc at) v i (inr (omega arith)) ∙ get_or-set_other m at i (byte k v) 0 (omega arith)

-- a number goes by its own bytes only
pub number_same : (k : ℕ) (m n : List ℕ) (at : ℕ) → ((i : ℕ) → at ≤ i → i < at + k → get_or m i 0 ≡ get_or n i 0) → number k m at ≡ number k n at
unfolding number
number_same zero m n at same = refl
number_same (suc k) m n at same =
    ap₂ (λ (b r : ℕ). b % 256 * 256 ^ k + r) (same at (omega arith) (omega arith))
    (number_same k m n (suc at) (λ i low high. same i (omega arith) (omega arith)))

-- a number that stands beside the store is kept
pub number_apart : (j k : ℕ) (m : List ℕ) (at v b : ℕ) → (b + j ≤ at) ⊎ (at + k ≤ b) → number j (store k m at v) b ≡ number j m b
number_apart j k m at v b (inl h) = number_same j (store k m at v) m b (λ i low high. byte_apart k m at v i (inl (omega arith)))
number_apart j k m at v b (inr h) = number_same j (store k m at v) m b (λ i low high. byte_apart k m at v i (inr (omega arith)))

-- what is read where a number was stored: its k lowest bytes
pub number_stored : (k : ℕ) (m : List ℕ) (at v : ℕ) → at + k ≤ length m → number k (store k m at v) at ≡ v % 256 ^ k
unfolding number store
number_stored zero m at v h = omega arith
number_stored (suc k) m at v h =
    let b : ℕ = byte k v in
    let first : get_or (store k (set m at b) (suc at) v) at 0 % 256 ≡ b =
    ap (λ (x : ℕ). x % 256) (byte_apart k (set m at b) (suc at) v at (inl (omega arith)) ∙ get_or-set_same m at b 0 (omega arith)) ∙ omega arith in
    let rest : number k (store k (set m at b) (suc at) v) (suc at) ≡ v % 256 ^ k =
    number_stored k (set m at b) (suc at) v (omega (arith, length-set m at b)) in
    ap₂ (λ (x y : ℕ). x * 256 ^ k + y) first rest ∙ sym (ap (λ (x : ℕ). v % x) (pow-succ' 256 k) ∙ mod-mul v (zero-lt-suc 255) (positive k))

pub number_stored_small : (k : ℕ) (m : List ℕ) (at v : ℕ) → at + k ≤ length m → v < 256 ^ k → number k (store k m at v) at ≡ v
number_stored_small k m at v h small = number_stored k m at v h ∙ mod-eq_of_lt small

-- a number is its first j bytes and then the other k
pub number_split : (j k : ℕ) (m : List ℕ) (at : ℕ) → number (j + k) m at ≡ number j m at * 256 ^ k + number k m (at + j)
unfolding number
number_split zero k m at = rw (zero-add, add-zero) (omega arith)
number_split (suc j) k m at =
    let b : ℕ = get_or m at 0 % 256 in
    let place : suc at + j ≡ at + suc j = omega arith in
    ap (λ (n : ℕ). number n m at) (suc-add j k)
    ∙ ap₂ (λ (p r : ℕ). b * p + r) (pow-add 256 j k) (number_split j k m (suc at))
    ∙ rw (place, add-mul, mul_assoc, add_assoc)

set_small : (m : List ℕ) (at b i : ℕ) → b < 256 → get_or m i 0 < 256 → get_or (set m at b) i 0 < 256
set_small [] at b i small h = h
set_small (x ∷ m) zero b zero small h = small
set_small (x ∷ m) zero b (suc i) small h = h
set_small (x ∷ m) (suc at) b zero small h = h
set_small (x ∷ m) (suc at) b (suc i) small h = set_small m at b i small h

-- a store keeps every byte below 256
pub stored_bytes_small : (k : ℕ) (m : List ℕ) (at v i : ℕ) → get_or m i 0 < 256 → get_or (store k m at v) i 0 < 256
unfolding store
stored_bytes_small zero m at v i h = h
stored_bytes_small (suc k) m at v i h =
    stored_bytes_small k (set m at (byte k v)) (suc at) v i (set_small m at (byte k v) i (omega arith) h)

-- ---- the bytes of a number

pub length_digits : (k v : ℕ) → length (digits k v) ≡ k
unfolding digits
length_digits zero v = refl
length_digits (suc k) v = ap suc (length_digits k v)

pub digits_low : (k v i : ℕ) → get_or (digits k v) i 0 < 256
unfolding digits
digits_low zero v i = zero-lt-suc 255
digits_low (suc k) v zero = mod-lt (v / 256 ^ k) (zero-lt-suc 255)
digits_low (suc k) v (suc i) = digits_low k v i

-- what lies above the k bytes is left out
pub digits_above : (k x y : ℕ) → digits k (x * 256 ^ k + y) ≡ digits k y
unfolding digits
digits_above zero x y = refl
digits_above (suc k) x y =
    let e : x * 256 ^ suc k ≡ x * 256 * 256 ^ k = rw (pow-succ' 256 k, mul_assoc x 256 (256 ^ k)) in
    let first : byte k (x * 256 * 256 ^ k + y) ≡ byte k y =
    ap (λ (n : ℕ). n % 256) (mul-add-div_right (positive k) (x * 256) y) ∙ mul-add-mod_self_right x 256 (y / 256 ^ k) in
    ap (λ (n : ℕ). byte k (n + y) ∷ digits k (n + y)) e
    ∙ ap₂ (λ (b : ℕ) (bs : List ℕ). b ∷ bs) first (digits_above k (x * 256) y)

pub digits_mod : (k v : ℕ) → digits k (v % 256 ^ k) ≡ digits k v
digits_mod k v = sym (digits_above k (v / 256 ^ k) (v % 256 ^ k)) ∙ ap (digits k) (div-add-mod' v (256 ^ k))

-- the bytes of a number put together: first those of the high part
pub digits_join : (a b x y : ℕ) → y < 256 ^ b → digits (a + b) (x * 256 ^ b + y) ≡ digits a x ++ digits b y
unfolding digits
digits_join zero b x y small = rw zero-add (digits_above b x y)
digits_join (suc a) b x y small =
    let n : ℕ = x * 256 ^ b + y in
    let first : byte (a + b) n ≡ byte a x =
    ap (λ (e : ℕ). n / 256 ^ e % 256) (add_comm a b)
    ∙ ap (λ (p : ℕ). n / p % 256) (pow-add 256 b a)
    ∙ sym (ap (λ (q : ℕ). q % 256) (div-div-eq-div-mul n (256 ^ b) (256 ^ a)))
    ∙ ap (λ (q : ℕ). q / 256 ^ a % 256) (digits_div x small) in
    ap (λ (k : ℕ). digits k n) (suc-add a b)
    ∙ ap₂ (λ (c : ℕ) (cs : List ℕ). c ∷ cs) first (digits_join a b x y small)

-- a number that stands behind some bytes
pub number_append : (k : ℕ) (ys m : List ℕ) (at : ℕ) → number k (ys ++ m) (length ys + at) ≡ number k m at
unfolding number
number_append zero ys m at = refl
number_append (suc k) ys m at =
    ap₂ (λ (b r : ℕ). b % 256 * 256 ^ k + r) (get_or-append-add ys m at 0)
    (ap (number k (ys ++ m)) (sym (add-suc (length ys) at)) ∙ number_append k ys m (suc at))

-- what is read where the bytes of a number stand
pub number_digits : (k v : ℕ) (xs : List ℕ) → number k (digits k v ++ xs) 0 ≡ v % 256 ^ k
unfolding number digits
number_digits zero v xs = omega arith
number_digits (suc k) v xs =
    let b : ℕ = byte k v in
    let rest : number k (b ∷ (digits k v ++ xs)) 1 ≡ v % 256 ^ k = number_append k (b ∷ []) (digits k v ++ xs) 0 ∙ number_digits k v xs in
    ap₂ (λ (x y : ℕ). x * 256 ^ k + y) (mod-mod (v / 256 ^ k) 256) rest
    ∙ sym (ap (λ (x : ℕ). v % x) (pow-succ' 256 k) ∙ mod-mul v (zero-lt-suc 255) (positive k))

pub number_digits_at : (k v : ℕ) (ys xs : List ℕ) → number k (ys ++ (digits k v ++ xs)) (length ys) ≡ v % 256 ^ k
number_digits_at k v ys xs =
    ap (number k (ys ++ (digits k v ++ xs))) (sym (add-zero (length ys)))
    ∙ number_append k ys (digits k v ++ xs) 0
    ∙ number_digits k v xs

-- the bytes of a number that was read are those that stand there
pub digits_number_at : (k : ℕ) (h : List ℕ) (at : ℕ) → ((i : ℕ) → get_or h i 0 < 256) → at + k ≤ length h → digits k (number k h at) ≡ take k (drop at h)
unfolding number digits
digits_number_at zero h at small room = refl
digits_number_at (suc k) h at small room =
    let b : ℕ = get_or h at 0 in
    let r : ℕ = number k h (suc at) in
    let whole : b % 256 ≡ b = mod-eq_of_lt (small at) in
    let first : byte k (b * 256 ^ k + r) ≡ b = ap (λ (n : ℕ). n % 256) (digits_div b (number_lt k h (suc at))) ∙ whole in
    ap (λ (n : ℕ). byte k (n * 256 ^ k + r) ∷ digits k (n * 256 ^ k + r)) whole
    ∙ ap₂ (λ (c : ℕ) (cs : List ℕ). c ∷ cs) first (digits_above k b r ∙ digits_number_at k h (suc at) small (omega arith))
    ∙ sym (ap (take (suc k)) (drop-cons h at 0 (omega arith)))

-- byte j of what was stored
stored_byte : (k : ℕ) (m : List ℕ) (at v j : ℕ) → at + k ≤ length m → j < k → get_or (store k m at v) (at + j) 0 ≡ get_or (digits k v) j 0
unfolding store digits
stored_byte zero m at v j room h = absurd (not-suc-le-zero h)
stored_byte (suc k) m at v zero room h =
    ap (λ (i : ℕ). get_or (store k (set m at (byte k v)) (suc at) v) i 0) (add-zero at)
    ∙ byte_apart k (set m at (byte k v)) (suc at) v at (inl (omega arith))
    ∙ get_or-set_same m at (byte k v) 0 (omega arith)
stored_byte (suc k) m at v (suc j) room h =
    ap (λ (i : ℕ). get_or (store k (set m at (byte k v)) (suc at) v) i 0) (let e : at + suc j ≡ suc at + j = omega arith in e)
    ∙ stored_byte k (set m at (byte k v)) (suc at) v j (omega (arith, length-set m at (byte k v))) (omega arith)

-- a number stored over another, and the first one stored back
pub store_back : (k : ℕ) (m : List ℕ) (at v : ℕ) → ((i : ℕ) → get_or m i 0 < 256) → at + k ≤ length m → store k (store k m at v) at (number k m at) ≡ m
store_back k m at v small room =
    ext_get_or 0 back m (length_store k n at (number k m at) ∙ length_store k m at v) (λ i h. at_byte i (dec_le at i) (dec_le (suc i) (at + k)))
  where
    n : List ℕ
    n = store k m at v

    back : List ℕ
    back = store k n at (number k m at)

    beside : (i : ℕ) → (i < at) ⊎ (at + k ≤ i) → get_or back i 0 ≡ get_or m i 0
    beside i h = byte_apart k n at (number k m at) i h ∙ byte_apart k m at v i h

    at_byte : (i : ℕ) → Dec (at ≤ i) → Dec (suc i ≤ at + k) → get_or back i 0 ≡ get_or m i 0
    at_byte i (no a) d = beside i (inl (omega arith))
    at_byte i (yes a) (no b) = beside i (inr (omega arith))
    at_byte i (yes a) (yes b) =
        let j : ℕ = i - at in
        let is : i ≡ at + j = omega arith in
        rw is
        (stored_byte k n at (number k m at) j (omega (arith, length_store k m at v)) (omega arith)
        ∙ ap (λ (l : List ℕ). get_or l j 0) (digits_number_at k m at small room)
        ∙ get_or-take k (drop at m) j 0 (omega arith)
        ∙ get_or-drop at m j 0)

pub digits_number : (k : ℕ) (h : List ℕ) → ((i : ℕ) → get_or h i 0 < 256) → k ≤ length h → digits k (number k h 0) ≡ take k h
digits_number k h small room = digits_number_at k h 0 small (omega arith)

pub pow_bytes : (k : ℕ) → 256 ^ k ≡ 2 ^ (8 * k)
pow_bytes zero = refl
pow_bytes (suc k) =
    pow-suc 256 k
    ∙ ap (λ (n : ℕ). n * 256) (pow_bytes k)
    ∙ sym (ap (λ (n : ℕ). 2 ^ n) (mul-suc 8 k) ∙ pow-add 2 (8 * k) 8)

-- the bytes as the code makes them
pub digits_one : (v : ℕ) → digits 1 v ≡ v % 256 ∷ []
unfolding digits
digits_one v = simp div-one

pub digits_two : (v : ℕ) → digits 2 v ≡ v / 256 % 256 ∷ v % 256 ∷ []
unfolding digits
digits_two v = simp div-one

pub digits_three : (v : ℕ) → digits 3 v ≡ v / 65536 % 256 ∷ v / 256 % 256 ∷ v % 256 ∷ []
unfolding digits
digits_three v = simp div-one

pub digits_four : (v : ℕ) → digits 4 v ≡ v / 16777216 % 256 ∷ v / 65536 % 256 ∷ v / 256 % 256 ∷ v % 256 ∷ []
unfolding digits
digits_four v = simp div-one
