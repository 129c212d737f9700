-- Fields side by side in parts, fields of whole bytes, and stores side by side: laws of numbers, over the lists of widths. Assumes nothing.
use mathlib.Core.Path.{◌≡◌, refl, sym, ap, ap₂, ◌∙◌, subst}
use mathlib.Core.List.{List, [], ◌∷◌, ◌++◌, append_assoc}
use Prim.Native.Nat.{ℕ, zero, suc, ◌+◌, ◌-◌, ◌*◌, ◌/◌, ◌%◌, ◌^◌, ◌≤◌, ◌<◌}
use native.Mathlib.Nat.{add_assoc, add-mul, mul_assoc, zero-add, zero-div, one-le-pow, zero-lt-suc}
use native.Mathlib.Omega.{arith}
use lib.Arith.{digits_lt}
use lib.ListN.{length, replicate, length-append, length-replicate, replicate-append-replicate}
use lib.Pow.{pow-add, pow_mono}
use lib.Seq.{append_snoc, set-append_seam}
use Rattle.numbers.specs.Bytes.{number, store, digits}
use Rattle.numbers.specs.Fields.{total, unpack, pack, Fit}
use Rattle.numbers.proofs.Bytes.{number_lt, number_split, length_digits, digits_join, pow_bytes}
use Rattle.numbers.proofs.Fields.{bits_high, bits_low, bits_whole, pack_lt}

pub total_append : (ws vs : List ℕ) → total (ws ++ vs) ≡ total ws + total vs
total_append [] vs = sym (zero-add (total vs))
total_append (w ∷ ws) vs = ap (λ (n : ℕ). w + n) (total_append ws vs) ∙ sym (add_assoc w (total ws) (total vs))

-- fields within the k lowest bits go by them only
unpack_low : (ws : List ℕ) (k x y : ℕ) → total ws ≤ k → unpack ws (x * 2 ^ k + y) ≡ unpack ws y
unpack_low [] k x y h = refl
unpack_low (w ∷ ws) k x y h =
    ap₂ (λ (f : ℕ) (fs : List ℕ). f ∷ fs) (bits_low (total ws) k w x y (omega arith)) (unpack_low ws k x y (omega arith))

-- the fields of a number in two parts are those of its parts
pub unpack_parts : (ws vs : List ℕ) (x y : ℕ) → y < 2 ^ total vs → unpack (ws ++ vs) (x * 2 ^ total vs + y) ≡ unpack ws x ++ unpack vs y
unpack_parts [] vs x y small = unpack_low vs (total vs) x y (omega arith)
unpack_parts (w ∷ ws) vs x y small =
    ap₂ (λ (f : ℕ) (fs : List ℕ). f ∷ fs)
    (rw (total_append ws vs) (bits_high (total ws) (total vs) w x y small))
    (unpack_parts ws vs x y small)

-- ---- fields of whole bytes

-- the widths of fields of so many bytes each, and what such fields are, one after another
abbrev pub bytewise : List ℕ → List ℕ
bytewise [] = []
bytewise (k ∷ ks) = 8 * k ∷ bytewise ks

abbrev pub numbers_at : List ℕ → List ℕ → ℕ → List ℕ
numbers_at [] h at = []
numbers_at (k ∷ ks) h at = number k h at ∷ numbers_at ks h (at + k)

pub total_bytes : (ks : List ℕ) → total (bytewise ks) ≡ 8 * total ks
total_bytes [] = refl
total_bytes (k ∷ ks) = omega (arith, total_bytes ks)

pub pow_total : (ks : List ℕ) → 256 ^ total ks ≡ 2 ^ total (bytewise ks)
pow_total ks = pow_bytes (total ks) ∙ ap (λ (n : ℕ). 2 ^ n) (sym (total_bytes ks))

pub unpack_bytes : (ks h : List ℕ) (at : ℕ) → unpack (bytewise ks) (number (total ks) h at) ≡ numbers_at ks h at
unpack_bytes [] h at = refl
unpack_bytes (k ∷ ks) h at =
    let x : ℕ = number k h at in
    let y : ℕ = number (total ks) h (at + k) in
    let small : y < 2 ^ total (bytewise ks) = subst (λ (n : ℕ). y < n) (pow_total ks) (number_lt (total ks) h (at + k)) in
    let whole : x < 2 ^ (8 * k) = subst (λ (n : ℕ). x < n) (pow_bytes k) (number_lt k h at) in
    ap (unpack (8 * k ∷ bytewise ks)) (number_split k (total ks) h at ∙ ap (λ (p : ℕ). x * p + y) (pow_total ks))
    ∙ unpack_parts (8 * k ∷ []) (bytewise ks) x y small
    ∙ ap₂ (λ (f : ℕ) (fs : List ℕ). f ∷ fs) (bits_whole (8 * k) x whole) (unpack_bytes ks h (at + k))

-- ---- the other way: packed

-- a number that is put together from its first field on, each next field below
abbrev pub joined : ℕ → List ℕ → List ℕ → ℕ
joined n [] vs = n
joined n (w ∷ ws) [] = n
joined n (w ∷ ws) (v ∷ vs) = joined (n * 2 ^ w + v) ws vs

shifted : (n v w t r : ℕ) → (n * 2 ^ w + v) * 2 ^ t + r ≡ n * 2 ^ (w + t) + (v * 2 ^ t + r)
shifted n v w t r = rw (pow-add 2 w t, add-mul, mul_assoc, add_assoc)

pub joined_packs : (n : ℕ) (ws vs : List ℕ) → Fit ws vs → joined n ws vs ≡ n * 2 ^ total ws + pack ws vs
joined_packs n [] [] f = omega arith
joined_packs n (w ∷ ws) (v ∷ vs) f = joined_packs (n * 2 ^ w + v) ws vs f.1 ∙ shifted n v w (total ws) (pack ws vs)
joined_packs n [] (v ∷ vs) f = elim f [ ]
joined_packs n (w ∷ ws) [] f = elim f [ ]

-- a field joined below a number of k bits
join_lt : (k w x y : ℕ) → x < 2 ^ k → y < 2 ^ w → x * 2 ^ w + y < 2 ^ (k + w)
join_lt k w x y high low = rw (pow-add 2 k w) (digits_lt high low)

pub joined_lt : (k w x y n : ℕ) → n ≡ x * 2 ^ w + y → x < 2 ^ k → y < 2 ^ w → n < 2 ^ (k + w)
joined_lt k w x y n e high low = rw e (join_lt k w x y high low)

pub join_word : (k w x y : ℕ) → x < 2 ^ k → y < 2 ^ w → k + w ≤ 32 → x * 2 ^ w + y < 2 ^ 32
join_word k w x y high low few = omega (arith, join_lt k w x y high low, pow_mono few)

pub pack_parts : (ws vs xs ys : List ℕ) → Fit ws xs → pack (ws ++ vs) (xs ++ ys) ≡ pack ws xs * 2 ^ total vs + pack vs ys
pack_parts [] vs [] ys f = omega arith
pack_parts (w ∷ ws) vs (x ∷ xs) ys f =
    ap₂ (λ (t r : ℕ). x * 2 ^ t + r) (total_append ws vs) (pack_parts ws vs xs ys f.1)
    ∙ sym (shifted x (pack ws xs) (total ws) (total vs) (pack vs ys))
pack_parts [] vs (x ∷ xs) ys f = elim f [ ]
pack_parts (w ∷ ws) vs [] ys f = elim f [ ]

-- the bytes of values of so many bytes each
abbrev pub digits_of : List ℕ → List ℕ → List ℕ
digits_of [] xs = []
digits_of (k ∷ ks) [] = []
digits_of (k ∷ ks) (x ∷ xs) = digits k x ++ digits_of ks xs

-- a number of k bytes above values of whole bytes
pub digits_above_bytes : (k x : ℕ) (ks ys : List ℕ) → Fit (bytewise ks) ys
    → digits (k + total ks) (x * 2 ^ total (bytewise ks) + pack (bytewise ks) ys) ≡ digits k x ++ digits (total ks) (pack (bytewise ks) ys)
digits_above_bytes k x ks ys f =
    let y : ℕ = pack (bytewise ks) ys in
    ap (λ (p : ℕ). digits (k + total ks) (x * p + y)) (sym (pow_total ks))
    ∙ digits_join k (total ks) x y (subst (λ (n : ℕ). y < n) (sym (pow_total ks)) (pack_lt (bytewise ks) ys f))

pub digits_bytes : (ks xs : List ℕ) → Fit (bytewise ks) xs → digits (total ks) (pack (bytewise ks) xs) ≡ digits_of ks xs
unfolding digits
digits_bytes [] [] f = refl
digits_bytes (k ∷ ks) (x ∷ xs) f =
    digits_above_bytes k x ks xs f.1 ∙ ap (λ (l : List ℕ). digits k x ++ l) (digits_bytes ks xs f.1)
digits_bytes [] (x ∷ xs) f = elim f [ ]
digits_bytes (k ∷ ks) [] f = elim f [ ]

-- ---- stores side by side

-- a store over k elements that stand behind xs
store_over : (k : ℕ) (xs ys zs : List ℕ) (v : ℕ) → length ys ≡ k → store k (xs ++ (ys ++ zs)) (length xs) v ≡ xs ++ (digits k v ++ zs)
unfolding store digits
store_over zero xs [] zs v e = refl
store_over zero xs (y ∷ ys) zs v e = absurd (omega arith)
store_over (suc k) xs [] zs v e = absurd (omega arith)
store_over (suc k) xs (y ∷ ys) zs v e =
    let b : ℕ = v / 256 ^ k % 256 in
    let more : suc (length xs) ≡ length (xs ++ (b ∷ [])) = simp length-append (omega arith) in
    ap (λ (m : List ℕ). store k m (suc (length xs)) v) (set-append_seam xs y (ys ++ zs) b ∙ sym (append_snoc xs b (ys ++ zs)))
    ∙ ap (λ (n : ℕ). store k ((xs ++ (b ∷ [])) ++ (ys ++ zs)) n v) more
    ∙ store_over k (xs ++ (b ∷ [])) ys zs v (omega arith)
    ∙ append_snoc xs b (digits k v ++ zs)

digits_zero : (k : ℕ) → digits k 0 ≡ replicate k 0
unfolding digits
digits_zero zero = refl
digits_zero (suc k) = ap₂ (λ (b : ℕ) (bs : List ℕ). b ∷ bs) (ap (λ (n : ℕ). n % 256) (zero-div (256 ^ k))) (digits_zero k)

-- a number of k bytes with j zeros behind it
digits_aligned : (k j v : ℕ) → digits (k + j) (v * 256 ^ j) ≡ digits k v ++ replicate j 0
digits_aligned k j v =
    let e : v * 256 ^ j ≡ v * 256 ^ j + 0 = omega arith in
    ap (digits (k + j)) e ∙ digits_join k j v 0 (one-le-pow j 256 (zero-lt-suc 255)) ∙ ap (λ (l : List ℕ). digits k v ++ l) (digits_zero j)

-- a room of R bytes: zeros follow those that are written
abbrev pub pad_to : ℕ → List ℕ → List ℕ
pad_to R xs = xs ++ replicate (R - length xs) 0

-- k bytes of a number are written behind xs in a room of zeros, and the zeros behind them again
pub put : (R K k : ℕ) (xs : List ℕ) (at n v : ℕ) (m m' : List ℕ)
    → m ≡ pad_to R xs
    → length xs ≡ at
    → k ≤ K
    → at + K ≤ R
    → n ≡ v * 256 ^ (K - k)
    → m' ≡ store K m at n
    → m' ≡ pad_to R (xs ++ digits k v)
put R K k xs at n v m m' start len few room is stored =
    let j : ℕ = K - k in
    let z : ℕ = R - length xs - K in
    let whole : K ≡ k + j = omega arith in
    let zeros : R - length xs ≡ K + z = omega arith in
    let left : R - length (xs ++ digits k v) ≡ j + z = simp (length-append, length_digits) (omega arith) in
    let behind : replicate {A = ℕ} (R - length xs) 0 ≡ replicate K 0 ++ replicate z 0 =
    ap (λ (i : ℕ). replicate {A = ℕ} i 0) zeros ∙ sym (replicate-append-replicate K z 0) in
    let over : store K (pad_to R xs) (length xs) n ≡ xs ++ (digits K n ++ replicate z 0) =
    ap (λ (l : List ℕ). store K (xs ++ l) (length xs) n) behind ∙ store_over K xs (replicate K 0) (replicate z 0) n (length-replicate K 0) in
    let told : digits K n ≡ digits k v ++ replicate j 0 =
    ap₂ digits whole is ∙ digits_aligned k j v in
    let both : (digits k v ++ replicate j 0) ++ replicate z 0 ≡ digits k v ++ replicate (j + z) 0 =
    append_assoc (digits k v) (replicate j 0) (replicate z 0) ∙ ap (λ (l : List ℕ). digits k v ++ l) (replicate-append-replicate j z 0) in
    stored
    ∙ ap₂ (λ (l : List ℕ) (i : ℕ). store K l i n) start (sym len)
    ∙ over
    ∙ ap (λ (l : List ℕ). xs ++ (l ++ replicate z 0)) told
    ∙ ap (λ (l : List ℕ). xs ++ l) both
    ∙ sym (append_assoc xs (digits k v) (replicate (j + z) 0))
    ∙ ap (λ (i : ℕ). (xs ++ digits k v) ++ replicate i 0) (sym left)
