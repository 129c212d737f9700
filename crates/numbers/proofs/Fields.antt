-- The laws of `bits`, over where a field starts and how wide it is, and of `pack` and `unpack`, over the list of widths: each undoes the
-- other. Assumes nothing.
use mathlib.Core.Path.{◌≡◌, refl, sym, ap, ap₂, ◌∙◌}
use mathlib.Core.Bool.{true, and-eq-true_iff, false≢true}
use mathlib.Core.List.{List, [], ◌∷◌}
use Prim.Native.Nat.{ℕ, ◌+◌, ◌-◌, ◌*◌, ◌/◌, ◌%◌, ◌^◌, ◌≤◌, ◌<◌}
use native.Mathlib.Nat.{add_comm, add-mul, mul_assoc, div-one, mod-one, mod-lt, mod-eq_of_lt, mul-add-div_right, mul-add-mod_self_right}
use native.Mathlib.Omega.{arith}
use borrow.Author.Tests.{ltb-true, lt-ltb}
use lib.Arith.{digits_lt}
use lib.Dec.{ltb}
use lib.Pow.{pow_pos, pow-add, mod-pow-add, shr-shr, high, low}
use Rattle.numbers.specs.Fields.{bits, total, unpack, pack, fitting, Fit}

pub bits_lt : (lo w n : ℕ) → bits lo w n < 2 ^ w
unfolding bits
bits_lt lo w n = mod-lt (n / 2 ^ lo) (pow_pos w)

-- a field and what lies below it make up the number's low end
pub bits_join : (lo w n : ℕ) → n % 2 ^ (lo + w) ≡ bits lo w n * 2 ^ lo + n % 2 ^ lo
unfolding bits
bits_join lo w n = ap (λ (k : ℕ). n % 2 ^ k) (add_comm lo w) ∙ mod-pow-add n w lo

-- a field of a number put together is what was put there
pub bits_of_join : (lo w h f r : ℕ) → r < 2 ^ lo → f < 2 ^ w → bits lo w ((h * 2 ^ w + f) * 2 ^ lo + r) ≡ f
unfolding bits
bits_of_join lo w h f r small fits = ap (λ (x : ℕ). x % 2 ^ w) (high (h * 2 ^ w + f) lo small) ∙ low h w fits

-- a field above the k lowest bits is one of the number without them
pub bits_high : (lo k w x y : ℕ) → y < 2 ^ k → bits (lo + k) w (x * 2 ^ k + y) ≡ bits lo w x
unfolding bits
bits_high lo k w x y small =
    ap (λ (e : ℕ). (x * 2 ^ k + y) / 2 ^ e % 2 ^ w) (add_comm lo k)
    ∙ sym (ap (λ (n : ℕ). n % 2 ^ w) (shr-shr (x * 2 ^ k + y) k lo))
    ∙ ap (λ (n : ℕ). n / 2 ^ lo % 2 ^ w) (high x k small)

-- a field within the k lowest bits goes by them only
pub bits_low : (lo k w x y : ℕ) → lo + w ≤ k → bits lo w (x * 2 ^ k + y) ≡ bits lo w y
unfolding bits
bits_low lo k w x y within =
    let j : ℕ = k - (lo + w) in
    let e : k ≡ j + w + lo = omega arith in
    let whole : x * 2 ^ k ≡ x * 2 ^ j * 2 ^ w * 2 ^ lo =
    ap (λ (i : ℕ). x * 2 ^ i) e ∙ rw (pow-add 2 (j + w) lo, pow-add 2 j w, ← mul_assoc x, ← mul_assoc x) in
    ap (λ (p : ℕ). (p + y) / 2 ^ lo % 2 ^ w) whole
    ∙ ap (λ (n : ℕ). n % 2 ^ w) (mul-add-div_right (pow_pos lo) (x * 2 ^ j * 2 ^ w) y)
    ∙ mul-add-mod_self_right (x * 2 ^ j) (2 ^ w) (y / 2 ^ lo)

-- a field as wide as the number is the number
pub bits_whole : (w n : ℕ) → n < 2 ^ w → bits 0 w n ≡ n
unfolding bits
bits_whole w n small = ap (λ (x : ℕ). x % 2 ^ w) (div-one n) ∙ mod-eq_of_lt small

pub bits_none : (lo n : ℕ) → bits lo 0 n ≡ 0
unfolding bits
bits_none lo n = mod-one (n / 2 ^ lo)

-- ---- fields of given widths

pub fits : (ws : List ℕ) (n : ℕ) → Fit ws (unpack ws n)
fits [] n = tt
fits (w ∷ ws) n = (bits_lt (total ws) w n, fits ws n)

pub fitting_means : (ws vs : List ℕ) → fitting ws vs ≡ true → Fit ws vs
fitting_means [] [] t = tt
fitting_means [] (v ∷ vs) t = false≢true t
fitting_means (w ∷ ws) [] t = false≢true t
fitting_means (w ∷ ws) (v ∷ vs) t =
    let both = (and-eq-true_iff (ltb v (2 ^ w)) (fitting ws vs)).0 t in
    (ltb-true v (2 ^ w) both.0, fitting_means ws vs both.1)

pub fit_fitting : (ws vs : List ℕ) → Fit ws vs → fitting ws vs ≡ true
fit_fitting [] [] f = refl
fit_fitting (w ∷ ws) (v ∷ vs) f = (and-eq-true_iff (ltb v (2 ^ w)) (fitting ws vs)).1 (lt-ltb v (2 ^ w) f.0, fit_fitting ws vs f.1)
fit_fitting [] (v ∷ vs) f = elim f [ ]
fit_fitting (w ∷ ws) [] f = elim f [ ]

pub pack_lt : (ws vs : List ℕ) → Fit ws vs → pack ws vs < 2 ^ total ws
pack_lt [] [] f = omega arith
pack_lt (w ∷ ws) (v ∷ vs) f = rw pow-add (digits_lt f.0 (pack_lt ws vs f.1))
pack_lt [] (v ∷ vs) f = elim f [ ]
pack_lt (w ∷ ws) [] f = elim f [ ]

-- the fields of a number, packed, are its low end
pub pack_unpack : (ws : List ℕ) (n : ℕ) → pack ws (unpack ws n) ≡ n % 2 ^ total ws
pack_unpack [] n = omega arith
pack_unpack (w ∷ ws) n =
    ap (λ (r : ℕ). bits (total ws) w n * 2 ^ total ws + r) (pack_unpack ws n)
    ∙ sym (bits_join (total ws) w n)
    ∙ ap (λ (k : ℕ). n % 2 ^ k) (add_comm (total ws) w)

-- fields that were packed are unpacked again, whatever stands above them
pub unpack_join : (ws vs : List ℕ) (h : ℕ) → Fit ws vs → unpack ws (h * 2 ^ total ws + pack ws vs) ≡ vs
unpack_join [] [] h f = refl
unpack_join (w ∷ ws) (v ∷ vs) h f =
    let t : ℕ = 2 ^ total ws in
    let r : ℕ = pack ws vs in
    let e : h * 2 ^ (w + total ws) + (v * t + r) ≡ (h * 2 ^ w + v) * t + r =
    omega (arith, ap (λ (x : ℕ). h * x) (pow-add 2 w (total ws)), mul_assoc h (2 ^ w) t, add-mul (h * 2 ^ w) v t) in
    rw e
    (ap₂ (λ (x : ℕ) (xs : List ℕ). x ∷ xs)
    (bits_of_join (total ws) w h v r (pack_lt ws vs f.1) f.0)
    (unpack_join ws vs (h * 2 ^ w + v) f.1))
unpack_join [] (v ∷ vs) h f = elim f [ ]
unpack_join (w ∷ ws) [] h f = elim f [ ]

pub unpack_pack : (ws vs : List ℕ) → Fit ws vs → unpack ws (pack ws vs) ≡ vs
unpack_pack ws vs f =
    let e : pack ws vs ≡ 0 * 2 ^ total ws + pack ws vs = omega arith in
    ap (unpack ws) e ∙ unpack_join ws vs 0 f
