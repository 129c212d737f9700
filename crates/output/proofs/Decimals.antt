-- A number's decimal is the fewest digits that hold it; with no code. Assumes nothing.
use Rattle.std.proofs.Common.{◌≡◌, sym, ap, List, ◌++◌, take, drop, ℕ, zero, suc, ◌+◌, ◌-◌, ◌*◌, ◌/◌, ◌%◌, ◌^◌, ◌≤◌, ◌<◌, ◌∷◌, max, add-one, sub-one, arith}
use Rattle.std.proofs.lemmas.Grind.{common_steps}
use Rattle.std.proofs.lemmas.Fmt.{decimal_from_appends, length-decimal-le_succ}
use Rattle.std.specs.Fmt as fmt
use Rattle.std.proofs.Math.Nat.{div-div-eq-div-mul}
use Rattle.output.specs.Buffer.{last_digits, places, decimal}

-- n takes k digits, one at least
abbrev pub IsDigitCount : ℕ → ℕ → Type 0
IsDigitCount n k = (1 ≤ k) × (n < 10 ^ k) × (1 < k → 10 ^ (k - 1) ≤ n)

below_power : (j : ℕ) → j < 10 ^ j
below_power zero = omega arith
below_power (suc j) = omega (arith, below_power j)

places_are : (steps n k : ℕ) → k ≤ steps → IsDigitCount n k → places steps n ≡ k
places_are steps n zero h f = omega arith
places_are zero n (suc k) h f = omega arith
places_are (suc steps) n (suc zero) h f = grind arith
places_are (suc steps) n (suc (suc k)) h f = grind (arith, below_power k, places_are steps (n / 10) (suc k))

-- the fewest digits that hold a number are its decimal
pub decimal_is : (n k : ℕ) → IsDigitCount n k → last_digits k n ≡ decimal n
unfolding decimal
decimal_is n zero f = absurd (omega arith)
decimal_is n (suc zero) f = ap (λ (j : ℕ). last_digits j n) (sym (places_are (suc n) n (suc zero) (omega arith) f))
decimal_is n (suc (suc k)) f = grind (arith, below_power (suc k), places_are (suc n) n (suc (suc k)))

-- the digit of the highest place stands first
pub highest_first : (k n : ℕ) → last_digits (k + 1) n ≡ (48 + n / 10 ^ k % 10) ∷ last_digits k n
highest_first zero n = grind arith
highest_first (suc k) n = rw add-one (grind (arith, common_steps, highest_first k (n / 10), div-div-eq-div-mul n 10 (10 ^ k)))

-- the highest place is the logarithm of the number, or of 1 for 0
pub decimal_by_log : (n k : ℕ) → 10 ^ k ≤ max n 1 → max n 1 < 10 * 10 ^ k → last_digits (k + 1) n ≡ decimal n
decimal_by_log n zero low high = decimal_is n 1 (omega arith, omega arith, λ h. omega arith)
decimal_by_log n (suc k) low high =
    let some = below_power k in
    let least : 10 ^ suc k ≤ n = omega arith in
    rw add-one (decimal_is n (suc (suc k)) (omega arith, omega arith, λ _. rw sub-one least))

-- before the first is put, all digits are left
pub all_left :
    (n k : ℕ) (out : List ℕ) → 10 ^ k ≤ max n 1 → max n 1 < 10 * 10 ^ k → last_digits (k + 1) n ++ drop (k + 1) (take (k + 1) out) ≡ decimal n
all_left n k out low high = grind (arith, common_steps, decimal_by_log n k low high)

pub some_power : (k : ℕ) → 0 < 10 ^ k
some_power k = omega (arith, below_power k)

-- below 2 ^ 64 it is what `{}` prints
pub decimal_std : (n : ℕ) → n < 2 ^ 64 → decimal n ≡ fmt.decimal n
unfolding decimal
decimal_std n h =
    decimal_from_appends (λ k n. last_digits (places k n) n) (record { one = λ k n small. grind arith; more = λ k n more. grind arith }) (suc n) n h
    (omega (arith, length-decimal-le_succ n h))
