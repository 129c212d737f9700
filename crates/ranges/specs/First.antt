-- The first of some numbers that does not pass a test. Assumes nothing.
use Rattle.std.specs.Prelude.{Bool, cond, ℕ, zero, suc, Option, None, Some}

-- of the n numbers from i on
unfoldable pub first_from : (ℕ → Bool) → ℕ → ℕ → Option ℕ
first_from ok i zero = None
first_from ok i (suc n) = cond (ok i) (first_from ok (suc i) n) (Some i)

-- of the numbers below n
abbrev pub first : (ℕ → Bool) → ℕ → Option ℕ
first ok n = first_from ok 0 n
