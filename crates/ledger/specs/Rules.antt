-- Refusals as data: a call's refusals are a list of rules in the order in which they are tested, and the first that applies decides.
-- Assumes nothing.
use Rattle.std.specs.Prelude.{Bool, true, false, List, [], ◌∷◌, ℕ}

-- a line of the table: where the test passes, the call is refused with the number
pub data Rule : Type 0 where
  refuse : ℕ → Bool → Rule

-- `no n` for the first rule that applies, of number n; `out` where none does
abbrev pub guard : {X : Type 0} → List Rule → (ℕ → X) → X → X
guard [] no' out = out
guard (refuse n true ∷ rs) no' out = no' n
guard (refuse n false ∷ rs) no' out = guard rs no' out

-- no rule applies
abbrev pub Clear : List Rule → Type 0
Clear [] = Unit {0}
Clear (refuse n b ∷ rs) = (mathlib.Core.Path.◌≡◌ b false) × Clear rs
