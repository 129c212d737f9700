-- The tables of the tags, at a tag that is in none. Assumes nothing.
use mathlib.Core.Path.{◌≡◌, refl}
use mathlib.Core.Bool.{Bool, true, false, cond}
use mathlib.Core.List.{List, ◌∷◌}
use Prim.Native.Nat.{ℕ, zero, suc, ◌<◌}
use native.Mathlib.Omega.{arith}
use lib.Dec.{eqb}
use lib.ListN.{length, get_or, get_or-eq_default}
use Rattle.fields.specs.Calls.{NoneTo, size_of, calls, call_of, whole_told}
use Rattle.fields.specs.declared.Read.TheVariants.{Bad}

far : (k tag : ℕ) → NoneTo k tag → 0 < tag → k < tag
far zero tag none some = some
far (suc k) tag none some = omega (arith, far k tag none.0 some, none.1)

-- a table that starts with its own default
past : {A : Type 0} (d : A) (l : List A) (tag : ℕ) → NoneTo (length l) tag → get_or (d ∷ l) tag d ≡ d
past d l zero none = refl
past d l (suc i) none = let high = far (length l) (suc i) none (omega arith) in get_or-eq_default l d (omega arith)

call_of_none : (s : List ℕ) (tag v next : ℕ) → NoneTo 7 tag → call_of s tag v next ≡ Bad
unfolding call_of
call_of_none s tag v next none = past Bad (calls s v next) tag none

-- a field of such a tag tells nothing, whatever its length
pub whole_none : (s : List ℕ) (tag v len next : ℕ) → NoneTo 7 tag → whole_told s tag v len next ≡ Bad
whole_none s tag v len next none = rw (call_of_none s tag v next none) (by (eqb len (size_of tag)))
  where
    by : (t : Bool) → cond t Bad Bad ≡ Bad
    by true = refl
    by false = refl
