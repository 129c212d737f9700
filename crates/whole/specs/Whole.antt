-- Rules (c) to (g), and (b) of prefetch lists, in one walk of the lists: what the answer says. Assumes nothing.
use Rattle.std.specs.Prelude.{◌≡◌, Bool, true, false, List, ℕ, ◌-◌, ◌*◌, ◌≤◌, ◌<◌, None, Some, Result, Ok, Err}
use Rattle.ledger.specs.Settings.{Settings, row}
use Rattle.layout.specs.Tables.{lists}
use Rattle.ranges.specs.Ranges.{few_in}
use Rattle.once.specs.Once.{right, once_found}
use Rattle.fits.specs.declared.NodeRule.{NodeRule}
use Rattle.fits.specs.Fits.{list_found, fits_from, fits_found}
use Rattle.paid.specs.Paid.{paid_found}
use Rattle.whole.specs.declared.Fault.{Fault}
use Rattle.whole.specs.declared.Fault.TheVariants.{Stuck, Due}

-- ---- what is decided

-- whether P, as a Boolean answer tells it
pub record Says (P : Type 0) (r : Bool) : Type 0 where
  pub yes : r ≡ true → P
  pub no : r ≡ false → P → ⊥

-- list l keeps the rules, where it is met with these marks
pub record ListKept (S : Settings) (m ms : List ℕ) (l : ℕ) : Type 0 where
  pub once : right S m ms l ≡ true
  pub fits : (rule : NodeRule) → list_found rule S m l ≡ None

-- a memory keeps them: (c) to (f), and (b) of prefetch lists
pub record Listed (S : Settings) (m : List ℕ) : Type 0 where
  pub slots : (l : ℕ) → l < lists S → few_in S m l ≡ true
  pub once : once_found S m ≡ None
  pub fits : (rule : NodeRule) → fits_found rule S m ≡ None

-- what (d) to (f) find from the lists of port p on is what they find
pub record FitsUpTo (S : Settings) (m : List ℕ) (p : ℕ) : Type 0 where
  pub most : p ≤ S.ports
  pub rest : (rule : NodeRule) → fits_from rule S m (p * row S) (lists S - p * row S) ≡ fits_found rule S m

-- what the walk tells
abbrev pub Tells : Settings → List ℕ → Result Unit Fault → Type 0
Tells S m (Ok u) = Listed S m × (paid_found S m ≡ None)
Tells S m (Err (Stuck p)) = (Listed S m → ⊥) × FitsUpTo S m p
Tells S m (Err (Due c)) = Listed S m × (paid_found S m ≡ Some c)
