-- Which rule a memory breaks first, and whether it is a switch state. Assumes nothing.
use Rattle.std.specs.Prelude.{◌≡◌, cond, List, ℕ, Option, None, Some, Result, Ok, Err}
use Rattle.ledger.specs.Settings.{Settings}
use Rattle.ledger.proofs.Rows.{roomy}
use Rattle.layout.specs.declared.shape.Shape.{Shape}
use Rattle.layout.specs.Shapes.{settings_of}
use Rattle.layout.specs.Picture as picture
use Rattle.layout.specs.Picture.{settings_in, opens}
use Rattle.memory.specs.Memory.{state_dec}
use Rattle.ranges.specs.Opening.{shape_for, out_at, Open}
use Rattle.ranges.specs.Ranges.{ranges_found}
use Rattle.once.specs.Once.{once_found}
use Rattle.fits.specs.declared.NodeRule.{NodeRule}
use Rattle.fits.specs.declared.NodeRule.TheVariants.{OwnPort, OwnQueue, Record}
use Rattle.fits.specs.Fits.{fits_found}
use Rattle.paid.specs.Paid.{paid_found}
use Rattle.halts.specs.Marks.{marks_found}
use Rattle.whole.specs.declared.Fault.TheVariants.{Stuck}
use Rattle.whole.specs.Whole.{Tells}
use Rattle.ledger.specs.declared.Broken.{Broken}
use Rattle.ledger.specs.declared.Rule.{Rule}
use Rattle.ledger.specs.declared.Rule.TheVariants.{A, B, C, D, E, F, G, I}
use Rattle.ledger.specs.declared.Refusal.{Refusal}
use Rattle.ledger.specs.declared.Refusal.TheVariants.{NoState}

-- ---- the first rule that is broken

-- a rule is broken, and an item shows it
abbrev pub breaks : Rule → ℕ → Broken
breaks rule item = record { rule = rule; item = item }

-- what a rule finds breaks it; else what comes after it counts
abbrev pub or_next : Option ℕ → Rule → Option Broken → Option Broken
or_next None rule next = next
or_next (Some i) rule next = Some (breaks rule i)

-- (i), the last; (h) is a later request's
abbrev pub marks_broken : Settings → List ℕ → Option Broken
marks_broken S m = or_next (marks_found S m) I None

-- (d) to (i)
unfoldable pub nodes_broken : Settings → List ℕ → Option Broken
nodes_broken S m =
    or_next (fits_found OwnPort S m) D
    (or_next (fits_found OwnQueue S m) E
    (or_next (fits_found Record S m) F
    (or_next (paid_found S m) G (marks_broken S m))))

-- (b) to (i)
unfoldable pub open_broken : Settings → List ℕ → Option Broken
open_broken S m = or_next (ranges_found S m) B (or_next (once_found S m) C (nodes_broken S m))

unfoldable pub broken_in : List ℕ → Option Broken
broken_in m = cond (opens m) (open_broken (settings_in m) m) (Some (breaks A (out_at m)))

-- ---- whether it is a switch state

-- every rule from (b) on finds nothing
pub record Clean (S : Settings) (m : List ℕ) : Type 0 where
  pub ranges : ranges_found S m ≡ None
  pub once : once_found S m ≡ None
  pub fits : (rule : NodeRule) → fits_found rule S m ≡ None
  pub paid : paid_found S m ≡ None
  pub marked : marks_found S m ≡ None

abbrev pub tested_by : (m : List ℕ) → Dec (picture.State m) → Result Shape Refusal
tested_by m (yes s) = Ok (shape_for (settings_in m) (roomy (settings_in m) s.sound.rows))
tested_by m (no n) = Err NoState

unfoldable pub tested_in : List ℕ → Result Shape Refusal
tested_in m = tested_by m (state_dec m)

-- ---- what the functions ask

-- a memory of shape s, of which the one walk stuck at port p
pub record StuckAt (s : Shape) (m : List ℕ) (p : ℕ) : Type 0 where
  pub opens : Open m s
  pub stuck : Tells (settings_of s) m (Err (Stuck p))

-- and that keeps rules (b) and (c)
pub record Tied (s : Shape) (m : List ℕ) (p : ℕ) : Type 0 where
  pub stuck : StuckAt s m p
  pub ranges : ranges_found (settings_of s) m ≡ None
  pub once : once_found (settings_of s) m ≡ None
