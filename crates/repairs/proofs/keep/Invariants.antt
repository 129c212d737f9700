-- What the loop of `repairs::keep` keeps: the entries passed are mended.
use Rattle.std.proofs.Common.{◌≡◌, ℕ, ◌<◌, get_or}
use Rattle.ledger.specs.Repair.{mended}
use Rattle.layout.specs.declared.Table.TheVariants.{Mapped}
use Rattle.layout.specs.Tables.{get}
use Rattle.layout.specs.Shapes.{settings_of}
use Rattle.repairs.proofs.keep.Given as goal

abbrev pub invariant-loop-i : goal.invariant-loop-i
invariant-loop-i l = (k : ℕ) → k < l.i → get_or l.map k 0 ≡ mended (settings_of l.s) (get (settings_of l.s) l.m Mapped k)
