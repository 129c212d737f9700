-- What the loop of `whole::whole` keeps.
use mathlib.Core.Path.{◌≡◌}
use Prim.Native.Nat.{◌*◌}
use lib.ListN.{length}
use Rattle.ledger.specs.Settings.{row}
use Rattle.layout.specs.Shapes.{settings_of}
use Rattle.once.specs.Bits.{marks_in}
use Rattle.whole.specs.Walks.{AtList}
use Rattle.whole.proofs.whole.Given as goal

abbrev pub invariant-loop-port : goal.invariant-loop-port
invariant-loop-port l =
    (length l.marks ≡ length l.initial.marks)
    × AtList (settings_of l.s) l.m (marks_in (settings_of l.s) l.marks) l.sums (l.port * row (settings_of l.s)) l.met
