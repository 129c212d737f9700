-- What the loop of `whole::port_passes` keeps.
use mathlib.Core.Path.{◌≡◌}
use Prim.Native.Nat.{◌+◌, ◌-◌, ◌*◌, ◌≤◌}
use lib.ListN.{length}
use Rattle.layout.specs.Shapes.{settings_of}
use Rattle.once.specs.Bits.{marks_in}
use Rattle.whole.specs.Walks.{AtList}
use Rattle.whole.proofs.port_passes.Given as goal

abbrev pub invariant-loop-column : goal.invariant-loop-column
invariant-loop-column l =
    (length l.marks ≡ length l.initial.marks)
    × (l.from ≤ l.s.row)
    × AtList (settings_of l.s) l.m (marks_in (settings_of l.s) l.marks) l.sums (l.port * l.s.row + l.from) l.met

abbrev pub decreases-loop-column : goal.decreases-loop-column
decreases-loop-column l = l.s.row - l.from
