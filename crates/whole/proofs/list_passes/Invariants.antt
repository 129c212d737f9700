-- What the loop of `whole::list_passes` keeps.
use mathlib.Core.Path.{◌≡◌}
use Prim.Native.Nat.{◌-◌}
use lib.ListN.{length}
use Rattle.layout.specs.Shapes.{settings_of}
use Rattle.once.specs.Bits.{marks_in}
use Rattle.whole.proofs.Walking.{Passing}
use Rattle.whole.proofs.list_passes.Given as goal

abbrev pub invariant-loop : goal.invariant-loop
invariant-loop l =
    (length l.marks ≡ length l.initial.marks)
    × Passing (settings_of l.s) l.m (marks_in (settings_of l.s) l.initial.marks) l.initial.sums l.l (marks_in (settings_of l.s) l.marks) l.sums
    (l.count - l.counter) l.x l.last
