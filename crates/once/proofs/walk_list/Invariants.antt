-- What the loop of `once::walk_list` keeps.
use mathlib.Core.Path.{◌≡◌}
use Prim.Native.Nat.{◌-◌}
use lib.ListN.{length}
use Rattle.layout.specs.Shapes.{settings_of}
use Rattle.once.specs.Bits.{marks_in}
use Rattle.once.proofs.Walk.{Walking}
use Rattle.once.proofs.walk_list.Given as goal

abbrev pub invariant-loop : goal.invariant-loop
invariant-loop l =
    (length l.marks ≡ length l.initial.marks) × Walking (settings_of l.s) l.m (marks_in (settings_of l.s) l.initial.marks) l.l
    (marks_in (settings_of l.s) l.marks) (l.count - l.counter) l.x l.last
