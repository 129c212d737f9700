-- What the loop of `once::once` keeps.
use mathlib.Core.Path.{◌≡◌}
use lib.ListN.{length}
use Rattle.layout.specs.Shapes.{settings_of}
use Rattle.once.specs.Bits.{marks_in}
use Rattle.once.specs.Walks.{Scanning}
use Rattle.once.proofs.once.Given as goal

abbrev pub invariant-loop-l : goal.invariant-loop-l
invariant-loop-l l = (length l.marks ≡ length l.initial.marks) × Scanning (settings_of l.s) l.m (marks_in (settings_of l.s) l.marks) l.l
