-- What the loop of `finds::in_list` keeps.
use Rattle.layout.specs.Shapes.{settings_of}
use Rattle.finds.proofs.Laws as laws
use Rattle.finds.proofs.in_list.Given as goal

abbrev pub invariant-loop-i : goal.invariant-loop-i
invariant-loop-i l = laws.Walking (settings_of l.s) l.m l.x.0 l.l l.y.0 l.i
