-- What the loop of `finds::search` keeps.
use Rattle.layout.specs.Shapes.{settings_of}
use Rattle.finds.proofs.Laws as laws
use Rattle.finds.proofs.search.Given as goal

abbrev pub invariant-loop-l : goal.invariant-loop-l
invariant-loop-l l = laws.Searching (settings_of l.s) l.m l.x.0 l.l
