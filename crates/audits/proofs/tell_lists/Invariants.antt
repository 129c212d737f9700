-- What the loop of `audits::tell_lists` keeps.
use Rattle.layout.specs.Shapes.{settings_of}
use Rattle.audits.proofs.Walks.{Passing}
use Rattle.audits.proofs.tell_lists.Given as goal

abbrev pub invariant-loop-l : goal.invariant-loop-l
invariant-loop-l l = Passing (settings_of l.s) l.m l.initial.room l.room l.l
