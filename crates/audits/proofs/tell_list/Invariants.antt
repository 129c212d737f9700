-- What the loop of `audits::tell_list` keeps.
use Rattle.layout.specs.Shapes.{settings_of}
use Rattle.audits.proofs.Walks.{Telling}
use Rattle.audits.proofs.tell_list.Given as goal

abbrev pub invariant-loop-i : goal.invariant-loop-i
invariant-loop-i l = Telling (settings_of l.s) l.m l.l l.initial.room l.room l.x.0 l.i
