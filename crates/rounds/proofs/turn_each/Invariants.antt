-- What the loop of `rounds::turn_each` keeps.
use Rattle.rounds.proofs.Rounds.{Telling}
use Rattle.rounds.proofs.turn_each.Given as goal

abbrev pub invariant-loop-p : goal.invariant-loop-p
invariant-loop-p l = Telling l.s l.initial.m l.initial.room l.s.ports l.p l.m l.room
