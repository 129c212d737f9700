-- What the loop of `runs::run` keeps.
use Rattle.runs.proofs.Along.{Along}
use Rattle.runs.proofs.run.Given as goal

abbrev pub invariant-loop-done : goal.invariant-loop-done
invariant-loop-done l = Along l.s l.fields l.initial.m l.initial.room l.size l.fits l.at l.done l.m l.room l.words
