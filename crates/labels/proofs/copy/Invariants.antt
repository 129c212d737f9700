-- What the loop of `labels::copy` keeps: the first i bytes are those handed, and the others are as they were.
use Rattle.std.proofs.Common.{◌≡◌, ◌++◌, take, drop}
use Rattle.labels.proofs.copy.Given as goal

abbrev pub invariant-loop-i : goal.invariant-loop-i
invariant-loop-i l = l.room ≡ take l.i l.bytes ++ drop l.i l.initial.room
