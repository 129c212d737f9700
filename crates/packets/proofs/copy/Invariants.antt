-- What the loop of `packets::copy` keeps: the first i bytes are the packet's, and the others are as they were.
use Rattle.std.proofs.Common.{◌≡◌, ◌++◌, take, drop}
use Rattle.packets.proofs.copy.Given as goal

abbrev pub invariant-loop-i : goal.invariant-loop-i
invariant-loop-i l = l.slot ≡ take l.i l.packet ++ drop l.i l.initial.slot
