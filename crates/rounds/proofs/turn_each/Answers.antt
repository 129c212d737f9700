-- `rounds::turn_each` meets its contract. The loop's invariant: the ports passed have had their turn, and it is told in the room. Assumes nothing.
use native.Mathlib.Omega.{arith}
use Rattle.rounds.proofs.Rounds.{told_none, told_one}
use Rattle.rounds.proofs.turn_each.Goals as goal

pub loop-p-init : goal.loop-p-init
loop-p-init c = told_none _ c.requires.0

pub loop-p-preserved : goal.loop-p-preserved
loop-p-preserved c =
    let out = c.turn_port.ensures in
    told_one c.loop-p.invariant (omega arith) c.turn_port.auto.m c.turn_port.auto.room out.m_after out.room_after
