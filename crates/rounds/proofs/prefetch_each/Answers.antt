-- `rounds::prefetch_each` meets its contract. The loop's invariant: the ports passed have had their prefetches. Assumes nothing.
use native.Mathlib.Omega.{arith}
use Rattle.rounds.proofs.Rounds.{passed_next}
use Rattle.rounds.proofs.prefetch_each.Goals as goal

pub loop-p-preserved : goal.loop-p-preserved
loop-p-preserved c =
    passed_next _ c.loop-p.invariant (omega arith) c.prefetch_port.auto.m c.prefetch_port.ensures
