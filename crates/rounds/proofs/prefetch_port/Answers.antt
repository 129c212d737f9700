-- `rounds::prefetch_port` meets its contract. The loop's invariant: the queues passed have had their prefetch. Assumes nothing.
use mathlib.Core.Path.{ap}
use mathlib.Core.List.{List}
use Prim.Native.Nat.{ℕ}
use native.Mathlib.Omega.{arith}
use Rattle.ledger.specs.Calls.{Reply}
use Rattle.rounds.proofs.Rounds.{passed_next}
use Rattle.rounds.proofs.prefetch_port.Goals as goal

pub loop-q-preserved : goal.loop-q-preserved
loop-q-preserved c =
    let went = ap (λ (o : Reply × List ℕ). o.1) c.prefetch.ensures in
    passed_next _ c.loop-q.invariant (omega arith) c.prefetch.auto.m went
