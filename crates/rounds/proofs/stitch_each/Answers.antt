-- `rounds::stitch_each` meets its contract. The loop's invariant: the ports passed are stitched. Assumes nothing.
use native.Mathlib.Omega.{arith}
use mathlib.Core.Path.{ap}
use mathlib.Core.List.{List}
use Prim.Native.Nat.{ℕ}
use Rattle.ledger.specs.Calls.{Reply}
use Rattle.rounds.proofs.Rounds.{passed_next}
use Rattle.rounds.proofs.stitch_each.Goals as goal

pub loop-p-preserved : goal.loop-p-preserved
loop-p-preserved c =
    passed_next _ c.loop-p.invariant (omega arith) c.stitch.auto.m (ap (λ (o : Reply × List ℕ). o.1) c.stitch.ensures)
