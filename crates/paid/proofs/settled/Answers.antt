-- `paid::settled` meets its contract: no sum is large. Assumes nothing.
use native.Mathlib.Omega.{arith}
use Rattle.layout.proofs.Shapes.{few}
use Rattle.paid.proofs.Passing.{sum_of}
use Rattle.paid.proofs.settled.Goals as goal

pub overflow_add-result : goal.overflow_add-result
overflow_add-result c =
    omega (arith, sum_of _ c.args.sums.now c.args.c _ c.requires.all.held, few _ c.args.s.laid.roomy)
