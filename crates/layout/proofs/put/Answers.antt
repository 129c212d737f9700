-- `layout::put` meets its contract: the element lies in the memory. Assumes nothing.
use native.Mathlib.Omega.{arith}
use Rattle.layout.proofs.Shapes.{reach, write_is}
use Rattle.layout.proofs.put.Goals as goal

pub overflow_mul-i : goal.overflow_mul-i
overflow_mul-i g c = rw c.BYTES.ensures (omega (arith, reach c.requires))

pub overflow_add-start_of : goal.overflow_add-start_of
overflow_add-start_of g c = rw c.BYTES.ensures (omega (arith, reach c.requires))

pub write-requires : goal.write-requires
write-requires g c = rw c.BYTES.ensures (omega (arith, reach c.requires))

pub returns : goal.returns
returns g c = cc (write_is c.requires (g.N.Number.value c.args.v))
