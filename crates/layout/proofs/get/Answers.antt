-- `layout::get` meets its contract: the element lies in the memory. Assumes nothing.
use native.Mathlib.Omega.{arith}
use Rattle.layout.proofs.Shapes.{reach, read_is}
use Rattle.layout.proofs.get.Goals as goal

pub overflow_mul-i : goal.overflow_mul-i
overflow_mul-i g c = rw c.BYTES.ensures (omega (arith, reach c.requires))

pub overflow_add-start_of : goal.overflow_add-start_of
overflow_add-start_of g c = rw c.BYTES.ensures (omega (arith, reach c.requires))

pub read-requires : goal.read-requires
read-requires g c = rw c.BYTES.ensures (omega (arith, reach c.requires))

pub returns : goal.returns
returns g c = cc (read_is c.requires)
