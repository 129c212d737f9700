-- `layout::start_of` meets its contract: where the tables of nodes start. Assumes nothing.
use native.Mathlib.Omega.{arith}
use Rattle.layout.specs.Tables.{start_of}
use Rattle.layout.proofs.start_of.Goals as goal

pub returns-in-Length : goal.returns-in-Length
unfolding start_of
returns-in-Length c = rw c.in-Length.is (omega arith)

pub returns-in-Stamp : goal.returns-in-Stamp
unfolding start_of
returns-in-Stamp c = rw c.in-Stamp.is (omega arith)

pub returns-in-Queue : goal.returns-in-Queue
unfolding start_of
returns-in-Queue c = rw c.in-Queue.is (omega arith)

pub returns-in-Dest : goal.returns-in-Dest
unfolding start_of
returns-in-Dest c = rw c.in-Dest.is (omega arith)

pub returns-in-Poisoned : goal.returns-in-Poisoned
unfolding start_of
returns-in-Poisoned c = rw c.in-Poisoned.is (omega arith)

pub returns-in-Transaction : goal.returns-in-Transaction
unfolding start_of
returns-in-Transaction c = rw c.in-Transaction.is (omega arith)

pub returns-in-Price : goal.returns-in-Price
unfolding start_of
returns-in-Price c = rw c.in-Price.is (omega arith)
