-- `asks::whole` meets its contract: what the bench reads of a whole field keeps to it. Assumes nothing.
use Rattle.fields.proofs.Orders.{whole_keeps}
use Rattle.asks.proofs.whole.Goals as goal

pub returns-clause-within : goal.returns-clause-within
returns-clause-within c at j =
    c.of_bench.ensures.within at _
    (rw c.order_of.ensures (whole_keeps _ at _ _ _ _ (record { starts = j; ends = c.requires.ends; within = c.requires.within })))
