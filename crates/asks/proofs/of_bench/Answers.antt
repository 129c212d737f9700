-- `asks::of_bench` meets its contract: by what is read. Assumes nothing.
use mathlib.Core.Path.{subst}
use Rattle.fields.specs.Orders.{Keeps}
use Rattle.asks.proofs.of_bench.Goals as goal

pub returns-in-Some-clause-within : goal.returns-in-Some-clause-within
returns-in-Some-clause-within c at n k = c.in-Some.ensures.within at n c.in-Call.next (subst (Keeps at n) c.in-Call.is k)
