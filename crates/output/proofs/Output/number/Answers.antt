use Rattle.std.proofs.Common.{rules}
use Rattle.output.proofs.Laws.{digit_put}
use Rattle.output.proofs.Output.number.Goals as goal

pub loop-at-preserved : goal.loop-at-preserved
loop-at-preserved g c = record { room = search rules; digits = search (rules, digit_put) }
