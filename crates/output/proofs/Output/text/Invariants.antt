-- What waits, with what is left of the text put after it, is what waits in the end.
use Rattle.std.proofs.Common.{◌≡◌, drop}
use Rattle.output.specs.Buffer.{queued}
use Rattle.output.specs.Outputs.{waiting_bytes}
use Rattle.output.proofs.Output.text.Given as goal

abbrev pub invariant-loop-b : goal.invariant-loop-b
invariant-loop-b g l = queued (waiting_bytes l.self) (drop l.b-index l.s) ≡ queued (waiting_bytes l.initial.self) l.s
