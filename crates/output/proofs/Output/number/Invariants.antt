-- The digits of what is left, and then those that are put, are the digits of n.
use Rattle.std.proofs.Common.{◌≡◌, ◌++◌, length, take, drop}
use Rattle.output.specs.Buffer.{last_digits, decimal}
use Rattle.output.proofs.Output.number.Given as goal

abbrev pub invariant-loop-at : goal.invariant-loop-at
invariant-loop-at g l = record {
  room : length l.digits ≡ 20;
  digits : last_digits l.at l.rest ++ drop l.at (take l.count l.digits) ≡ decimal l.n;
}
