-- Each turn leaves the bytes that were there, and reads a byte or more past them.
use Rattle.std.proofs.Common.{◌≡◌, ◌+◌, ◌-◌, ◌≤◌, cond, take, drop}
use Rattle.std.specs.Io.KnownBytes.{Consumes}
use Rattle.input.proofs.Input.fill.Given as goal

abbrev pub invariant-loop-self : goal.invariant-loop-self
invariant-loop-self g l = record {
  at_front : l.self.from ≡ 0;
  past : l.initial.self.to ≤ l.self.to;
  front : take l.initial.self.to l.self.bytes ≡ take l.initial.self.to l.initial.self.bytes;
  read : Consumes (g.R.Read.remaining l.initial.self.reader) (g.R.Read.remaining l.self.reader) (drop l.initial.self.to (take l.self.to l.self.bytes));
}

abbrev pub decreases-loop-self : goal.decreases-loop-self
decreases-loop-self g l = 14 - l.self.to + cond l.self.ended 0 1
