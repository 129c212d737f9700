-- What the loop of `sums::step` keeps: the bits that are left, from the sum so far, give the byte's sum.
use mathlib.Core.Path.{◌≡◌}
use Prim.Native.Nat.{◌-◌}
use Rattle.crc.specs.Crc.{crc_bits, crc_byte}
use Rattle.sums.proofs.step.Given as goal

abbrev pub invariant-loop : goal.invariant-loop
invariant-loop l = crc_bits (8 - l.counter) l.x ≡ crc_byte l.c l.b
