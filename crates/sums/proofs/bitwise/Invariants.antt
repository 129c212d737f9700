-- What the loop of `sums::bitwise` keeps: the bytes that are left, from the sum so far, give the whole sum.
use mathlib.Core.Path.{◌≡◌}
use lib.ListN.{drop}
use Rattle.crc.specs.Crc.{crc_from, crc8}
use Rattle.sums.proofs.bitwise.Given as goal

abbrev pub invariant-loop-b : goal.invariant-loop-b
invariant-loop-b l = crc_from l.c (drop l.b-index l.s) ≡ crc8 l.s
