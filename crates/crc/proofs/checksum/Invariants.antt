-- What the loop of `crc::checksum` keeps: the bytes that are left, from the sum so far, give the whole sum.
use mathlib.Core.Path.{◌≡◌}
use lib.ListN.{drop}
use Rattle.crc.specs.Crc.{crc_from, crc8}
use Rattle.crc.proofs.checksum.Given as goal

abbrev pub invariant-loop-b : goal.invariant-loop-b
invariant-loop-b l = crc_from l.c (drop l.b-index l.s) ≡ crc8 l.s
