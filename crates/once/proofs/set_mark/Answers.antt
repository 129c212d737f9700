-- `once::set_mark` meets its contract: the power of two of a byte's bit is a byte. Assumes nothing.
use mathlib.Core.Path.{◌≡◌}
use Prim.Native.Nat.{◌*◌, ◌%◌, ◌^◌, ◌<◌}
use native.Mathlib.Omega.{arith}
use lib.Pow.{pow-lt}
use Rattle.once.specs.Bits.{set_mark}
use Rattle.once.proofs.set_mark.Goals as goal

pub returns : goal.returns
unfolding set_mark
returns c =
    let low : c.args.at % 8 < 8 = omega arith in
    let byte : 1 * 2 ^ (c.args.at % 8) % 256 ≡ 2 ^ (c.args.at % 8) = omega (arith, pow-lt low) in
    rw byte
