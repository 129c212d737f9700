-- `numbers::field` meets its contract: one, shifted by fewer bits than a word has, is a power of two. Assumes nothing.
use mathlib.Core.Path.{◌≡◌, ap, ◌∙◌}
use Prim.Native.Nat.{◌*◌, ◌/◌, ◌%◌, ◌^◌}
use native.Mathlib.Nat.{one-mul, mod-eq_of_lt}
use native.Mathlib.Omega.{arith}
use lib.Pow.{pow_pos, pow-lt}
use Rattle.numbers.specs.Fields.{bits}
use Rattle.numbers.proofs.field.Goals as goal
use Rattle.numbers.proofs.field.Goals.{Start}

shifted : (c : Start) → 1 * 2 ^ c.args.width % 2 ^ 32 ≡ 2 ^ c.args.width
shifted c = ap (λ n. n % 2 ^ 32) (one-mul (2 ^ c.args.width)) ∙ mod-eq_of_lt (pow-lt c.requires.1)

pub nonzero_rem-result : goal.nonzero_rem-result
nonzero_rem-result c = omega (arith, shifted c, pow_pos c.args.width)

pub returns : goal.returns
unfolding bits
returns c = ap (λ n. c.args.w / 2 ^ c.args.lo % n) (shifted c)
