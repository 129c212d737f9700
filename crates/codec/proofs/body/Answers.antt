-- `codec::body` meets its contract: four stores, one after another. Assumes nothing.
use mathlib.Core.Path.{◌≡◌, refl}
use Prim.Native.Nat.{ℕ, ◌+◌, ◌-◌, ◌*◌, ◌^◌, ◌<◌}
use native.Mathlib.Omega.{arith}
use lib.Pow.{pow_pos}
use Rattle.numbers.proofs.Parts.{joined_lt}
use Rattle.codec.specs.Label.{label_in}
use Rattle.codec.proofs.Labels.{body_stored}
use Rattle.codec.proofs.body.Goals as goal

-- the credit on offer has the bits of its field, and zeros follow it
pub overflow_cast-credit : goal.overflow_cast-credit
overflow_cast-credit c =
    let bits : ℕ = 8 * c.args.form.offer in
    let zeros : ℕ = 8 * (2 - c.args.form.offer) in
    let all : bits + zeros ≡ 16 = omega arith in
    let fits : c.args.v.credit < 2 ^ bits = c.requires.1.1.1.1.1.1.1.0 in
    omega (arith, rw all at (joined_lt bits zeros c.args.v.credit 0 c.join-credit.result c.join-credit.ensures fits (pow_pos zeros)))

pub returns : goal.returns
returns c =
    body_stored c.args.form (label_in c.args.v) c.requires _ c.write.new.m c.write-2.new.m c.write-3.new.m
    c.write-4.new.m c.front_from-front.result c.join-credit.result
    c.front_from-front.ensures
    c.join-credit.ensures
    refl
    c.write.ensures
    c.write-2.ensures
    c.write-3.ensures
    c.write-4.ensures
