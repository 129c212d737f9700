-- `fills::put_each` meets its contract: one turn more is one put more. Assumes nothing.
use Rattle.std.proofs.Common.{refl, ◌∙◌, add-one}
use Rattle.memory.specs.Image.{fill}
use Rattle.fills.proofs.put_each.Goals as goal

pub loop-i-init : goal.loop-i-init
unfolding fill
loop-i-init g c = λ at by a b. refl

pub loop-i-preserved : goal.loop-i-preserved
unfolding fill
loop-i-preserved g c = λ at by a b.
    c.put.ensures
    ∙ rw (a _ _ c.loop-i-test.true c.place.ensures, b _ _ c.loop-i-test.true c.value.ensures, c.loop-i.invariant at by a b, add-one)
