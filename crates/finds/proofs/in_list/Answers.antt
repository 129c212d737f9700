-- `finds::in_list` meets its contract. The loop's invariant: what is found in the list is what is found in the rest of it. Assumes nothing.
use native.Mathlib.Omega.{arith}
use Rattle.std.proofs.lemmas.Bool.Decides.{nat_tests}
use Rattle.finds.proofs.Laws as laws
use Rattle.finds.proofs.in_list.Goals as goal

pub loop-i-init : goal.loop-i-init
loop-i-init c = laws.walk_starts _ _ _ c.requires.works.state _ _ c.requires.inside c.first-y.ensures

pub loop-i-preserved : goal.loop-i-preserved
loop-i-preserved c =
    laws.walk_goes _ _ _ _ _ _ c.loop-i.invariant (rw c.count-i-end.ensures at c.loop-i-test.true) _ c.next-y.ensures (grind (arith, nat_tests))
