-- `audits::tell_list` meets its contract. The loop's invariant: what the whole list leaves is what the rest of it leaves from here. Assumes nothing.
use Rattle.audits.proofs.Walks.{tell_starts, tell_goes}
use Rattle.audits.proofs.tell_list.Goals as goal

pub loop-i-init : goal.loop-i-init
loop-i-init c = rw c.first-x.ensures (tell_starts _ _ _ _ c.requires.lent.works.state c.requires.inside)

pub loop-i-preserved : goal.loop-i-preserved
loop-i-preserved c =
    let out = c.tell-x.ensures in
    rw out.after (tell_goes _ _ _ _ c.loop-i.invariant (rw c.count-i-end.ensures at c.loop-i-test.true) _ c.tell-x.auto.room
    (rw (← c.kind_of-kind.ensures) out.told))
