-- `audits::tell_lists` meets its contract. The loop's invariant: what all lists leave is what the rest of them leaves from here. Assumes nothing.
use Rattle.audits.proofs.Walks.{pass_goes}
use Rattle.audits.proofs.tell_lists.Goals as goal

pub loop-l-preserved : goal.loop-l-preserved
loop-l-preserved c =
    pass_goes _ _ _ c.loop-l.invariant (rw c.args.s.laid.lists_are at c.loop-l-test.true) _ c.tell_list.auto.room c.tell_list.ensures
