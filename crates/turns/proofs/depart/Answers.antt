-- `turns::depart` meets its contract: what was taken off can be put on. Assumes nothing.
use mathlib.Core.Path.{refl}
use Rattle.std.proofs.Common.{arith}
use Rattle.memory.proofs.Chains.{state_tidy}
use Rattle.memory.proofs.Judging.{judging}
use Rattle.lists.proofs.Laws.{can_put}
use Rattle.turns.proofs.Laws.{departs}
use Rattle.turns.proofs.depart.Goals as goal

pub push-requires : goal.push-requires
push-requires c =
    let p = c.requires in
    can_put refl refl (record {
      take = record {
        tidy = state_tidy _ _ p.works.state;
        inside = grind (arith, judging);
        some = grind arith;
      };
      target = grind (arith, departs, judging);
    }) c.pop-y.ensures
