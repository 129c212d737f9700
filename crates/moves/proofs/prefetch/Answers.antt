-- `moves::prefetch` meets its contract: the judge decides, and where it lets the call go the node is taken off and put on. Assumes nothing.
use mathlib.Core.Path.{refl, sym, ap₂, ◌∙◌}
use mathlib.Core.List.{List}
use Prim.Native.Nat.{ℕ}
use Rattle.ledger.specs.Calls.{entry}
use Rattle.ledger.specs.Ledger.{egress, prefetched, place#}
use Rattle.layout.specs.Shapes.{settings_of}
use Rattle.memory.proofs.Chains.{state_tidy}
use Rattle.memory.proofs.Judged.{handed_on}
use Rattle.memory.proofs.Judging.{egress_in, prefetch_in}
use Rattle.lists.specs.Ends.{CanShift}
use Rattle.lists.proofs.Laws.{can_take, can_put, shifted}
use Rattle.moves.proofs.Laws.{Goes, gone_on}
use Rattle.moves.proofs.prefetch.Goals as goal
use Rattle.moves.proofs.prefetch.Goals.{In_ok-judge_prefetch}

-- the judge let it go
went : (c : In_ok-judge_prefetch) → let a = c.args in Goes (settings_of a.s) a.m.now a.port a.queue
went c =
    let a = c.args in
    gone_on (settings_of a.s) a.m.now c.requires.state a.port a.queue
    c.in_ok-judge_prefetch.ensures

pub egress_list-from-requires : goal.egress_list-from-requires
egress_list-from-requires c = record { port = (went c).port; queue = (went c).queue }

pub prefetch_list-to-requires : goal.prefetch_list-to-requires
prefetch_list-to-requires c =
    record {
      port = (went (goal.at.prefetch_list-to-requires c).In_ok-judge_prefetch).port;
      queue = (went (goal.at.prefetch_list-to-requires c).In_ok-judge_prefetch).queue;
    }

-- the oldest egress node can go to the prefetch list
can : (c : In_ok-judge_prefetch) → let a = c.args in
    let S = settings_of a.s in
    CanShift a.s (place# S (egress a.port a.queue)) (place# S (prefetched a.port a.queue)) a.m.now
can c =
    let w = went c in
    let S = settings_of c.args.s in
    let p = c.args.port in
    let q = c.args.queue in
    record {
      take = record {
        tidy = state_tidy S c.args.m.now c.requires.state;
        inside = egress_in S p q w.port w.queue;
        some = w.some;
      };
      target = prefetch_in S p q w.port w.queue;
    }

pub pop-x-requires : goal.pop-x-requires
pop-x-requires c = can_take c.egress_list-from.ensures (can (goal.at.pop-x-requires c).In_ok-judge_prefetch)

pub push-requires : goal.push-requires
push-requires c =
    can_put c.egress_list-from.ensures c.prefetch_list-to.ensures (can (goal.at.push-requires c).In_ok-judge_prefetch) c.pop-x.ensures

pub returns-in_err-judge_prefetch : goal.returns-in_err-judge_prefetch
returns-in_err-judge_prefetch c = handed_on _ _ _ _ _ _ c.from_residual.ensures.1 c.in_err-judge_prefetch.ensures refl

pub returns : goal.returns
returns c =
    let sh = shifted c.egress_list-from.ensures c.prefetch_list-to.ensures c.pop-x.ensures c.push.ensures in
    ap₂ (λ (x : ℕ) (n : List ℕ). (entry x, n)) sh.first sh.memory ∙ sym (went (goal.at.returns c).In_ok-judge_prefetch).outcome
