-- `arrivals::take_in` meets its contract: the credit is read first, then the node goes from list to list with its record written
-- between. Assumes nothing.
use mathlib.Core.Path.{◌≡◌, sym, ap, ◌∙◌}
use Prim.Native.Nat.{ℕ}
use native.Mathlib.Omega.{arith}
use Rattle.ledger.specs.Ledger.{free, place#}
use Rattle.ledger.specs.Answers.{sent_of}
use Rattle.layout.specs.declared.Table.TheVariants.{Head}
use Rattle.layout.specs.Tables.{get}
use Rattle.layout.specs.Shapes.{settings_of}
use Rattle.memory.specs.Ends.{pop_mem}
use Rattle.arrivals.proofs.Laws as laws
use Rattle.arrivals.proofs.take_in.Goals as goal
use Rattle.arrivals.proofs.take_in.Goals.{After-pop-x}

pub pop-x-requires : goal.pop-x-requires
pop-x-requires c =
    let a = c.args in
    record {
      tidy = c.requires.tidy;
      inside = omega (arith, laws.lists_in (settings_of a.s) c.args.s.laid.roomy a.p c.requires.port);
      some = rw c.free_list-from.ensures c.requires.some;
    }

popped_is : (c : After-pop-x) → let a = c.args in
    c.pop-x.new.m ≡ pop_mem (settings_of a.s) (place# (settings_of a.s) (free a.p)) a.m.now
popped_is c =
    let a = c.args in
    c.pop-x.ensures.memory ∙ ap (λ (l : ℕ). pop_mem (settings_of a.s) l a.m.now) c.free_list-from.ensures

-- the node that is taken off is the packet's
node_is : (c : After-pop-x) → c.pop-x.result.0 ≡ (sent_of c.args.k).node
node_is c =
    c.pop-x.ensures.first ∙ ap (get (settings_of c.args.s) c.args.m.now Head) c.free_list-from.ensures ∙ sym c.requires.node

pub record-requires : goal.record-requires
record-requires c =
    let a = c.args in
    record {
      long = rw (popped_is (goal.at.record-requires c).After-pop-x) (laws.popped_tidy a.s a.p (sent_of a.k) a.m.now c.requires).long;
      node = laws.node_on a.s a.p (sent_of a.k) a.m.now c.requires;
    }

pub push-requires : goal.push-requires
push-requires c =
    let a = c.args in
    record {
      tidy = rw (c.record.ensures, popped_is (goal.at.push-requires c).After-pop-x) (laws.recorded_tidy a.s a.p (sent_of a.k) a.m.now c.requires);
      inside = omega (arith, laws.lists_in (settings_of a.s) c.args.s.laid.roomy a.p c.requires.port);
      node = rw (node_is (goal.at.push-requires c).After-pop-x) (laws.node_on a.s a.p (sent_of a.k) a.m.now c.requires);
    }

pub returns : goal.returns
returns c =
    let a = c.args in
    laws.taken_in (settings_of a.s) a.p (sent_of a.k) a.m.now
    (popped_is (goal.at.returns c).After-pop-x) c.record.ensures c.push.ensures c.ingress_list-to.ensures (node_is (goal.at.returns c).After-pop-x)
    c.set_arrival.ensures c.from-q.ensures c.from-price.ensures c.arrival-credit.ensures
