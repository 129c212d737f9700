-- `whole::list_passes` meets its contract. The loop's invariant: what is found in the whole list is what is found in what is left of it.
-- Assumes nothing.
use mathlib.Core.Path.{◌≡◌, refl, sym, ap, ◌∙◌}
use mathlib.Core.Bool.{true, ◌&&◌}
use Prim.Native.Nat.{◌-◌, ◌/◌, ◌%◌}
use native.Mathlib.Omega.{arith}
use borrow.Author.Rules.{rules}
use lib.Dec.{eqb}
use Rattle.ledger.specs.Settings.{row}
use Rattle.ledger.specs.Ledger.{is_node}
use Rattle.ledger.proofs.Tests.{true≢false}
use Rattle.layout.specs.declared.Table.TheVariants.{Count, Next}
use Rattle.layout.specs.Tables.{get}
use Rattle.layout.specs.Shapes.{settings_of}
use Rattle.memory.proofs.Chains.{slot_lt}
use Rattle.once.specs.Bits.{marks_in}
use Rattle.once.specs.Once.{is_new}
use Rattle.once.proofs.Bits.{marks_length}
use Rattle.once.proofs.Walk.{walk_start}
use Rattle.nodes.specs.Nodes.{fits_here}
use Rattle.whole.proofs.Walking.{not_passed, pass_start, pass_held, pass_lent, pass_not, pass_step, pass_end}
use Rattle.whole.proofs.list_passes.Goals as goal
use Rattle.whole.proofs.list_passes.Goals.{After-node_passes, Else-not-is_node}

-- what was answered of the node, by the place of its list
told : (c : After-node_passes)
    → let a = c.args in
    let S = settings_of a.s in
    (is_new S (marks_in S c.loop.marks) c.loop.x && fits_here S a.m.now (a.l / row S) (a.l % row S) c.loop.x) ≡ c.node_passes.result
told c =
    let p = c.requires in
    rw (← p.port_is, ← p.column_is) (sym c.node_passes.ensures.answer)

node : (c : Else-not-is_node) → is_node (settings_of c.args.s) c.loop.x ≡ true
node c = sym (c.is_node.ensures (settings_of c.args.s) refl refl) ∙ c.if-not-is_node.false

pub loop-init : goal.loop-init
loop-init c =
    let p = c.requires in
    let all : c.args.count - 0 ≡ get (settings_of c.args.s) c.args.m.now Count c.args.l = omega (arith, p.count_is) in
    (refl, rw (c.get-tail.ensures, c.get-x.ensures) (pass_start all (walk_start _ _ _ _ (marks_length _ _) all) p.lent.held))

-- an id that is no node is not new
pub returns-then-not-is_node : goal.returns-then-not-is_node
unfolding is_new
returns-then-not-is_node c =
    let none = sym (c.is_node.ensures (settings_of c.args.s) refl refl) ∙ c.if-not-is_node.true in
    not_passed (pass_not c.loop.invariant.1 (omega arith) (rw none))

pub get-next-requires : goal.get-next-requires
get-next-requires c = record {
  long = search rules;
  wide = refl;
  inside = rw c.slot_of-at.ensures (slot_lt _ _ (node (goal.at.get-next-requires c).Else-not-is_node));
}

pub node_passes-requires : goal.node_passes-requires
node_passes-requires c =
    let p = c.requires in
    record {
      lent = record {
        marks = record { room = rw c.loop.invariant.0 p.lent.marks.room };
        long = p.lent.long;
        held = pass_lent c.loop.invariant.1 c.args.s.laid.roomy p.inside;
      };
      node = node (goal.at.node_passes-requires c).Else-not-is_node;
      at_is = c.slot_of-at.ensures;
    }

pub returns-then-not-node_passes : goal.returns-then-not-node_passes
returns-then-not-node_passes c =
    not_passed (pass_not c.loop.invariant.1 (omega arith) (told (goal.at.returns-then-not-node_passes c).After-node_passes ∙ c.if-not-node_passes.true))

pub loop-preserved : goal.loop-preserved
loop-preserved c =
    let a = c.args in
    let yes = c.if-not-node_passes.false in
    let t = c.node_passes.ensures in (
      c.node_passes.auto.marks ∙ c.loop.invariant.0,
      pass_step c.loop.invariant.1 (omega arith) (told (goal.at.loop-preserved c).After-node_passes ∙ yes) c.requires.column_is (t.marks yes)
          (t.added yes)
          (c.get-next.ensures ∙ ap (get (settings_of a.s) a.m.now Next) c.slot_of-at.ensures)
          (omega arith),
    )

pub returns : goal.returns
returns c =
    let w = pass_end c.loop.invariant.1 (omega arith) in
    let e = w.0 ∙ ap (eqb _) (sym c.get-tail.ensures) in
    record {
      answer = record { yes = λ r. record { once = e ∙ r; fits = w.3 }; no = λ r k. true≢false (sym k.once ∙ e ∙ r) };
      marks = λ r. w.1;
      added = λ r. w.2;
      held = λ r. pass_held c.loop.invariant.1;
    }
