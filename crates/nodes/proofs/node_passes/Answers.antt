-- `nodes::node_passes` meets its contract, by the first test that fails. Assumes nothing.
use mathlib.Core.Path.{◌≡◌, sym, ◌∙◌}
use mathlib.Core.Bool.{true, false≢true, ◌||◌}
use native.Mathlib.Omega.{arith}
use borrow.Author.Tests.{eq-eqb, ne_eqb}
use lib.Dec.{eqb, leb}
use Rattle.ledger.specs.Ledger.{owner}
use Rattle.layout.specs.Shapes.{settings_of}
use Rattle.memory.proofs.Chains.{slot_lt}
use Rattle.once.specs.Bits.{marks_in}
use Rattle.once.specs.Once.{is_new, mark}
use Rattle.once.proofs.Marks.{fresh_new}
use Rattle.nodes.specs.Nodes.{add_here}
use Rattle.nodes.proofs.Here.{other_port, free_fits, packet_fits_lem}
use Rattle.nodes.proofs.node_passes.Goals as goal
use Rattle.nodes.proofs.node_passes.Goals.{After-fresh, Else-not-port_fits}
use Rattle.nodes.proofs.node_passes.Goals.{then-not-fresh-via-then-not-fresh, then-not-fresh-via-else-not-fresh+then-not-port_fits}

-- whether the node is new, and its mark
met : (c : After-fresh)
    → let a = c.args in
    let f = c.fresh in
    let S = settings_of a.s in
    (f.result ≡ is_new S (marks_in S a.marks.now) a.x.0)
    × (f.result ≡ true → marks_in S f.new.marks ≡ mark S (marks_in S a.marks.now) a.x.0)
met c = let p = c.requires in fresh_new _ _ p.lent.marks.room p.node p.at_is c.fresh.ensures

ported : (c : Else-not-port_fits) → let a = c.args in (leb 2 a.column || eqb (owner a.x.0) a.port) ≡ true
ported c = sym c.port_fits.ensures ∙ c.if-not-port_fits.false

pub fresh-requires : goal.fresh-requires
fresh-requires c = let p = c.requires in omega (arith, p.at_is, p.lent.marks.room, slot_lt _ _ p.node)

pub returns-then-not-fresh : goal.returns-then-not-fresh
returns-then-not-fresh c =
    let m = met (goal.at.returns-then-not-fresh c).After-fresh in
    record {
      answer = elim c.then-not-fresh.branch [
        | then-not-fresh-via-then-not-fresh w ↦ rw (sym m.0 ∙ w.if-not-fresh.true)
        | then-not-fresh-via-else-not-fresh+then-not-port_fits w ↦
            rw (sym m.0 ∙ w.if-not-fresh.false) (other_port _ _ _ _ _ (sym w.port_fits.ensures ∙ w.if-not-port_fits.true))
      ];
      marks = λ e. absurd (false≢true e);
      added = λ e. absurd (false≢true e);
    }

pub returns-then-column-eq0 : goal.returns-then-column-eq0
unfolding add_here
returns-then-column-eq0 c =
    let m = met (goal.at.returns-then-column-eq0 c).After-fresh in
    record {
      answer = rw (sym m.0 ∙ c.if-not-fresh.false)
          (eq-eqb _ 0 c.if-column-eq0.true ∙ sym (ported (goal.at.returns-then-column-eq0 c).Else-not-port_fits) ∙ free_fits _ _ _ _ _ c.if-column-eq0.true);
      marks = λ e. m.1 c.if-not-fresh.false;
      added = λ e. rw c.if-column-eq0.true;
    }

pub returns-else-column-eq0 : goal.returns-else-column-eq0
unfolding add_here
returns-else-column-eq0 c =
    let m = met (goal.at.returns-else-column-eq0 c).After-fresh in
    record {
      answer = rw (sym m.0 ∙ c.if-not-fresh.false)
          (c.packet_passes.ensures.answer ∙ packet_fits_lem _ _ _ _ _ c.if-column-eq0.false (ported (goal.at.returns-else-column-eq0 c).Else-not-port_fits));
      marks = λ e. m.1 c.if-not-fresh.false;
      added = λ e. rw (ne_eqb _ 0 c.if-column-eq0.false) (c.packet_passes.ensures.added e);
    }
