-- `finds::where_is` meets its contract: a node is found where it stands. Assumes nothing.
use mathlib.Core.Path.{refl, sym, ap, ◌∙◌}
use Rattle.ledger.specs.Ledger.{Place}
use Rattle.ledger.specs.Calls.{found}
use Rattle.layout.specs.Shapes.{settings_of}
use Rattle.finds.proofs.Laws as laws
use Rattle.finds.proofs.where_is.Goals as goal
use Rattle.finds.proofs.where_is.Goals.{After-unwrap-l}

stands : (c : After-unwrap-l) → let a = c.args in laws.Found (settings_of a.s) a.m.now a.id.0 c.unwrap-l.result.0 c.unwrap-l.result.1
stands c =
    let node = sym (c.is_node.ensures (settings_of c.args.s) refl refl) ∙ c.if-not-is_node.false in
    laws.stands_at _ _ _ c.requires.state node c.unwrap-l.result (sym c.unwrap-l.ensures ∙ c.search.ensures)

pub kind_of-requires : goal.kind_of-requires
kind_of-requires c = record { inside = (stands c).inside }

pub returns : goal.returns
returns c = ap (λ (v : Place). found v c.unwrap-l.result.1) c.kind_of.ensures ∙ (stands (goal.at.returns c).After-unwrap-l).reply
