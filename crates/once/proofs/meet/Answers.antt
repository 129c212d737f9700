-- `once::meet` meets its contract. Assumes nothing.
use mathlib.Core.Path.{refl, sym, ◌∙◌}
use Rattle.layout.specs.Shapes.{settings_of}
use Rattle.once.proofs.Marks.{fresh_new}
use Rattle.once.proofs.meet.Goals as goal

pub returns-then-is_node : goal.returns-then-is_node
returns-then-is_node c =
    let new = fresh_new _ _ c.requires.room (sym (c.is_node.ensures (settings_of c.args.s) refl refl) ∙ c.if-is_node.true) c.slot_of.ensures c.fresh.ensures in
    record { answer = new.0; after = new.1 }
