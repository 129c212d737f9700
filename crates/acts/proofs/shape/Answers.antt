-- `acts::shape` meets its contract: a state is opened with its own shape. Assumes nothing.
use mathlib.Core.Path.{sym, ◌∙◌, subst}
use Rattle.ledger.specs.Settings.{Settings}
use Rattle.layout.specs.Picture.{StateOf}
use Rattle.ranges.proofs.Opening.{opened_fine, opened_is}
use Rattle.acts.proofs.shape.Goals as goal

pub unwrap-requires : goal.unwrap-requires
unwrap-requires c = rw (c.open.ensures, opened_is c.args.m.now c.requires.sound.rows c.requires.long)

pub returns : goal.returns
returns c =
    let o = opened_fine c.args.m.now c.unwrap.result (sym c.open.ensures ∙ c.unwrap.ensures) in
    let state = subst (λ (S : Settings). StateOf S c.args.m.now) (sym o.settings_are) c.requires in
    record { settings_are = o.settings_are; state = state }
