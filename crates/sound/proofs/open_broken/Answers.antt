-- `sound::open_broken` meets its contract: what is found of the numbers is found of rule (b), and the walk decides the rest. Assumes nothing.
use mathlib.Core.Path.{◌≡◌, sym, ap, ◌∙◌}
use Prim.Native.Nat.{ℕ}
use Rattle.std.proofs.Common.{rules}
use Rattle.std.specs.Prelude.{Option, None}
use Rattle.ledger.specs.declared.Rule.TheVariants.{I}
use Rattle.sound.specs.Sound.{or_next}
use Rattle.layout.specs.Shapes.{settings_of}
use Rattle.ranges.proofs.Slots.{Low, low_found}
use Rattle.sound.proofs.Means.{range_broken}
use Rattle.sound.proofs.Walks.{kept_broken, due_told}
use Rattle.sound.proofs.open_broken.Goals as goal
use Rattle.sound.proofs.open_broken.Goals.{In_default}

low : (c : In_default) → Low (settings_of c.args.s) c.args.m.now c.args.s.laid.roomy
low c = sym c.number_outside.ensures ∙ c.in_default.is

pub returns-in-Some : goal.returns-in-Some
returns-in-Some c = rw c.breaks.ensures (sym (range_broken _ _ _ (low_found _ _ c.args.s.laid.roomy _ (sym c.number_outside.ensures ∙ c.in-Some.is))))

pub returns-in-Ok : goal.returns-in-Ok
returns-in-Ok c =
    let told : c.map.result ≡ or_next c.wrong_mark.result I None = search rules in
    told ∙ ap (λ (f : Option ℕ). or_next f I None) c.wrong_mark.ensures
    ∙ sym (kept_broken _ _ c.args.s.laid.roomy (low (goal.at.returns-in-Ok c).In_default) c.in-Ok.ensures)

pub returns-in-Err-Due : goal.returns-in-Err-Due
returns-in-Err-Due c =
    let told = rw c.in-Err-Due.field-0-is at c.in-Err-Due.ensures in
    rw c.breaks-in-Err-Due.ensures (sym (due_told _ _ c.args.s.laid.roomy (low (goal.at.returns-in-Err-Due c).In_default) _ told))
