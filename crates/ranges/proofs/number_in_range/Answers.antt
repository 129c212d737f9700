-- `ranges::number_in_range` meets its contract: each column's numbers by the law of their test. Assumes nothing.
use mathlib.Core.Path.{refl, sym, ◌∙◌}
use mathlib.Core.List.{[], ◌∷◌}
use native.Mathlib.Omega.{arith}
use Rattle.ledger.specs.Ledger.{last, mapped}
use Rattle.layout.specs.Shapes.{settings_of}
use Rattle.ranges.proofs.Items.{fits_number}
use Rattle.ranges.proofs.number_in_range.Goals as goal

pub returns-then-i-s : goal.returns-then-i-s
returns-then-i-s c =
    let a = c.args in
    c.below.ensures ∙ sym (fits_number (settings_of a.s) a.m.now [] _ last refl a.i _ (omega arith) (omega arith))

pub returns : goal.returns
returns c =
    let a = c.args in
    c.below-2.ensures ∙ sym (fits_number (settings_of a.s) a.m.now (last ∷ []) _ mapped refl a.i _ (omega arith) (omega arith))
