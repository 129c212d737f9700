-- `sound::test` meets its contract. Assumes nothing.
use mathlib.Core.Path.{sym, ◌∙◌}
use Rattle.ranges.proofs.Opening.{opened_fine}
use Rattle.sound.proofs.Means.{clean_tested, unclean_tested, tested_state}
use Rattle.sound.proofs.test.Goals as goal

pub whole_in-requires : goal.whole_in-requires
whole_in-requires c = opened_fine _ _ (sym c.open.ensures ∙ c.in-Ok.is)

pub returns-in-Ok-clause-works : goal.returns-in-Ok-clause-works
returns-in-Ok-clause-works c =
    let opens = opened_fine _ _ (sym c.open.ensures ∙ c.in-Ok.is) in
    tested_state _ _ (sym (clean_tested _ _ opens (c.whole_in.ensures.yes c.if-whole_in.true)))

pub returns-in_default-clause-told : goal.returns-in_default-clause-told
returns-in_default-clause-told c =
    unclean_tested _ _ (opened_fine _ _ (sym c.open.ensures ∙ c.in-Ok.is)) (c.whole_in.ensures.no c.if-whole_in.false)
