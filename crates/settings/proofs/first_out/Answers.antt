-- `settings::first_out` meets its contract: a search of the settings. Assumes nothing.
use Rattle.std.proofs.Common.{◌≡◌, true, false, rules}
use Rattle.std.proofs.lemmas.Iterator.{first_from_Range}
use borrow.Author.Tests.{tests}
use Rattle.ledger.specs.Settings.{in_row}
use Rattle.settings.specs.Told.{told_settings}
use Rattle.settings.proofs.Rows.{one_found}
use Rattle.settings.proofs.first_out.Goals as goal

pub returns : goal.returns
returns c =
    let S = told_settings c.args.told in
    one_found S c.find.result
    (first_from_Range _ _ _ c.find.result (λ i. in_row S i ≡ false) (λ i. in_row S i ≡ true) c.find.ensures.ran
    (λ i q k. search (rules, tests)) (λ i q k. search (rules, tests)))
