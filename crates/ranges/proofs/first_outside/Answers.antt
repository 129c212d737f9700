-- `ranges::first_outside` meets its contract: a search of the items from `from` on is one of all. Assumes nothing.
use borrow.Author.Tests.{tests}
use mathlib.Core.Path.{◌≡◌}
use mathlib.Core.Bool.{true, false}
use Rattle.std.proofs.Common.{rules}
use Rattle.std.proofs.lemmas.Iterator.{first_from_Range}
use Rattle.layout.specs.Shapes.{settings_of}
use Rattle.ranges.specs.Ranges.{fits_at}
use Rattle.ranges.proofs.First.{find_first}
use Rattle.ranges.proofs.first_outside.Goals as goal

pub returns : goal.returns
returns c =
    let a = c.args in
    let ok = fits_at (settings_of a.s) a.m.now in
    find_first ok a.from a.n c.find.result c.requires.before
    (first_from_Range _ _ _ c.find.result (λ x. ok x ≡ false) (λ x. ok x ≡ true) c.find.ensures.ran
    (λ x q k. search (rules, tests)) (λ x q k. search (rules, tests)))
