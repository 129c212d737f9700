-- `paid::first_due` meets its contract: a search of the cells. Assumes nothing.
use borrow.Author.Tests.{tests}
use mathlib.Core.Path.{◌≡◌, ap, ◌∙◌}
use mathlib.Core.Bool.{true, false}
use Rattle.std.proofs.Common.{rules}
use Rattle.std.proofs.lemmas.Iterator.{first_from_Range}
use Rattle.layout.specs.Shapes.{settings_of}
use Rattle.ranges.specs.First.{first}
use Rattle.ranges.proofs.First.{first_none, find_first}
use Rattle.paid.specs.Paid.{settled_at, due_found}
use Rattle.paid.proofs.first_due.Goals as goal

pub returns : goal.returns
unfolding due_found
returns c =
    let a = c.args in
    let ok = settled_at (settings_of a.s) a.m.now a.sums.now in
    find_first ok 0 a.s.cells c.find.result (first_none ok)
    (first_from_Range _ _ _ c.find.result (λ i. ok i ≡ false) (λ i. ok i ≡ true) c.find.ensures.ran
    (λ i q k. search (rules, tests)) (λ i q k. search (rules, tests)))
    ∙ ap (first ok) c.args.s.laid.cells_are
