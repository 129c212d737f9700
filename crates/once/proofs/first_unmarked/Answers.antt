-- `once::first_unmarked` meets its contract: a search of the elements' marks. Assumes nothing.
use borrow.Author.Tests.{tests}
use mathlib.Core.Path.{◌≡◌, sym, ◌∙◌}
use Prim.Native.Nat.{ℕ, ◌≤◌, ◌<◌}
use native.Mathlib.Omega.{arith}
use Rattle.std.specs.Prelude.{MatchOption}
use Rattle.std.proofs.Common.{rules}
use Rattle.std.proofs.lemmas.Iterator.{first_from_Range}
use Rattle.layout.proofs.Shapes.{few}
use Rattle.once.specs.Bits.{mark_at}
use Rattle.once.proofs.Walk.{search_none, search_some}
use Rattle.once.proofs.first_unmarked.Goals as goal
use Rattle.once.proofs.first_unmarked.Goals.{After-find}

-- the first clear mark, if there is one
found : (c : After-find)
    → let mark = mark_at c.args.marks.now in
    MatchOption c.find.result ((k : ℕ) → 0 ≤ k → k < c.args.s.all → 1 ≤ mark k)
    (λ i. (0 ≤ i) × (i < c.args.s.all) × (mark i ≡ 0) × ((k : ℕ) → 0 ≤ k → k < i → 1 ≤ mark k))
found c =
    let mark = mark_at c.args.marks.now in
    first_from_Range _ _ _ c.find.result (λ k. mark k ≡ 0) (λ k. 1 ≤ mark k) c.find.ensures.ran
    (λ k q h. search (rules, tests)) (λ k q h. search (rules, tests))

pub returns-in_err-i : goal.returns-in_err-i
returns-in_err-i c =
    let none = rw c.in_err-i.was at (found (goal.at.returns-in_err-i c).After-find) in
    c.from_residual.ensures ∙ sym (search_none _ _ _ (rw c.args.s.laid.all_are at none))

pub overflow_add-result : goal.overflow_add-result
overflow_add-result c =
    let some = rw c.in_ok-i.was at (found (goal.at.overflow_add-result c).After-find) in
    omega (arith, some.1, few _ c.args.s.laid.roomy)

pub returns : goal.returns
returns c =
    let some = rw c.in_ok-i.was at (found (goal.at.returns c).After-find) in
    let laid = c.args.s.laid in
    rw laid.lists_are (sym (search_some _ _ _ _ (rw laid.all_are at some.1) some.2 some.3))
