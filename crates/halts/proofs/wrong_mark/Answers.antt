-- `halts::wrong_mark` meets its contract: a search of the ports is one of their marks. Assumes nothing.
use borrow.Author.Tests.{tests}
use mathlib.Core.Path.{◌≡◌}
use mathlib.Core.Bool.{Bool, true, false}
use Prim.Native.Nat.{ℕ}
use Rattle.std.proofs.Common.{rules}
use Rattle.std.proofs.lemmas.Iterator.{first_from_Range}
use Rattle.ledger.specs.Halt.{is_mark}
use Rattle.layout.specs.declared.Table.TheVariants.{Halted}
use Rattle.layout.specs.Tables.{get}
use Rattle.layout.specs.Shapes.{settings_of}
use Rattle.ranges.proofs.First.{first_none, find_first}
use Rattle.halts.specs.Marks.{marks_found}
use Rattle.halts.proofs.wrong_mark.Goals as goal

pub returns : goal.returns
unfolding marks_found
returns c =
    let a = c.args in
    let ok : ℕ → Bool = λ p. is_mark (get (settings_of a.s) a.m.now Halted p) in
    find_first ok 0 a.s.ports c.find.result (first_none ok)
    (first_from_Range _ _ _ c.find.result (λ p. ok p ≡ false) (λ p. ok p ≡ true) c.find.ensures.ran
    (λ p q k. search (rules, tests)) (λ p q k. search (rules, tests)))
