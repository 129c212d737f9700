-- `whole::next_filled` meets its contract: a search of the counts. Assumes nothing.
use borrow.Author.Tests.{tests}
use mathlib.Core.Path.{◌≡◌}
use Prim.Native.Nat.{ℕ, ◌+◌, ◌*◌, ◌≤◌}
use Rattle.std.proofs.Common.{rules}
use Rattle.std.proofs.lemmas.Iterator.{first_from_Range}
use Rattle.numbers.specs.Bytes.{number}
use Rattle.whole.proofs.next_filled.Goals as goal

pub returns : goal.returns
returns c =
    let n = λ (k : ℕ). number 4 c.args.m.now (c.args.counts + k * 4) in
    first_from_Range _ _ _ c.find.result (λ k. 1 ≤ n k) (λ k. n k ≡ 0) c.find.ensures.ran
    (λ k q h. search (rules, tests)) (λ k q h. search (rules, tests))
