-- A law of a part of a memory. Assumes nothing.
use Rattle.std.proofs.Common.{◌≡◌, ℕ, ◌≤◌, List, ◌++◌, length, take, drop, sym, ap, ◌∙◌, arith, length-take}
use Rattle.std.proofs.lemmas.Grind.{common_steps}
use Rattle.std.proofs.lemmas.List.{drop-append-le, take-append-drop}

-- what is behind the first n of a part, and what is behind the part
pub rest : (n k : ℕ) (xs : List ℕ) → n ≤ k → k ≤ length xs → drop n (take k xs) ++ drop k xs ≡ drop n xs
rest n k xs h l =
    sym (drop-append-le n (take k xs) (drop k xs) (simp length-take (omega arith))) ∙ ap (drop n) (take-append-drop k xs)

pub ruleset resting = (rest, common_steps)
