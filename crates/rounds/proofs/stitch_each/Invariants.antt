-- What the loop of `rounds::stitch_each` keeps.
use mathlib.Core.List.{List, [], ◌∷◌}
use Prim.Native.Nat.{ℕ}
use Rattle.ledger.specs.Calls.{Act, stitch}
use Rattle.rounds.proofs.Rounds.{Passed}
use Rattle.rounds.proofs.stitch_each.Given as goal

abbrev one : ℕ → List Act
one p = stitch p ∷ []

abbrev pub invariant-loop-p : goal.invariant-loop-p
invariant-loop-p l = Passed l.s one l.initial.m l.s.ports l.p l.m
