-- What the loop of `rounds::prefetch_each` keeps.
use mathlib.Core.List.{List, [], ◌∷◌}
use Prim.Native.Nat.{ℕ}
use Rattle.ledger.specs.Calls.{Act, prefetch}
use Rattle.ledger.specs.Rounds.{each}
use Rattle.rounds.proofs.Rounds.{Passed}
use Rattle.rounds.proofs.prefetch_each.Given as goal

abbrev all : ℕ → ℕ → List Act
all queues p = each (λ q. prefetch p q ∷ []) queues

abbrev pub invariant-loop-p : goal.invariant-loop-p
invariant-loop-p l = Passed l.s (all l.s.queues) l.initial.m l.s.ports l.p l.m
