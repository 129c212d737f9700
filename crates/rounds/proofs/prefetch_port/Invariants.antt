-- What the loop of `rounds::prefetch_port` keeps.
use mathlib.Core.List.{List, [], ◌∷◌}
use Prim.Native.Nat.{ℕ}
use Rattle.ledger.specs.Calls.{Act, prefetch}
use Rattle.rounds.proofs.Rounds.{Passed}
use Rattle.rounds.proofs.prefetch_port.Given as goal

abbrev one : ℕ → ℕ → List Act
one p q = prefetch p q ∷ []

abbrev pub invariant-loop-q : goal.invariant-loop-q
invariant-loop-q l = Passed l.s (one l.p) l.initial.m l.s.queues l.q l.m
