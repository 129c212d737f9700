-- What the loop of `fills::put_each` keeps: the places passed are filled.
use Rattle.std.proofs.Common.{◌≡◌, ℕ}
use Rattle.layout.specs.Shapes.{settings_of}
use Rattle.memory.specs.Image.{fill}
use Rattle.fills.specs.Fills.{Gives}
use Rattle.fills.proofs.put_each.Given as goal

abbrev pub invariant-loop-i : goal.invariant-loop-i
invariant-loop-i g l =
    (at by : ℕ → ℕ) → Gives (λ r. r) (goal.P-post g l.place) l.n at → Gives g.N.Number.value (goal.V-post g l.value) l.n by
    → l.m ≡ fill (settings_of l.s) l.t at by l.i l.initial.m
