-- What the loop of `turns::ready_word` keeps: the word so far has a bit for each queue from q on.
use mathlib.Core.Path.{◌≡◌}
use Prim.Native.Nat.{◌+◌, ◌-◌}
use Rattle.ledger.specs.Ready.{is_ready, word_of}
use Rattle.layout.specs.Shapes.{settings_of}
use Rattle.layout.specs.Picture.{ledger_in}
use Rattle.turns.proofs.ready_word.Given as goal

abbrev pub invariant-loop-q : goal.invariant-loop-q
invariant-loop-q l =
    l.word ≡ word_of (λ i. is_ready (settings_of l.s) (ledger_in (settings_of l.s) l.m) l.p (l.q + i)) (l.s.queues - l.q)
