-- `turns::ready_word` meets its contract: the word grows by a bit at each queue. Assumes nothing.
use mathlib.Core.Path.{◌≡◌, ◌∙◌}
use mathlib.Core.Bool.{Bool}
use Prim.Native.Nat.{ℕ, ◌-◌, ◌^◌, ◌<◌}
use native.Mathlib.Omega.{arith}
use Rattle.ledger.specs.Ready.{is_ready, ready_word}
use Rattle.ledger.proofs.Places.{bit_le}
use Rattle.layout.specs.Shapes.{settings_of}
use Rattle.layout.specs.Picture.{ledger_in}
use Rattle.turns.proofs.Laws.{word_down, word_start, word_end, word_room, bit_is}
use Rattle.turns.proofs.ready_word.Goals as goal
use Rattle.turns.proofs.ready_word.Goals.{In-loop-q, Start}

-- which queues are ready
abbrev ready : Start → ℕ → Bool
ready st = is_ready (settings_of st.args.s) (ledger_in (settings_of st.args.s) st.args.m.now) st.args.p

pub loop-q-init : goal.loop-q-init
loop-q-init c = word_start (ready (goal.at.loop-q-init c).Start) c.args.s.queues

-- there is room for one bit more
room : (c : In-loop-q) → c.loop-q.word < 2 ^ 63
room c =
    rw c.loop-q.invariant
    (word_room (ready (goal.at.In-loop-q c).Start) c.args.s.queues c.loop-q.q c.args.s.laid.roomy.few_queues c.loop-q-test.true c.loop-q.auto.q)

pub overflow_mul-word : goal.overflow_mul-word
overflow_mul-word c = omega (arith, room c)

pub overflow_add-word : goal.overflow_add-word
overflow_add-word c =
    let r = ready (goal.at.overflow_add-word c).Start (c.loop-q.q - 1) in
    omega (arith, room (goal.at.overflow_add-word c).In-loop-q, rw (c.is_ready.ensures, bit_is r) at c.from.ensures, bit_le r)

pub loop-q-preserved : goal.loop-q-preserved
loop-q-preserved c =
    let r = ready (goal.at.loop-q-preserved c).Start in
    rw (c.loop-q.invariant, c.from.ensures, c.is_ready.ensures, bit_is (r (c.loop-q.q - 1)))
    (word_down r c.args.s.queues c.loop-q.q c.loop-q-test.true c.loop-q.auto.q)

pub returns : goal.returns
unfolding ready_word
returns c =
    let z : c.loop-q.q ≡ 0 = omega arith in
    c.loop-q.invariant ∙ word_end (ready (goal.at.returns c).Start) c.args.s.queues c.loop-q.q z
