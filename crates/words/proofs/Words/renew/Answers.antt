-- `words::Words::renew` meets its contract: the word with the bit is no larger than a ready word. Assumes nothing.
use Prim.Native.Nat.{◌<◌, ◌^◌}
use native.Mathlib.Omega.{arith}
use lib.Pow.{pow_mono}
use Rattle.ledger.specs.Ready.{is_ready, ready_word}
use Rattle.ledger.proofs.Ready.{word_lt}
use Rattle.layout.specs.Shapes.{settings_of}
use Rattle.layout.specs.Picture.{ledger_in}
use Rattle.words.proofs.Words.renew.Goals as goal
use Rattle.words.proofs.Words.renew.Goals.{Start}

-- the ready word fits the machine's
fits : (st : Start) → let a = st.args in ready_word (settings_of a.s) (ledger_in (settings_of a.s) a.m.now) a.p < 2 ^ 64
unfolding ready_word
fits st =
    let a = st.args in
    let low = word_lt (is_ready (settings_of a.s) (ledger_in (settings_of a.s) a.m.now) a.p) a.s.queues in
    let few = pow_mono {j = 64} a.s.laid.roomy.few_queues in
    omega arith

pub with_bit-requires : goal.with_bit-requires
with_bit-requires c =
    record {
      low = omega (arith, c.requires.queue, c.args.s.laid.roomy.few_queues);
      fits = rw c.is_ready.ensures (omega (arith, c.requires.ours c.in-Some.word c.in-Some.is, fits (goal.at.with_bit-requires c).Start));
    }
