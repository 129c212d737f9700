-- `turns::next_queue` meets its contract: the word is the port's, and the queue that it gives is ready. Assumes nothing.
use mathlib.Core.Path.{◌≡◌, ap₂, ◌∙◌}
use native.Mathlib.Omega.{arith}
use Rattle.ledger.specs.Ledger.{last_of, last}
use Rattle.ledger.specs.Ready.{ready_word, pick}
use Rattle.layout.specs.Shapes.{settings_of}
use Rattle.layout.specs.Picture.{ledger_in}
use Rattle.turns.proofs.Laws as laws
use Rattle.turns.proofs.next_queue.Goals as goal

-- the last served queue is one of the switch's
pub pick-requires : goal.pick-requires
pick-requires c =
    let low = c.requires.works.state.sound.orderly.ranges.numbers_in last c.args.p c.requires.port in
    omega (arith, c.last.ensures, c.args.s.laid.roomy.few_queues)

pub returns : goal.returns
returns c =
    let a = c.args in
    let S = settings_of a.s in
    let m = a.m.now in
    let is : c.pick.result ≡ pick (last_of (ledger_in S m) a.p) (ready_word S (ledger_in S m) a.p) =
    c.pick.ensures ∙ ap₂ pick c.last.ensures c.requires.word_is in
    let some : ready_word S (ledger_in S m) a.p ≡ 0 → ⊥ = λ z. c.requires.some (c.requires.word_is ∙ z) in
    let hp = c.requires.port in
    let t = c.requires.works.state in
    record {
      next = is;
      can = record {
        works = c.requires.works;
        port = hp;
        queue = rw is (laws.q_in S m a.p hp t some);
        some = rw is (let n = laws.q_some S m a.p hp t some in omega (arith, n));
        covered = rw is (laws.k_covered S m a.p hp t some);
      };
    }
