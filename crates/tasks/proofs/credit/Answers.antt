-- `tasks::credit` meets its contract: refused, or done and the bit made again. Assumes nothing.
use mathlib.Core.Path.{sym, ◌∙◌}
use Rattle.ledger.specs.Calls as calls
use Rattle.ledger.specs.Calls.{credit}
use Rattle.tasks.proofs.Laws.{credit_stale, done_not, done_renewed}
use Rattle.tasks.proofs.credit.Goals as goal
use Rattle.tasks.proofs.credit.Goals.{then-is_ok, else-is_ok}

pub renew-requires : goal.renew-requires
renew-requires c =
    let a = c.args in
    credit_stale a.s a.m.now a.words.now c.requires a.port a.queue a.amount c.credit-answer.result _
    (sym c.is_ok.ensures.value ∙ c.if-is_ok.true) c.credit-answer.ensures

pub returns : goal.returns
returns c =
    let a = c.args in
    elim c.if-is_ok.branch [
      | then-is_ok w ↦
          rw w.words-is (done_renewed a.s a.m.now c.requires.works (credit a.port a.queue a.amount) _
          c.credit-answer.ensures c.of_plain.ensures w.renew.ensures)
      | else-is_ok w ↦
          rw w.words-is (done_not a.s a.m.now a.words.now c.requires (λ u. calls.done) (credit a.port a.queue a.amount) c.credit-answer.result
          (sym c.is_ok.ensures.value ∙ w.if-is_ok.false) c.credit-answer.ensures c.of_plain.ensures)
    ]
