-- `tasks::prefetch` meets its contract: refused, or done and the bit made again. Assumes nothing.
use mathlib.Core.Path.{sym, ◌∙◌}
use Rattle.ledger.specs.Calls as calls
use Rattle.ledger.specs.Calls.{prefetch}
use Rattle.tasks.proofs.Laws.{prefetch_stale, done_not, done_renewed}
use Rattle.tasks.proofs.prefetch.Goals as goal
use Rattle.tasks.proofs.prefetch.Goals.{then-is_ok, else-is_ok}

pub renew-requires : goal.renew-requires
renew-requires c =
    let a = c.args in
    prefetch_stale a.s a.m.now a.words.now c.requires a.port a.queue c.prefetch-answer.result _
    (sym c.is_ok.ensures.value ∙ c.if-is_ok.true) c.prefetch-answer.ensures

pub returns : goal.returns
returns c =
    let a = c.args in
    elim c.if-is_ok.branch [
      | then-is_ok w ↦
          rw w.words-is (done_renewed a.s a.m.now c.requires.works (prefetch a.port a.queue) _ c.prefetch-answer.ensures c.of_entry.ensures w.renew.ensures)
      | else-is_ok w ↦
          rw w.words-is (done_not a.s a.m.now a.words.now c.requires (λ x. calls.entry x.0) (prefetch a.port a.queue) c.prefetch-answer.result
          (sym c.is_ok.ensures.value ∙ w.if-is_ok.false) c.prefetch-answer.ensures c.of_entry.ensures)
    ]
