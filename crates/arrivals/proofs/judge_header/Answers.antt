-- `arrivals::judge_header` meets its contract: the form is the switch's. Assumes nothing.
use mathlib.Core.Path.{ap, ◌∙◌}
use Rattle.ledger.specs.Header.{Form}
use Rattle.ledger.specs.Answers.{load_of}
use Rattle.header.specs.Judge.{verdict}
use Rattle.arrivals.proofs.judge_header.Goals as goal

pub returns : goal.returns
returns c =
    let a = c.args in
    c.judge.ensures ∙ ap (λ (F : Form). verdict F a.s.queues a.port (load_of a.load a.h.now)) c.form_of-form.ensures.form_is
