-- `arrivals::judge_arrive` meets its contract: the kind, then the rest. Assumes nothing.
use mathlib.Core.Path.{◌∙◌}
use Rattle.std.proofs.lemmas.Result.{err_from_is_err_and}
use Rattle.ledger.specs.Answers.{load_of}
use Rattle.layout.specs.Shapes.{settings_of}
use Rattle.arrivals.proofs.Laws.{bad_kind, good_kind}
use Rattle.arrivals.proofs.judge_arrive.Goals as goal

pub returns-in_err-judge_kind : goal.returns-in_err-judge_kind
returns-in_err-judge_kind c =
    let a = c.args in
    let p = err_from_is_err_and c.from_residual.result c.from_residual.ensures.1 in
    rw (p.1, p.2) (bad_kind (settings_of a.s) a.m.now a.port (load_of a.load a.h.now) _ (c.in_err-judge_kind.ensures a.h.now))

pub returns : goal.returns
returns c =
    let a = c.args in
    c.judge_at.ensures ∙ good_kind (settings_of a.s) a.m.now a.port (load_of a.load a.h.now) (c.in_ok-judge_kind.ensures a.h.now)
