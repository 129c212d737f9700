-- `header::judge` meets its contract: what is asked of the bytes, then the source, then what is asked of the fields. Assumes nothing.
use mathlib.Core.Path.{◌≡◌, sym, ap, ◌∙◌}
use Rattle.std.proofs.lemmas.Result.{err_from_is_err_and}
use Rattle.ledger.specs.Header.{Fields, fields_of, bytes_in, miscounted}
use Rattle.ledger.specs.Answers.{number_of, load_of}
use Rattle.forms.specs.Formed.{form_in}
use Rattle.header.specs.Parse.{header_of}
use Rattle.header.specs.Judge.{byte_rules}
use Rattle.header.proofs.Reading.{other_is, bytes_are}
use Rattle.header.proofs.Verdicts.{first_good, of_opened, of_settled}
use Rattle.header.proofs.judge.Goals as goal
use Rattle.header.proofs.judge.Goals.{After-miscounted-off}

pub returns-in_err-f : goal.returns-in_err-f
returns-in_err-f c =
    let a = c.args in
    let p = err_from_is_err_and c.from_residual.result c.from_residual.ensures.1 in
    rw (p.1, p.2) (of_opened (form_in a.form) a.queues a.port (load_of a.load a.h.now) (number_of c.in_err-f.field-0.0) c.in_err-f.ensures)

counted : (c : After-miscounted-off) → let a = c.args in c.miscounted-off.result ≡ miscounted (form_in a.form) (load_of a.load a.h.now)
counted c =
    let a = c.args in
    let F = form_in a.form in
    let h = load_of a.load a.h.now in
    let is = (first_good (byte_rules F h) (fields_of F (bytes_in h)) (header_of c.in_ok-f.f) c.in_ok-f.ensures).0 in
    let len : c.from-2.result ≡ (fields_of F a.h.now).len = c.from-2.ensures ∙ ap (λ (g : Fields). g.len) (rw bytes_are at is) in
    rw (c.miscounted-off.ensures, len, other_is)

pub returns : goal.returns
returns c =
    let a = c.args in
    c.settle.ensures
    ∙ of_settled (form_in a.form) a.queues a.port (load_of a.load a.h.now) (header_of c.in_ok-f.f) c.in_ok-f.ensures c.miscounted-off.result
    (counted (goal.at.returns c).After-miscounted-off) (sym c.from.ensures ∙ c.if-from-port.false)
