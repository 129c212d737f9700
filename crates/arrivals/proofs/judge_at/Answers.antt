-- `arrivals::judge_at` meets its contract: the port, then the header's own verdict, then what its fields ask. Assumes nothing.
use mathlib.Core.Path.{◌∙◌}
use Rattle.std.proofs.lemmas.Result.{err_from_is_err_and}
use Rattle.ledger.specs.Header.{form}
use Rattle.ledger.specs.Answers.{load_of}
use Rattle.header.specs.Parse.{header_of}
use Rattle.layout.specs.Shapes.{settings_of}
use Rattle.arrivals.proofs.Laws as laws
use Rattle.arrivals.proofs.judge_at.Goals as goal

pub returns-then-s-p : goal.returns-then-s-p
returns-then-s-p c =
    let a = c.args in
    laws.no_port_lem (settings_of a.s) a.m.now a.port (load_of a.load a.h.now) c.if-s-p.true

pub returns-in_err-f : goal.returns-in_err-f
returns-in_err-f c =
    let a = c.args in
    let p = err_from_is_err_and c.from_residual.result c.from_residual.ensures.1 in
    rw (p.1, p.2) (laws.bad_header (settings_of a.s) a.m.now a.port (load_of a.load a.h.now) c.if-s-p.false _ c.in_err-f.ensures)

-- the header has no fault of its own
pub admit-requires : goal.admit-requires
admit-requires c =
    let a = c.args in
    let F = form (settings_of a.s) in
    let h = load_of a.load a.h.now in
    record {
      priced = record { len = laws.len_in F a.s.queues a.port h _ c.in_ok-f.ensures };
      long = c.requires.state.long;
      port = c.if-s-p.false;
      queue = laws.known_queue F a.s.queues a.port h _ c.in_ok-f.ensures;
    }

pub returns : goal.returns
returns c =
    let a = c.args in
    c.admit.ensures
    ∙ laws.good_header (settings_of a.s) a.m.now a.port (load_of a.load a.h.now) c.if-s-p.false (header_of c.in_ok-f.f) c.in_ok-f.ensures
