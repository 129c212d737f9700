-- `arrivals::arrive` meets its contract: the judge decides; the packet that it accepts is taken in, else the port is halted if that is due.
-- Assumes nothing.
use mathlib.Core.Path.{sym}
use Rattle.ledger.specs.Answers.{sent_of, load_of}
use Rattle.layout.specs.Shapes.{settings_of}
use Rattle.arrivals.proofs.Laws.{turned_away, Arrives, arrives}
use Rattle.arrivals.proofs.arrive.Goals as goal
use Rattle.arrivals.proofs.arrive.Goals.{In-Ok}

went : (c : In-Ok) → let a = c.args in
    Arrives a.s a.m.now a.port (load_of a.load a.h.now) (sent_of c.in-Ok.k)
went c =
    let a = c.args in
    arrives a.s a.m.now c.requires a.port (load_of a.load a.h.now) (sent_of c.in-Ok.k) c.in-Ok.ensures

pub take_in-requires : goal.take_in-requires
take_in-requires c = (went (goal.at.take_in-requires c).In-Ok).take

pub returns-in-Err : goal.returns-in-Err
returns-in-Err c =
    let a = c.args in
    rw c.halt.ensures (sym (turned_away (settings_of a.s) a.m.now a.port (load_of a.load a.h.now) _ c.in-Err.ensures))

pub returns-in-Ok : goal.returns-in-Ok
returns-in-Ok c = rw c.take_in.ensures (sym (went (goal.at.returns-in-Ok c).In-Ok).outcome)
