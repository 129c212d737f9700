-- What a run answers. Assumes nothing.
use Rattle.std.specs.Prelude.{ℕ, Result, Ok, Err}
use Rattle.ledger.specs.Answers.{number_of}
use Rattle.ledger.specs.declared.Refusal.{Refusal}
use Rattle.memory.specs.Runs.{the_end, bad_field, no_room, Report, refused_run, did}
use Rattle.asks.specs.declared.Asked.{Asked}
use Rattle.asks.specs.declared.Asked.TheVariants.{Call, Bad, End}
use Rattle.runs.specs.declared.Ran.{Ran}
use Rattle.runs.specs.declared.Why.{Why}
use Rattle.runs.specs.declared.Why.TheVariants.{Ended, BadField, NoRoom}

-- the number of each reason to stop
abbrev pub why_of : Why → ℕ
why_of Ended = the_end
why_of BadField = bad_field
why_of NoRoom = no_room

-- what an outcome reports
abbrev pub report_in : Result Ran Refusal → Report
report_in (Ok r) = did r.count (why_of r.why)
report_in (Err r) = refused_run (number_of r)

-- why a run stops at what is asked: at a call it has no room for the answer
abbrev pub stop_of : Asked → Why
stop_of (Call task next) = NoRoom
stop_of Bad = BadField
stop_of End = Ended
