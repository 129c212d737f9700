-- `maps::map_to` meets its contract: the judge decides, and where it lets the call go the entry is written. Assumes nothing.
use mathlib.Core.Path.{refl}
use native.Mathlib.Omega.{arith}
use Rattle.layout.specs.Shapes.{settings_of}
use Rattle.memory.proofs.Judged.{handed_on}
use Rattle.maps.proofs.Laws.{Maps, mapped_on}
use Rattle.maps.proofs.map_to.Goals as goal
use Rattle.maps.proofs.map_to.Goals.{In_ok-judge_map}

went : (c : In_ok-judge_map) → let a = c.args in Maps (settings_of a.s) a.m.now a.id a.port
went c = mapped_on _ _ _ _ c.in_ok-judge_map.ensures

pub returns-in_err-judge_map : goal.returns-in_err-judge_map
returns-in_err-judge_map c = handed_on _ _ _ _ _ _ c.from_residual.ensures.1 c.in_err-judge_map.ensures refl

pub overflow_cast-port : goal.overflow_cast-port
overflow_cast-port c = omega (arith, (went (goal.at.overflow_cast-port c).In_ok-judge_map).port, c.args.s.laid.roomy.few_ports)

pub set_mapped-requires : goal.set_mapped-requires
set_mapped-requires c =
    let p = c.requires in
    record { long = p.state.long; id = (went (goal.at.set_mapped-requires c).In_ok-judge_map).id }
