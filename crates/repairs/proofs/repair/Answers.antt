-- `repairs::repair` meets its contract: each answer by the law of its case. Assumes nothing.
use mathlib.Core.Path.{sym, ◌∙◌}
use Rattle.ranges.specs.Opening.{Open}
use Rattle.ranges.proofs.Opening.{opened_fine}
use Rattle.repairs.proofs.Answers.{of_wrong, open_room, of_fine}
use Rattle.repairs.proofs.repair.Goals as goal
use Rattle.repairs.proofs.repair.Goals.{In-Ok}

-- the memory is opened with the shape that the match found
fine : (c : In-Ok) → Open c.args.m.now c.in-Ok.s
fine c = opened_fine _ _ (sym c.open.ensures ∙ c.in-Ok.is)

pub restart-requires : goal.restart-requires
restart-requires c = open_room (fine (goal.at.restart-requires c).In-Ok)

pub returns-in-Err : goal.returns-in-Err
returns-in-Err c = of_wrong (sym c.open.ensures ∙ c.in-Err.is)

pub returns-in-Ok : goal.returns-in-Ok
returns-in-Ok c =
    rw c.restart.ensures (of_fine (fine (goal.at.returns-in-Ok c).In-Ok))
