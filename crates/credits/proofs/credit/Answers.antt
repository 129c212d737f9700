-- `credits::credit` meets its contract: the judge decides, and where it lets the call go the sum is written. Assumes nothing.
use mathlib.Core.Path.{refl}
use native.Mathlib.Omega.{arith}
use Rattle.layout.specs.Shapes.{settings_of}
use Rattle.memory.proofs.Judged.{handed_on}
use Rattle.parts.specs.Parts.{InCell}
use Rattle.credits.proofs.Laws.{Goes, gone_on}
use Rattle.credits.proofs.credit.Goals as goal
use Rattle.credits.proofs.credit.Goals.{In_ok-judge_credit}

went : (c : In_ok-judge_credit) → let a = c.args in Goes (settings_of a.s) a.m.now a.port a.queue a.amount
went c = gone_on _ _ _ _ _ c.in_ok-judge_credit.ensures

-- so it has a cell
in_cell : (c : In_ok-judge_credit) → let a = c.args in InCell a.s a.port a.queue a.m.now
in_cell c =
    let p = c.requires in
    record { long = p.state.long; port = (went c).port; queue = (went c).queue }

pub returns-in_err-judge_credit : goal.returns-in_err-judge_credit
returns-in_err-judge_credit c = handed_on _ _ _ _ _ _ c.from_residual.ensures.1 c.in_err-judge_credit.ensures refl

pub outward-held-requires : goal.outward-held-requires
outward-held-requires c = in_cell c

pub overflow_cast-amount : goal.overflow_cast-amount
overflow_cast-amount c = omega (arith, (went (goal.at.overflow_cast-amount c).In_ok-judge_credit).sum_in)

pub overflow_add-held : goal.overflow_add-held
overflow_add-held c = omega (arith, (went (goal.at.overflow_add-held c).In_ok-judge_credit).sum_in, c.outward-held.ensures)

pub set_outward-requires : goal.set_outward-requires
set_outward-requires c = in_cell (goal.at.set_outward-requires c).In_ok-judge_credit
