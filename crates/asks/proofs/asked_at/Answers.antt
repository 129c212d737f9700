-- `asks::asked_at` meets its contract: a whole field lies in the bytes. Assumes nothing.
use mathlib.Core.Path.{sym}
use Rattle.fields.proofs.Fields.{whole_inside}
use Rattle.asks.proofs.asked_at.Goals as goal

pub whole-requires : goal.whole-requires
whole-requires c =
    let i = whole_inside _ _ _ _ _ _ (sym c.in-Whole.ensures) in
    record { ends = i.ends; within = i.within; small = c.requires }

pub returns-in-Whole-clause-within : goal.returns-in-Whole-clause-within
returns-in-Whole-clause-within c =
    c.whole.ensures.within c.args.at (whole_inside _ _ _ _ _ _ (sym c.in-Whole.ensures)).starts
