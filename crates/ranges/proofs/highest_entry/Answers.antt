-- `ranges::highest_entry` meets its contract. The loop's invariant: the highest so far is that of the entries passed. Assumes nothing.
use mathlib.Core.Path.{ap, ◌∙◌}
use Prim.Native.Nat.{max}
use Rattle.ranges.proofs.Highest.{highest_none, highest_next}
use Rattle.ranges.proofs.highest_entry.Goals as goal

pub loop-i-init : goal.loop-i-init
loop-i-init c = highest_none _

pub loop-i-preserved : goal.loop-i-preserved
loop-i-preserved c = c.max-top.ensures ∙ ap (max c.loop-i.top) c.get.ensures ∙ highest_next _ _ _ c.loop-i.invariant
