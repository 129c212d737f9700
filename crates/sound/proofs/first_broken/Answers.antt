-- `sound::first_broken` meets its contract: rule (a) before all others. Assumes nothing.
use mathlib.Core.Path.{sym, ◌∙◌}
use Rattle.ranges.proofs.Opening.{opened_fine}
use Rattle.sound.proofs.first_broken.Goals as goal

pub open_broken-requires : goal.open_broken-requires
open_broken-requires c = opened_fine _ _ (sym c.open.ensures ∙ c.in-Ok.is)
