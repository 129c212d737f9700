-- `sound::whole_with` meets its contract: the part that is lent is as long as it has to be, and 0. Assumes nothing.
use Rattle.sound.proofs.Lent.{all_lent}
use Rattle.sound.proofs.whole_with.Goals as goal

pub whole-requires : goal.whole-requires
whole-requires g c = let p = c.requires in all_lent p.0 g.row.SUMS p.1
