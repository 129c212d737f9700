-- `shows::show` meets its contract: what is shown lies within the memory that is named. Assumes nothing.
use Rattle.std.proofs.Common.{rules}
use Rattle.shows.proofs.Laws.{shown_within}
use Rattle.shows.proofs.show.Goals as goal

pub part-requires : goal.part-requires
part-requires c =
    rw (c.slot_of.ensures, c.from.ensures)
    (shown_within c.args.s c.args.m.now c.requires c.args.memories (search rules) c.args.port c.args.queue _ _ _ (rw c.sizes.ensures at c.in-Ok.ensures))
