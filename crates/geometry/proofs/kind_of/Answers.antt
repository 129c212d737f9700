-- `geometry::kind_of` meets its contract: the last return is a law of the place there. Assumes nothing.
use Rattle.geometry.proofs.Places.{prefetch_kind}
use Rattle.geometry.proofs.kind_of.Goals as goal

pub returns : goal.returns
returns c = prefetch_kind _ _ c.args.s.laid.row_is c.if-column-eq0.false c.if-column-eq1.false c.if-k-s.false
