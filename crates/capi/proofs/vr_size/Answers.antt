-- `capi::vr_size` meets its contract: settings in their rows have a shape. Assumes nothing.
use mathlib.Core.Path.{sym}
use Rattle.ledger.proofs.Rows.{roomy}
use Rattle.capi.proofs.vr_size.Goals as goal

pub shape_of-requires-then-in_rows : goal.shape_of-requires-then-in_rows
shape_of-requires-then-in_rows c = roomy _ (sym c.if-in_rows.ensures)
