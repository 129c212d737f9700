-- `nodes::queue_fits` meets its contract: the list's queue is that of the settings. Assumes nothing.
use mathlib.Core.Path.{refl, ap, ◌∙◌}
use Prim.Native.Nat.{ℕ}
use lib.Dec.{eqb}
use Rattle.ledger.proofs.Tests.{ltb_not}
use Rattle.layout.specs.Shapes.{settings_of}
use Rattle.fits.specs.Fits.{queue_at}
use Rattle.nodes.proofs.queue_fits.Goals as goal

pub returns-else-column-lt2 : goal.returns-else-column-lt2
returns-else-column-lt2 c =
    let S = settings_of c.args.s in
    rw (ltb_not c.args.column 2 c.if-column-lt2.false) (c.own_queue.ensures S refl ∙ ap (λ (q : ℕ). eqb q (queue_at S c.args.column)) c.from.ensures)
