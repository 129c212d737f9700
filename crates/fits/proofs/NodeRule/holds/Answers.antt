-- `fits::NodeRule::holds` meets its contract: what `own_queue` says of any settings of so many queues, it says of the shape's. Assumes nothing.
use mathlib.Core.Path.{refl}
use Rattle.layout.specs.Shapes.{settings_of}
use Rattle.layout.specs.Picture.{packet_at}
use Rattle.fits.specs.Fits.{rule_test}
use Rattle.fits.proofs.NodeRule.holds.Goals as goal

pub returns-in-OwnQueue : goal.returns-in-OwnQueue
unfolding rule_test packet_at
returns-in-OwnQueue c =
    rw (c.in-OwnQueue.is, ← c.slot_of.ensures, ← c.get-queue.ensures, ← c.from-in-OwnQueue.ensures) (c.own_queue.ensures (settings_of c.args.s) refl)
