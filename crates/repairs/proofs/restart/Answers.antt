-- `repairs::restart` meets its contract. Assumes nothing.
use Rattle.repairs.proofs.Keeping.{put_back_repairs}
use Rattle.repairs.proofs.restart.Goals as goal

pub returns : goal.returns
returns c =
    rw (c.put_back.ensures, c.put_state.ensures) (put_back_repairs c.keep.ensures)
