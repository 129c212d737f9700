-- `fills::put_state` meets its contract: what is written over cleared bytes is a new state. Assumes nothing.
use Rattle.layout.specs.Shapes.{settings_of}
use Rattle.fills.proofs.Fills.{written_over}
use Rattle.fills.proofs.put_state.Goals as goal

pub returns : goal.returns
returns c =
    rw (c.put_free_lists.ensures, c.put_columns.ensures, c.clear.ensures, c.size_of.ensures)
    (written_over (settings_of c.args.s) c.args.m.now)
