-- What reading and writing records asks. Assumes nothing.
use Rattle.std.specs.Prelude.{◌≡◌, true, List, ℕ, ◌≤◌, length}
use Rattle.ledger.specs.Settings.{size}
use Rattle.ledger.specs.Ledger.{is_node}
use Rattle.layout.specs.declared.shape.Shape.{Shape}
use Rattle.layout.specs.Shapes.{settings_of}

-- the record of node x
pub record InRecords (s : Shape) (x : ℕ) (m : List ℕ) : Type 0 where
  pub long : size (settings_of s) ≤ length m
  pub node : is_node (settings_of s) x ≡ true
