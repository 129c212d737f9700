-- What the numbers of lists and cells are asked of. Assumes nothing.
use Rattle.std.specs.Prelude.{ℕ, ◌<◌}
use Rattle.ledger.specs.Settings.{bucket_count, row}
use Rattle.layout.specs.declared.shape.Shape.{Shape}
use Rattle.layout.specs.Tables.{lists}
use Rattle.layout.specs.Shapes.{settings_of}

-- a port
pub record OfPort (s : Shape) (p : ℕ) : Type 0 where
  pub port : p < s.ports

-- a column of its row of lists
pub record InRow (s : Shape) (p c : ℕ) : Type 0 where
  pub port : p < s.ports
  pub column : c < row (settings_of s)

-- a queue of it
pub record OfQueue (s : Shape) (p q : ℕ) : Type 0 where
  pub port : p < s.ports
  pub queue : q < s.queues

-- and one that has credit
pub record HasCell (s : Shape) (p q : ℕ) : Type 0 where
  pub port : p < s.ports
  pub queue : q < s.queues
  pub paid : 0 < q

-- a bucket of it
pub record HasBucket (s : Shape) (p b : ℕ) : Type 0 where
  pub port : p < s.ports
  pub bucket : b < bucket_count

-- the number of a list
pub record InLists (s : Shape) (l : ℕ) : Type 0 where
  pub inside : l < lists (settings_of s)
