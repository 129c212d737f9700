-- What the reads and the writes ask. Assumes nothing.
use Rattle.std.specs.Prelude.{◌≡◌, List, ℕ, ◌≤◌, ◌<◌, length}
use Rattle.ledger.specs.Settings.{size}
use Rattle.layout.specs.declared.shape.Shape.{Shape}
use Rattle.layout.specs.declared.Table.{Table}
use Rattle.layout.specs.Tables.{width, many}
use Rattle.layout.specs.Shapes.{settings_of}

-- element i of table t, whose elements have k bytes, lies in the memory m of a state of shape s
pub record Reads (k : ℕ) (s : Shape) (t : Table) (i : ℕ) (m : List ℕ) : Type 0 where
  pub long : size (settings_of s) ≤ length m
  pub wide : width t ≡ k
  pub inside : i < many (settings_of s) t
