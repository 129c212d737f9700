-- What reading and writing the parts of a state that are no lists asks. Assumes nothing.
use Rattle.std.specs.Prelude.{◌≡◌, List, ℕ, ◌≤◌, ◌<◌, length}
use Rattle.ledger.specs.Settings.{size, ids, bucket_count}
use Rattle.layout.specs.declared.shape.Shape.{Shape}
use Rattle.layout.specs.declared.Table.{Table}
use Rattle.layout.specs.Tables.{width, cells, many}
use Rattle.layout.specs.Shapes.{settings_of}

-- the credit of port p and queue q, in the memory m of a state of shape s
pub record InCell (s : Shape) (p q : ℕ) (m : List ℕ) : Type 0 where
  pub long : size (settings_of s) ≤ length m
  pub port : p < s.ports
  pub queue : q < s.queues

-- and in table t of credits
pub record InCredits (s : Shape) (t : Table) (p q : ℕ) (m : List ℕ) : Type 0 where
  pub cell : InCell s p q m
  pub wide : width t ≡ 2
  pub each : many (settings_of s) t ≡ cells (settings_of s)

-- what port p has one of: the queue last served, the mark
pub record InPorts (s : Shape) (p : ℕ) (m : List ℕ) : Type 0 where
  pub long : size (settings_of s) ≤ length m
  pub port : p < s.ports

-- the map's entry for destination id d
pub record InMap (s : Shape) (d : ℕ) (m : List ℕ) : Type 0 where
  pub long : size (settings_of s) ≤ length m
  pub id : d < ids

-- bucket b of port p
pub record InBuckets (s : Shape) (p b : ℕ) (m : List ℕ) : Type 0 where
  pub long : size (settings_of s) ≤ length m
  pub port : p < s.ports
  pub bucket : b < bucket_count
