-- The map's entries in lent room, while a new state is written. Assumes nothing.
use Rattle.std.specs.Prelude.{◌≡◌, List, ℕ, ◌<◌, length, get_or}
use Rattle.ledger.specs.Settings.{ids}
use Rattle.ledger.specs.Repair.{mended}
use Rattle.layout.specs.declared.shape.Shape.{Shape}
use Rattle.layout.specs.declared.Table.TheVariants.{Mapped}
use Rattle.layout.specs.Tables.{get}
use Rattle.layout.specs.Shapes.{settings_of}
use Rattle.fills.specs.Fills.{Room}

-- memory for a state of shape s, and room for its map
pub record Lent (s : Shape) (m map : List ℕ) : Type 0 where
  pub room : Room s m
  pub long : length map ≡ ids

-- each entry of the room is that of the memory, mended
pub record Mends (s : Shape) (m map : List ℕ) : Type 0 where
  pub entry : (i : ℕ) → i < ids → get_or map i 0 ≡ mended (settings_of s) (get (settings_of s) m Mapped i)
