-- The code's shape. Assumes nothing.
use Rattle.ledger.specs.Settings.{Settings}
use Rattle.layout.specs.declared.shape.Shape.{Shape}
use Rattle.layout.specs.Held.{settings_by, Lays}

-- the settings that a shape was made from
abbrev pub settings_of : Shape → Settings
settings_of s = settings_by s.ports s.queues s.nodes s.beat s.slots s.credit s.edition s.packets

-- a shape holds what its settings say, and they are a switch's
abbrev pub Laid : Shape → Type 0
Laid s = Lays (settings_of s) s.row s.cells s.lists s.all s.arrival s.head s.next s.least s.dests
