-- What the line for a call says of its reply. Assumes nothing.
use Rattle.std.specs.Prelude.{List, ℕ}
use Rattle.numbers.specs.Bytes.{number}
use Rattle.ledger.specs.Calls.{Reply, refused, entry, stitched, idle, leaves}
use Rattle.orders.specs.declared.Said.{Said}
use Rattle.orders.specs.declared.Said.TheVariants.{Done, Node, Idle, No}

-- what a line says of a reply. A stitch's record begins with the entry id; no order asks for a word or for where a node is
abbrev pub said_of : Reply → Said
said_of (refused n) = No n
said_of (entry x) = Node x
said_of (stitched b) = Node (number 2 b 0)
said_of idle = Idle
said_of (leaves k s) = Node k.node
said_of _ = Done

-- the line and the memory after a call
abbrev pub carried : Reply × List ℕ → Said × List ℕ
carried out = (said_of out.0, out.1)
