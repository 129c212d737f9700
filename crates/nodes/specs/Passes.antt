-- What the test of a node asks and gives. Assumes nothing.
use Rattle.std.specs.Prelude.{◌≡◌, Bool, true, ◌&&◌, List, ℕ, ◌^◌, ◌≤◌, length}
use Rattle.ledger.specs.Settings.{Settings, size}
use Rattle.ledger.specs.Ledger.{is_node}
use Rattle.layout.specs.declared.shape.Shape.{Shape}
use Rattle.layout.specs.Shapes.{settings_of}
use Rattle.layout.specs.Picture.{slot}
use Rattle.once.specs.Once.{is_new, mark}
use Rattle.once.specs.Walks.{Marks}
use Rattle.paid.specs.Paid.{add_node}
use Rattle.paid.specs.Passes.{Sums}
use Rattle.nodes.specs.Nodes.{fits_here, packet_fits, add_here}

-- ---- what is lent: a mark for each node, and a sum for each cell, of b at most

pub record Lent (s : Shape) (m bs sums : List ℕ) (b : ℕ) : Type 0 where
  pub marks : Marks s bs
  pub long : size (settings_of s) ≤ length m
  pub held : Sums (settings_of s) sums b

-- to node x, which has element i of the tables of nodes
pub record NodeLent (s : Shape) (m bs sums : List ℕ) (x i : ℕ) : Type 0 where
  pub lent : Lent s m bs sums (2 ^ 63)
  pub node : is_node (settings_of s) x ≡ true
  pub at_is : i ≡ slot (settings_of s) x

-- and where it is not free, for its record and its price
pub record PacketLent (s : Shape) (m sums : List ℕ) (x i : ℕ) : Type 0 where
  pub long : size (settings_of s) ≤ length m
  pub held : Sums (settings_of s) sums (2 ^ 63)
  pub node : is_node (settings_of s) x ≡ true
  pub at_is : i ≡ slot (settings_of s) x

-- ---- what is given back, where the answer is yes

pub record PacketPassed (S : Settings) (m : List ℕ) (c x : ℕ) (sums sums' : List ℕ) (r : Bool) : Type 0 where
  pub answer : r ≡ packet_fits S m c x
  pub added : r ≡ true → sums' ≡ add_node S m sums x

pub record NodePassed (S : Settings) (m : List ℕ) (p c x : ℕ) (ms sums ms' sums' : List ℕ) (r : Bool) : Type 0 where
  pub answer : r ≡ (is_new S ms x && fits_here S m p c x)
  pub marks : r ≡ true → ms' ≡ mark S ms x
  pub added : r ≡ true → sums' ≡ add_here S m c sums x
