-- What the functions of the walk ask. Assumes nothing.
use Rattle.std.specs.Prelude.{◌≡◌, true, false, List, ℕ, ◌≤◌, ◌<◌, length}
use Rattle.ledger.specs.Settings.{Settings, size}
use Rattle.ledger.specs.Ledger.{is_node}
use Rattle.layout.specs.declared.shape.Shape.{Shape}
use Rattle.layout.specs.declared.Table.TheVariants.{Length, Queue, Dest, Poisoned, Price}
use Rattle.layout.specs.Tables.{lists, all, get}
use Rattle.layout.specs.Shapes.{settings_of}
use Rattle.memory.specs.Ends.{Tidy}
use Rattle.fits.specs.declared.NodeRule.{NodeRule}
use Rattle.fits.specs.declared.Note.{Note}
use Rattle.fits.specs.Fits.{spared}

-- a whole memory of shape s, in which x is a node
pub record NodeOf (s : Shape) (x : ℕ) (m : List ℕ) : Type 0 where
  pub long : size (settings_of s) ≤ length m
  pub node : is_node (settings_of s) x ≡ true

-- element i of the tables of nodes
pub record RecordOf (s : Shape) (i : ℕ) (m : List ℕ) : Type 0 where
  pub long : size (settings_of s) ≤ length m
  pub inside : i < all (settings_of s)

-- and what was read of it
pub record NoteOf (S : Settings) (m : List ℕ) (i : ℕ) (n : Note) : Type 0 where
  pub len_is : n.len ≡ get S m Length i
  pub queue_is : n.queue ≡ get S m Queue i
  pub dest_is : n.dest ≡ get S m Dest i
  pub poisoned_is : n.poisoned ≡ get S m Poisoned i
  pub price_is : n.price ≡ get S m Price i

-- a node and a list, a port's column c, of which the rule says something
pub record Spoken (rule : NodeRule) (c : ℕ) (s : Shape) (x : ℕ) (m : List ℕ) : Type 0 where
  pub seen : NodeOf s x m
  pub spoken : spared rule c ≡ false

-- memory of shape s that has passed rule (c)
pub record Walkable (s : Shape) (m : List ℕ) : Type 0 where
  pub tidy : Tidy (settings_of s) m

-- and a list of it
pub record ListOf (s : Shape) (l : ℕ) (m : List ℕ) : Type 0 where
  pub walkable : Walkable s m
  pub inside : l < lists (settings_of s)
