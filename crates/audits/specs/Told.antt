-- The walk of the lists into a room: each node that is met writes its place at its own eight bytes. Assumes nothing.
use Rattle.std.specs.Prelude.{◌≡◌, true, List, [], ◌∷◌, ◌++◌, ℕ, zero, suc, ◌+◌, ◌*◌, ◌≤◌, ◌<◌, length, take, drop}
use Rattle.ledger.specs.Settings.{Settings, size}
use Rattle.ledger.specs.Ledger.{is_node, Place, place_of}
use Rattle.ledger.specs.Audit.{place_bytes}
use Rattle.layout.specs.declared.shape.Shape.{Shape}
use Rattle.layout.specs.declared.Table.TheVariants.{Next}
use Rattle.layout.specs.Tables.{lists, all, get}
use Rattle.layout.specs.Shapes.{settings_of}
use Rattle.layout.specs.Picture.{slot, nodes_of}
use Rattle.memory.specs.Judged.{Works}

-- a room in which the eight bytes from `at` on have become these
unfoldable pub put_eight : ℕ → List ℕ → List ℕ → List ℕ
put_eight at bytes room = take at room ++ bytes ++ drop (at + 8) room

-- in which it is told that node x stands at position i of place v
abbrev pub told_node : Settings → Place → ℕ → ℕ → List ℕ → List ℕ
told_node S v i x room = put_eight (8 * slot S x) (place_bytes x v i) room

-- in which these nodes are told, of which the first has position i
unfoldable pub told_nodes : Settings → Place → ℕ → List ℕ → List ℕ → List ℕ
told_nodes S v i [] room = room
told_nodes S v i (x ∷ xs) room = told_nodes S v (suc i) xs (told_node S v i x room)

-- those of list l
abbrev pub told_list : Settings → List ℕ → ℕ → List ℕ → List ℕ
told_list S m l room = told_nodes S (place_of S l) 0 (nodes_of S m l) room

-- those of n lists from l on
unfoldable pub told_lists : Settings → List ℕ → ℕ → ℕ → List ℕ → List ℕ
told_lists S m l zero room = room
told_lists S m l (suc n) room = told_lists S m (suc l) n (told_list S m l room)

-- ---- what the code asks and gives

-- a switch state, and a room of eight bytes a node
pub record Lent (s : Shape) (m room : List ℕ) : Type 0 where
  pub works : Works s m
  pub wide : 8 * all (settings_of s) ≤ length room

-- list l of it
pub record ListLent (s : Shape) (l : ℕ) (m room : List ℕ) : Type 0 where
  pub lent : Lent s m room
  pub inside : l < lists (settings_of s)

-- node x of it
pub record NodeLent (s : Shape) (x : ℕ) (m room : List ℕ) : Type 0 where
  pub long : size (settings_of s) ≤ length m
  pub wide : 8 * all (settings_of s) ≤ length room
  pub node : is_node (settings_of s) x ≡ true

-- node x is told at position i of place v, and z comes after it
pub record Told (s : Shape) (m : List ℕ) (v : Place) (i x z : ℕ) (room room' : List ℕ) : Type 0 where
  pub after : z ≡ get (settings_of s) m Next (slot (settings_of s) x)
  pub told : room' ≡ told_node (settings_of s) v i x room
