-- The search for a node, by the ids in memory: what the walk of a list finds, and the search of the lists. Assumes nothing.
use Rattle.std.specs.Prelude.{cond, Option, None, Some, List, [], ◌∷◌, ℕ, zero, suc, ◌<◌, eqb}
use Rattle.ledger.specs.Settings.{Settings}
use Rattle.layout.specs.declared.shape.Shape.{Shape}
use Rattle.layout.specs.Tables.{lists}
use Rattle.layout.specs.Shapes.{settings_of}
use Rattle.layout.specs.Picture.{nodes_of}
use Rattle.memory.specs.Judged.{Works}

-- node y among these nodes, of which the first has position i
unfoldable pub walked : ℕ → ℕ → List ℕ → Option ℕ
walked y i [] = None
walked y i (x ∷ xs) = cond (eqb x y) (Some i) (walked y (suc i) xs)

-- found in list l, or else what the rest of the search finds
abbrev pub or_else : ℕ → Option ℕ → Option (ℕ × ℕ) → Option (ℕ × ℕ)
or_else l (Some i) rest = Some (l, i)
or_else l None rest = rest

-- node y in n lists from list l on
unfoldable pub searched : Settings → List ℕ → ℕ → ℕ → ℕ → Option (ℕ × ℕ)
searched S m y l zero = None
searched S m y l (suc n) = or_else l (walked y 0 (nodes_of S m l)) (searched S m y (suc l) n)

-- list l of a switch state
pub record Walks (s : Shape) (l : ℕ) (m : List ℕ) : Type 0 where
  pub works : Works s m
  pub inside : l < lists (settings_of s)
