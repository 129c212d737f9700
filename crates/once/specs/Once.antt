-- What the walk over a memory's lists finds: each node that it meets is marked, in a mark for each node by its element in the tables of nodes.
-- Assumes nothing.
use Rattle.std.specs.Prelude.{Bool, true, cond, ◌&&◌, List, [], ◌∷◌, ℕ, zero, suc, get_or, set, replicate, eqb, ltb, Option, None, Some}
use Rattle.ledger.specs.Settings.{Settings}
use Rattle.ledger.specs.Ledger.{is_node}
use Rattle.layout.specs.declared.Table.TheVariants.{Tail}
use Rattle.layout.specs.Tables.{lists, all, get}
use Rattle.layout.specs.Picture.{slot, nodes_of, last_d}

-- x is a node that was not met before, and the marks once it is met
unfoldable pub is_new : Settings → List ℕ → ℕ → Bool
is_new S ms x = is_node S x && eqb (get_or ms (slot S x) 0) 0

unfoldable pub mark : Settings → List ℕ → ℕ → List ℕ
mark S ms x = set ms (slot S x) 1

-- of nodes that are met in turn: whether each was new, and the marks after them
unfoldable pub all_new : Settings → List ℕ → List ℕ → Bool
all_new S ms [] = true
all_new S ms (x ∷ xs) = is_new S ms x && all_new S (mark S ms x) xs

unfoldable pub mark_all : Settings → List ℕ → List ℕ → List ℕ
mark_all S ms [] = ms
mark_all S ms (x ∷ xs) = mark_all S (mark S ms x) xs

-- nodes behind the node `last`: each is new, and the last of all is t
unfoldable pub ends : Settings → List ℕ → List ℕ → ℕ → ℕ → Bool
ends S ms xs last t = all_new S ms xs && eqb (last_d xs last) t

-- list l is met with new nodes alone, the last of which is its tail
unfoldable pub right : Settings → List ℕ → List ℕ → ℕ → Bool
right S m ms l = ends S ms (nodes_of S m l) (get S m Tail l) (get S m Tail l)

-- the first mark that is not set, the marks numbered from n
unfoldable pub unmarked : ℕ → List ℕ → Option ℕ
unmarked n [] = None
unmarked n (k ∷ ks) = cond (ltb 0 k) (unmarked (suc n) ks) (Some n)

-- n lists from l on: the first that is not right; else, numbered after the lists, the first node that was not met
unfoldable pub scan : Settings → List ℕ → List ℕ → ℕ → ℕ → Option ℕ
scan S m ms l zero = unmarked l ms
scan S m ms l (suc n) = cond (right S m ms l) (scan S m (mark_all S ms (nodes_of S m l)) (suc l) n) (Some l)

-- all lists, from marks that are all clear
unfoldable pub once_found : Settings → List ℕ → Option ℕ
once_found S m = scan S m (replicate (all S) 0) 0 (lists S)
