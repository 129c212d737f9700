-- Rule (g), as it is computed: a sum for each port and queue but 0, to which the price of each node that is not free is added, and then
-- the first cell whose credit and sum are not K together, port by port and queue by queue. Assumes nothing.
use Rattle.std.specs.Prelude.{Bool, cond, List, [], ◌∷◌, ℕ, zero, suc, ◌+◌, ◌%◌, get_or, replicate, eqb, Option}
use Rattle.ledger.specs.Settings.{Settings, row}
use Rattle.ledger.specs.Ledger.{owner, credit_at, set_credit}
use Rattle.layout.specs.declared.Table.TheVariants.{Arrival, Queue, Price}
use Rattle.layout.specs.Tables.{cells, lists, get}
use Rattle.layout.specs.Picture.{slot, nodes_of}
use Rattle.ranges.specs.First.{first}

-- a price of n added to the sum of node x's port and of queue q, of which queue 0 has none
unfoldable pub add_price : Settings → List ℕ → ℕ → ℕ → ℕ → List ℕ
add_price S sums x q n = set_credit S sums (owner x) q (credit_at S sums (owner x) q + n)

-- the price of node x added to the sum of its port and queue
unfoldable pub add_node : Settings → List ℕ → List ℕ → ℕ → List ℕ
add_node S m sums x = add_price S sums x (get S m Queue (slot S x)) (get S m Price (slot S x))

unfoldable pub add_all : Settings → List ℕ → List ℕ → List ℕ → List ℕ
add_all S m sums [] = sums
add_all S m sums (x ∷ xs) = add_all S m (add_node S m sums x) xs

-- those of list l: a port's first list is its free list
unfoldable pub add_list : Settings → List ℕ → List ℕ → ℕ → List ℕ
add_list S m sums l = cond (eqb (l % row S) 0) sums (add_all S m sums (nodes_of S m l))

-- those of n lists from l on
unfoldable pub add_from : Settings → List ℕ → List ℕ → ℕ → ℕ → List ℕ
add_from S m sums l zero = sums
add_from S m sums l (suc n) = add_from S m (add_list S m sums l) (suc l) n

unfoldable pub sums_of : Settings → List ℕ → List ℕ
sums_of S m = add_from S m (replicate (cells S) 0) 0 (lists S)

-- the credit of cell c and its sum are K together
unfoldable pub settled_at : Settings → List ℕ → List ℕ → ℕ → Bool
settled_at S m sums c = eqb (get S m Arrival c + get_or sums c 0) S.credit

-- the first cell of which that is not so, with these sums and with those of the memory
unfoldable pub due_found : Settings → List ℕ → List ℕ → Option ℕ
due_found S m sums = first (settled_at S m sums) (cells S)

abbrev pub paid_found : Settings → List ℕ → Option ℕ
paid_found S m = due_found S m (sums_of S m)
