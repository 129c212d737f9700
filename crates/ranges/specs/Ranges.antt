-- Rule (b), item by item: the numbers of the columns that are tested, then the prefetch lists, port by port and queue by queue.
-- Assumes nothing.
use Rattle.std.specs.Prelude.{◌≡◌, Bool, cond, ◌||◌, List, [], ◌∷◌, ℕ, zero, suc, ◌+◌, ◌-◌, ◌*◌, ◌/◌, ◌%◌, ◌≤◌, ◌<◌, max, length, ltb, leb, Option, None}
use Rattle.ledger.specs.Settings.{Settings, row, size}
use Rattle.ledger.specs.Ledger.{prefetched, place#, Column, last, mapped, tall, bound}
use Rattle.ledger.specs.Sound.{sum}
use Rattle.layout.specs.declared.shape.Shape.{Shape}
use Rattle.layout.specs.declared.Table.TheVariants.{Count}
use Rattle.layout.specs.Tables.{table_of, get}
use Rattle.layout.specs.Shapes.{settings_of}
use Rattle.ranges.specs.First.{first}

-- the list that is prefetch list j
unfoldable pub prefetch_at : Settings → ℕ → ℕ
prefetch_at S j = place# S (prefetched (j / S.queues) (j % S.queues))

-- the columns whose numbers can be out of range in the bytes that hold them: credits can't, and which marks there are is rule (i)'s
abbrev pub bounded : List Column
bounded = last ∷ mapped ∷ []

-- how many numbers they have, and how many items there are
abbrev pub low : Settings → ℕ
low S = sum (tall S) bounded

abbrev pub items : Settings → ℕ
items S = low S + S.ports * S.queues

-- item i is in range, of the numbers of these columns and the prefetch lists
abbrev pub fits_in : Settings → List ℕ → List Column → ℕ → Bool
fits_in S m [] i = leb (get S m Count (prefetch_at S i)) S.slots
fits_in S m (c ∷ cs) i = cond (ltb i (tall S c)) (ltb (get S m (table_of c) i) (bound S c)) (fits_in S m cs (i - tall S c))

unfoldable pub fits_at : Settings → List ℕ → ℕ → Bool
fits_at S m = fits_in S m bounded

-- the highest of the numbers f 0, f 1, .. : n of them; 0 where there are none
unfoldable pub highest : (ℕ → ℕ) → ℕ → ℕ
highest f zero = 0
highest f (suc n) = max (highest f n) (f n)

-- the same by a list's column among its port's: n nodes are few enough for it
unfoldable pub few_at : Settings → ℕ → ℕ → Bool
few_at S c n = ltb c (2 + S.queues) || leb n S.slots

abbrev pub few_in : Settings → List ℕ → ℕ → Bool
few_in S m l = few_at S (l % row S) (get S m Count l)

-- the first item that is not
unfoldable pub ranges_found : Settings → List ℕ → Option ℕ
ranges_found S m = first (fits_at S m) (items S)

-- a memory that holds a state of shape s, and item i of it
pub record Held (s : Shape) (m : List ℕ) : Type 0 where
  pub long : size (settings_of s) ≤ length m

pub record Item (s : Shape) (m : List ℕ) (i : ℕ) : Type 0 where
  pub held : Held s m
  pub low : i < items (settings_of s)

-- the first n of its items, of which those before i are in range
pub record Sought (s : Shape) (m : List ℕ) (i n : ℕ) : Type 0 where
  pub held : Held s m
  pub here : i ≤ n
  pub most : n ≤ items (settings_of s)
  pub before : first (fits_at (settings_of s) m) i ≡ None
