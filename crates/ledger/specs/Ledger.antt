-- Paper 01, "The ledger": what is recorded, where nodes stand, the credits, and the setters by which calls change it. Assumes nothing.
use Rattle.std.specs.Prelude.{Bool, cond, ◌&&◌, List, [], ◌∷◌, ◌++◌, ℕ, zero, suc, ◌+◌, ◌-◌, ◌*◌, ◌/◌, ◌%◌, ◌<◌, get_or, set, drop, replicate, eqb, ltb}
use Rattle.ledger.specs.Settings.{Settings, ids, bucket_count, row}
use Rattle.ledger.specs.Header.{Fields, price}
use Rattle.ledger.specs.Buckets.{stop, bucket#}

-- ---- nodes

-- "A node's entry id is port × 2048 + index."
abbrev pub entry_id : ℕ → ℕ → ℕ
entry_id p i = p * 2048 + i

abbrev pub owner : ℕ → ℕ
owner y = y / 2048

abbrev pub index : ℕ → ℕ
index y = y % 2048

unfoldable pub is_node : Settings → ℕ → Bool
is_node S y = ltb (owner y) S.ports && ltb (index y) S.nodes

-- a node with what is recorded for it
pub record Packet : Type 0 where
  pub node : ℕ
  pub len : ℕ
  pub queue : ℕ
  pub dest : ℕ
  pub stamp : ℕ
  pub poisoned : ℕ
  pub transaction : ℕ
  pub price : ℕ

-- a free node: nothing is recorded for it
abbrev pub bare : ℕ → Packet
bare x = record { node = x; len = 0; queue = 0; dest = 0; stamp = 0; poisoned = 0; transaction = 0; price = 0 }

-- what node x holds once a header with these fields is recorded
unfoldable pub recorded : Settings → ℕ → Fields → Packet
recorded S x f = record {
  node = x;
  len = f.len;
  queue = f.queue;
  dest = f.dest;
  stamp = f.stamp;
  poisoned = f.poisoned;
  transaction = f.transaction;
  price = price S.beat f.queue f.len;
}

-- ---- places: a list each

pub data Place : Type 0 where
  free : ℕ → Place
  ingress : ℕ → Place
  egress : ℕ → ℕ → Place
  prefetched : ℕ → ℕ → Place

abbrev pub port_of : Place → ℕ
port_of (free p) = p
port_of (ingress p) = p
port_of (egress p q) = p
port_of (prefetched p q) = p

-- "list kind 0 to 3 in Where's order", and "queue or 0" (paper 02, Q-11)
abbrev pub kind_in : Place → ℕ
kind_in (free p) = 0
kind_in (ingress p) = 1
kind_in (egress p q) = 2
kind_in (prefetched p q) = 3

abbrev pub queue_in : Place → ℕ
queue_in (free p) = 0
queue_in (ingress p) = 0
queue_in (egress p q) = q
queue_in (prefetched p q) = q

-- a place that the switch has
abbrev pub PlaceIn : Settings → Place → Type 0
PlaceIn S (free p) = (p < S.ports) × (0 < S.queues)
PlaceIn S (ingress p) = (p < S.ports) × (0 < S.queues)
PlaceIn S (egress p q) = (p < S.ports) × (q < S.queues)
PlaceIn S (prefetched p q) = (p < S.ports) × (q < S.queues)

-- the lists are numbered port by port: free, ingress, the egress lists, the prefetch lists
abbrev pub column : Settings → Place → ℕ
column S (free p) = 0
column S (ingress p) = 1
column S (egress p q) = suc (suc q)
column S (prefetched p q) = suc (suc (S.queues + q))

unfoldable pub place# : Settings → Place → ℕ
place# S v = port_of v * row S + column S v

-- and back: the place of a list's number
abbrev pub place_in : Settings → ℕ → ℕ → Place
place_in S p zero = free p
place_in S p (suc zero) = ingress p
place_in S p (suc (suc k)) = cond (ltb k S.queues) (egress p k) (prefetched p (k - S.queues))

unfoldable pub place_of : Settings → ℕ → Place
place_of S l = place_in S (l / row S) (l % row S)

-- ---- credits: a cell for each port and each queue but 0, which has none

unfoldable pub cell : Settings → ℕ → ℕ → ℕ
cell S p r = p * (S.queues - 1) + r

unfoldable pub credit_at : Settings → List ℕ → ℕ → ℕ → ℕ
credit_at S xs p zero = 0
credit_at S xs p (suc r) = get_or xs (cell S p r) 0

unfoldable pub set_credit : Settings → List ℕ → ℕ → ℕ → ℕ → List ℕ
set_credit S xs p zero v = xs
set_credit S xs p (suc r) v = set xs (cell S p r) v

-- ---- the ledger: lists of packets, and numbers in columns

pub data Column : Type 0 where
  arrival outward last mapped halted buckets : Column

abbrev pub column# : Column → ℕ
column# arrival = 0
column# outward = 1
column# last = 2
column# mapped = 3
column# halted = 4
column# buckets = 5

-- the numbers of a column: credits have one for each port and each queue but 0, last served queues and marks (paper 02, Q-9) one for each
-- port, the map one for each id, buckets (paper 02, Q-13) 33 for each port
abbrev pub tall : Settings → Column → ℕ
tall S arrival = S.ports * (S.queues - 1)
tall S outward = S.ports * (S.queues - 1)
tall S last = S.ports
tall S mapped = ids
tall S halted = S.ports
tall S buckets = S.ports * bucket_count

-- each number of a column is below this; which marks there are is rule (i)'s
abbrev pub bound : Settings → Column → ℕ
bound S arrival = 65536
bound S outward = 65536
bound S last = S.queues
bound S mapped = S.ports
bound S halted = 256
bound S buckets = suc stop

-- and is this in the starting ledger: all arrival credit in hand, the last queue last served, no port halted, nothing
-- counted
abbrev pub starting : Settings → Column → ℕ
starting S arrival = S.credit
starting S outward = 0
starting S last = S.queues - 1
starting S mapped = 0
starting S halted = 0
starting S buckets = 0

pub record Ledger : Type 0 where
  pub lists : List (List Packet)
  pub numbers : Column → List ℕ

abbrev pub list_at : Settings → Ledger → Place → List Packet
list_at S L v = get_or L.lists (place# S v) []

abbrev pub arrival_of : Settings → Ledger → ℕ → ℕ → ℕ
arrival_of S L p q = credit_at S (L.numbers arrival) p q

abbrev pub outward_of : Settings → Ledger → ℕ → ℕ → ℕ
outward_of S L p q = credit_at S (L.numbers outward) p q

abbrev pub last_of : Ledger → ℕ → ℕ
last_of L p = get_or (L.numbers last) p 0

abbrev pub map_of : Ledger → ℕ → ℕ
map_of L d = get_or (L.numbers mapped) d 0

-- a port's mark: 0, or the refusal for which it was halted
abbrev pub mark_of : Ledger → ℕ → ℕ
mark_of L p = get_or (L.numbers halted) p 0

-- bucket b of port p: how many packets its timed turns sent whose wait falls there
abbrev pub bucket_at : Ledger → ℕ → ℕ → ℕ
bucket_at L p b = get_or (L.numbers buckets) (bucket# p b) 0

-- ---- lists change in two ways: the oldest is taken off, a last one is put on

abbrev pub oldest : List Packet → Packet
oldest ks = get_or ks 0 (bare 0)

unfoldable pub pop : ℕ → List (List Packet) → List (List Packet)
pop a ls = set ls a (drop 1 (get_or ls a []))

abbrev pub behind : Packet → List Packet → List Packet
behind k ks = ks ++ (k ∷ [])

unfoldable pub push : ℕ → Packet → List (List Packet) → List (List Packet)
push b k ls = set ls b (behind k (get_or ls b []))

-- ---- setters: a packet moves, or numbers of one column change

-- the oldest of place v goes to the end of place w, as k
unfoldable pub move : Settings → Place → Place → Packet → Ledger → Ledger
move S v w k L = record { lists = push (place# S w) k (pop (place# S v) L.lists); numbers = L.numbers }

unfoldable pub change : Column → (List ℕ → List ℕ) → Ledger → Ledger
change c f L = record { lists = L.lists; numbers = λ d. cond (eqb (column# c) (column# d)) (f (L.numbers d)) (L.numbers d) }

-- number i of a column becomes v
abbrev pub put_in : Column → ℕ → ℕ → Ledger → Ledger
put_in c i v = change c (λ xs. set xs i v)

-- the credit of port p and queue q becomes v, in a column of credits
abbrev pub put_credit : Column → Settings → ℕ → ℕ → ℕ → Ledger → Ledger
put_credit c S p q v = change c (λ xs. set_credit S xs p q v)

-- ---- the starting ledger: every node free, in order

abbrev pub bares : ℕ → ℕ → List Packet
bares x zero = []
bares x (suc n) = bare x ∷ bares (suc x) n

abbrev pub start_lists : Settings → ℕ → ℕ → List (List Packet)
start_lists S p zero = []
start_lists S p (suc n) = (bares (entry_id p 0) S.nodes ∷ []) ++ (replicate (1 + 2 * S.queues) [] ++ start_lists S (suc p) n)

unfoldable pub start : Settings → Ledger
start S = record { lists = start_lists S 0 S.ports; numbers = λ c. replicate (tall S c) (starting S c) }
