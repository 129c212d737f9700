-- The picture: which desk a lent memory shows. Assumes nothing.
use Rattle.std.specs.Prelude.{◌≡◌, Bool, cond, ◌&&◌, List, [], ◌∷◌, map, ℕ, zero, suc, ◌+◌, ◌*◌, ◌%◌, ◌≤◌, ◌<◌, length, eqb, leb}
use Rattle.numbers.specs.Bytes.{number}
use Rattle.ledger.specs.Settings.{Settings, in_rows, row, size}
use Rattle.ledger.specs.Ledger.{owner, index, Packet, bare, tall, Ledger}
use Rattle.ledger.specs.Sound.{Sound}
use Rattle.layout.specs.declared.Table.TheVariants.{Head, Tail, Count, Next, Length, Stamp, Queue, Dest}
use Rattle.layout.specs.declared.Table.TheVariants.{Poisoned, Transaction, Price}
use Rattle.layout.specs.Tables.{table_of, lists, get}

-- the settings stand first: numbers of two bytes
unfoldable pub settings_in : List ℕ → Settings
settings_in m = record {
  ports = number 2 m 0;
  queues = number 2 m 2;
  nodes = number 2 m 4;
  beat = number 2 m 6;
  slots = number 2 m 8;
  credit = number 2 m 10;
  edition = number 2 m 12;
  packets = number 2 m 14;
}

-- rule (a): the settings are in their rows, and the memory is long enough for a state of them
abbrev pub opens : List ℕ → Bool
opens m = in_rows (settings_in m) && leb (size (settings_in m)) (length m)

-- the element of a node in the tables of nodes
unfoldable pub slot : Settings → ℕ → ℕ
slot S x = owner x * S.nodes + index x

-- n nodes from x on, by the links
unfoldable pub chain : Settings → List ℕ → ℕ → ℕ → List ℕ
chain S m zero x = []
chain S m (suc n) x = x ∷ chain S m n (get S m Next (slot S x))

-- the nodes of list l
unfoldable pub nodes_of : Settings → List ℕ → ℕ → List ℕ
nodes_of S m l = chain S m (get S m Count l) (get S m Head l)

-- what is recorded for node x
unfoldable pub packet_at : Settings → List ℕ → ℕ → Packet
packet_at S m x = record {
  node = x;
  len = get S m Length (slot S x);
  queue = get S m Queue (slot S x);
  dest = get S m Dest (slot S x);
  stamp = get S m Stamp (slot S x);
  poisoned = get S m Poisoned (slot S x);
  transaction = get S m Transaction (slot S x);
  price = get S m Price (slot S x);
}

-- node x as list l has it: a port's first list is its free list, of whose nodes nothing is recorded
unfoldable pub node_in : Settings → List ℕ → ℕ → ℕ → Packet
node_in S m l x = cond (eqb (l % row S) 0) (bare x) (packet_at S m x)

-- the numbers f i, f (i + 1), .. : n of them
abbrev pub tabulate : {A : Type 0} → (ℕ → A) → ℕ → ℕ → List A
tabulate f i zero = []
tabulate f i (suc n) = f i ∷ tabulate f (suc i) n

unfoldable pub ledger_in : Settings → List ℕ → Ledger
ledger_in S m = record {
  lists = tabulate (λ l. map (node_in S m l) (nodes_of S m l)) 0 (lists S);
  numbers = λ c. tabulate (get S m (table_of c)) 0 (tall S c);
}

-- the last of a list; d where it is empty
abbrev pub last_d : List ℕ → ℕ → ℕ
last_d [] d = d
last_d (x ∷ xs) d = last_d xs x

-- a list hangs together: its tail is its last node (an empty list's tail is not read)
abbrev pub Hangs : Settings → List ℕ → ℕ → Type 0
Hangs S m l = last_d (nodes_of S m l) (get S m Tail l) ≡ get S m Tail l

-- memory that is a switch state: it is long enough, its lists hang together, and its ledger is sound
pub record StateOf (S : Settings) (m : List ℕ) : Type 0 where
  pub long : size S ≤ length m
  pub hangs : (l : ℕ) → l < lists S → Hangs S m l
  pub sound : Sound S (ledger_in S m)

abbrev pub State : List ℕ → Type 0
State m = StateOf (settings_in m) m
