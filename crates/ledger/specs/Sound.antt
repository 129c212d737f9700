-- Paper 01: "A ledger is sound when, in this order": (a) to (g); and paper 02's rule (i). Assumes nothing.
use Rattle.std.specs.Prelude.{◌≡◌, true, cond, ◌&&◌, List, [], ◌∷◌, ℕ, suc, ◌+◌, ◌*◌, ◌^◌, ◌≤◌, ◌<◌, length, get_or, eqb}
use Rattle.ledger.specs.Settings.{Settings, in_rows, row}
use Rattle.ledger.specs.Header.{form, least_length, price}
use Rattle.ledger.specs.Ledger.{owner, is_node, Packet, Place, free, ingress, egress, prefetched, place_of, Column, tall, bound, Ledger, list_at}
use Rattle.ledger.specs.Ledger.{arrival_of, mark_of}
use Rattle.ledger.specs.Ready.{bit}
use Rattle.ledger.specs.Halt.{is_mark}

-- ---- words for facts about the nodes of the lists

abbrev pub All : {A : Type 0} → (A → Type 0) → List A → Type 0
All P [] = Unit {0}
All P (x ∷ xs) = P x × All P xs

-- P l k for each node k of each list l
pub record Everywhere (P : ℕ → Packet → Type 0) (ls : List (List Packet)) : Type 0 where
  pub holds : (l : ℕ) → l < length ls → All (P l) (get_or ls l [])

-- what the elements of a list weigh together
abbrev pub sum : {A : Type 0} → (A → ℕ) → List A → ℕ
sum f [] = 0
sum f (x ∷ xs) = f x + sum f xs

-- what all nodes weigh together, where node k in list l weighs f l k
abbrev pub weigh : (ℕ → Packet → ℕ) → List (List Packet) → ℕ
weigh f [] = 0
weigh f (l ∷ ls) = sum (f 0) l + weigh (λ i. f (suc i)) ls

-- ---- there is a list for each place, and a column has all its numbers

pub record Shaped (S : Settings) (L : Ledger) : Type 0 where
  pub lists_long : length L.lists ≡ S.ports * row S
  pub numbers_long : (c : Column) → length (L.numbers c) ≡ tall S c

-- (b) last served queues, map entries and credits are in range and no prefetch list exceeds D (of a mark, that it is a byte; of a bucket,
-- that it is four)
pub record InRange (S : Settings) (L : Ledger) : Type 0 where
  pub numbers_in : (c : Column) (i : ℕ) → i < tall S c → get_or (L.numbers c) i 0 < bound S c
  pub slots_in : (p q : ℕ) → p < S.ports → q < S.queues → length (list_at S L (prefetched p q)) ≤ S.slots

-- (c) how often y stands in the lists: once if it is a node, else never
abbrev pub one : ℕ → ℕ → Packet → ℕ
one y l k = bit (eqb k.node y)

abbrev pub Once : Settings → List (List Packet) → Type 0
Once S ls = (y : ℕ) → weigh (one y) ls ≡ bit (is_node S y)

-- (d) free and ingress lists hold only their own port's nodes
abbrev pub OwnPort : Place → Packet → Type 0
OwnPort (free p) k = owner k.node ≡ p
OwnPort (ingress p) k = owner k.node ≡ p
OwnPort (egress p q) k = Unit {0}
OwnPort (prefetched p q) k = Unit {0}

-- (e) a node in an egress or prefetch list has that list's queue
abbrev pub OwnQueue : Place → Packet → Type 0
OwnQueue (free p) k = Unit {0}
OwnQueue (ingress p) k = Unit {0}
OwnQueue (egress p q) k = k.queue ≡ q
OwnQueue (prefetched p q) k = k.queue ≡ q

-- (f) every field is in its header field's range; length, price and queue obey the rules
pub record Proper (S : Settings) (k : Packet) : Type 0 where
  pub len_low : least_length (form S) ≤ k.len
  pub len_high : k.len < 2 ^ 13
  pub queue_in_range : k.queue < S.queues
  pub dest_in : k.dest < 2 ^ (form S).port_bits
  pub stamp_in : k.stamp < 2 ^ 32
  pub poisoned_in : k.poisoned < 2
  pub transaction_in : k.transaction < 256
  pub price_is : k.price ≡ price S.beat k.queue k.len

abbrev pub WellRecorded : Settings → Place → Packet → Type 0
WellRecorded S (free p) k = Unit {0}
WellRecorded S (ingress p) k = Proper S k
WellRecorded S (egress p q) k = Proper S k
WellRecorded S (prefetched p q) k = Proper S k

-- (g) what a node in a place owes to the arrival credit of port p and queue q: its price, if it is p's, of queue q and not free
abbrev pub owes : ℕ → ℕ → Packet → ℕ
owes p q k = cond (eqb (owner k.node) p && eqb k.queue q) k.price 0

abbrev pub due : ℕ → ℕ → Place → Packet → ℕ
due p q (free r) k = 0
due p q (ingress r) k = owes p q k
due p q (egress r s) k = owes p q k
due p q (prefetched r s) k = owes p q k

abbrev pub owed : Settings → ℕ → ℕ → ℕ → Packet → ℕ
owed S p q l k = due p q (place_of S l) k

-- ---- (b) to (g), of any settings

pub record Orderly (S : Settings) (L : Ledger) : Type 0 where
  pub shaped : Shaped S L
  pub ranges : InRange S L
  pub once : Once S L.lists
  pub owned : Everywhere (λ l k. OwnPort (place_of S l) k) L.lists
  pub queued : Everywhere (λ l k. OwnQueue (place_of S l) k) L.lists
  pub proper : Everywhere (λ l k. WellRecorded S (place_of S l) k) L.lists
  pub paid : (p q : ℕ) → p < S.ports → 0 < q → q < S.queues → arrival_of S L p q + weigh (owed S p q) L.lists ≡ S.credit

-- (i) every port's mark is 0, 7, 8 or 18; beside the others, since no promise of theirs reads a mark
abbrev pub Marked : Settings → Ledger → Type 0
Marked S L = (p : ℕ) → p < S.ports → is_mark (mark_of L p) ≡ true

-- (a) the settings are in their rows (that the memory is long enough is said of the memory); and all the others
pub record Sound (S : Settings) (L : Ledger) : Type 0 where
  pub rows : in_rows S ≡ true
  pub orderly : Orderly S L
  pub marked : Marked S L

-- what proofs use of (a), so that nothing but `in_row` knows an edition's numbers
pub record Roomy (S : Settings) : Type 0 where
  pub some_ports : 2 ≤ S.ports
  pub few_ports : S.ports ≤ 32
  pub some_queues : 2 ≤ S.queues
  pub few_queues : S.queues ≤ 64
  pub some_nodes : 1 ≤ S.nodes
  pub few_nodes : S.nodes ≤ 2048
  pub low_beat : 64 ≤ S.beat
  pub high_beat : S.beat ≤ 512
  pub some_slots : 1 ≤ S.slots
  pub few_slots : S.slots ≤ 8
  pub low_credit : S.credit ≤ 65535
  pub low_edition : S.edition ≤ 1
  pub low_packets : S.packets ≤ 1
