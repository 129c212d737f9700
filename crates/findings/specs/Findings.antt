-- Paper 02, Q-11: what a finding says. The first rule of soundness that a memory breaks, "(a) to (i)" in their order, and the
-- first item that shows it, in words of the ledger that the memory shows and none of the walks that look for it. Assumes nothing.
use Rattle.std.specs.Prelude.{◌≡◌, true, List, [], ◌∷◌, ◌++◌, ℕ, suc, ◌+◌, ◌-◌, ◌*◌, ◌/◌, ◌%◌, ◌≤◌, ◌<◌, length, get_or, take, Option, None, Some}
use Rattle.ledger.specs.declared.Broken.{Broken}
use Rattle.ledger.specs.declared.Rule.{Rule}
use Rattle.ledger.specs.declared.Rule.TheVariants.{A, B, C, D, E, F, G, I}
use Rattle.ledger.specs.Settings.{Settings, setting_count, in_row, ids, size}
use Rattle.ledger.specs.Ledger.{is_node, Packet, Place, prefetched, place_of, buckets, tall, Ledger, list_at, arrival_of, last_of, map_of, mark_of}
use Rattle.ledger.specs.Halt.{is_mark}
use Rattle.ledger.specs.Ready.{bit}
use Rattle.ledger.specs.Sound.{All, Everywhere, weigh, InRange, one, Once, OwnPort, OwnQueue, WellRecorded, owed, Marked}
use Rattle.ledger.specs.Letters.{letter#}
use Rattle.ledger.specs.Audit.{node_at}
use Rattle.layout.specs.declared.Table.TheVariants.{Buckets}
use Rattle.layout.specs.Tables.{cells, lists, all, put}
use Rattle.layout.specs.Picture.{settings_in, opens, ledger_in, Hangs, State}

-- ---- the rules, by their letters

-- the ledger that a memory shows by its own settings
abbrev pub ledger_of : List ℕ → Ledger
ledger_of m = ledger_in (settings_in m) m

-- what (d), (e) and (f) ask of node k in list l
abbrev pub placed : (Place → Packet → Type 0) → Settings → ℕ → Packet → Type 0
placed P S l k = P (place_of S l) k

-- (g) of port p and queue q
abbrev pub Settled : Settings → Ledger → ℕ → ℕ → Type 0
Settled S L p q = arrival_of S L p q + weigh (owed S p q) L.lists ≡ S.credit

-- the rule, of a memory; that its lists hang together is part of (c)
abbrev pub Holds : Rule → List ℕ → Type 0
Holds A m = opens m ≡ true
Holds B m = InRange (settings_in m) (ledger_of m)
Holds C m = ((l : ℕ) → l < lists (settings_in m) → Hangs (settings_in m) m l) × Once (settings_in m) (ledger_of m).lists
Holds D m = Everywhere (placed OwnPort (settings_in m)) (ledger_of m).lists
Holds E m = Everywhere (placed OwnQueue (settings_in m)) (ledger_of m).lists
Holds F m = Everywhere (placed (WellRecorded (settings_in m)) (settings_in m)) (ledger_of m).lists
Holds G m = (p q : ℕ) → p < (settings_in m).ports → 0 < q → q < (settings_in m).queues → Settled (settings_in m) (ledger_of m) p q
Holds I m = Marked (settings_in m) (ledger_of m)

-- ---- the items of a rule, in their order, and what is right of each

-- (a) the settings as the memory has them, each in its row if it is there to be read; then, that the memory is long enough
pub record SettingRight (m : List ℕ) (i : ℕ) : Type 0 where
  pub is_in_row : i < setting_count → 2 * setting_count ≤ length m → in_row (settings_in m) i ≡ true
  pub long : i ≡ setting_count → size (settings_in m) ≤ length m

-- (b) the last served queues, the map's entries, then the prefetch lists, port by port and queue by queue; no credit is out of range in the
-- two bytes that hold it, and no mark in its byte
pub record RangeRight (S : Settings) (L : Ledger) (i : ℕ) : Type 0 where
  pub last_served : i < S.ports → last_of L i < S.queues
  pub entry : (d : ℕ) → d < ids → i ≡ S.ports + d → map_of L d < S.ports
  pub slots : (j : ℕ) → i ≡ S.ports + ids + j → length (list_at S L (prefetched (j / S.queues) (j % S.queues))) ≤ S.slots

-- (c) the lists, each hanging together, with no node in it that stood before and nothing that is no node; then the nodes, port by port and
-- index by index, each in some list
pub record ListRight (S : Settings) (m : List ℕ) (i : ℕ) : Type 0 where
  pub hangs : i < lists S → Hangs S m i
  pub once : i < lists S → (y : ℕ) → weigh (one y) (take (suc i) (ledger_in S m).lists) ≤ bit (is_node S y)
  pub met : (j : ℕ) → i ≡ lists S + j → 1 ≤ weigh (one (node_at S j)) (ledger_in S m).lists

-- (g) the ports and their queues but 0
abbrev pub CellRight : Settings → Ledger → ℕ → Type 0
CellRight S L i = Settled S L (i / (S.queues - 1)) (suc (i % (S.queues - 1)))

-- (i) the ports
abbrev pub MarkRight : Ledger → ℕ → Type 0
MarkRight L p = is_mark (mark_of L p) ≡ true

-- ---- the first item that is not right

-- of n items
pub record FirstOf (Right : ℕ → Type 0) (n i : ℕ) : Type 0 where
  pub inside : i < n
  pub wrong : Right i → ⊥
  pub before : (k : ℕ) → k < i → Right k

-- (d), (e) and (f): of the nodes, list by list and each from its front; the item is the node's entry id
pub record FirstNode (P : ℕ → Packet → Type 0) (ls : List (List Packet)) (i : ℕ) : Type 0 where
  pub list : ℕ
  pub front : List Packet
  pub packet : Packet
  pub rest : List Packet
  pub inside : list < length ls
  pub here : get_or ls list [] ≡ front ++ (packet ∷ rest)
  pub named : packet.node ≡ i
  pub wrong : P list packet → ⊥
  pub before : All (P list) front
  pub earlier : (l : ℕ) → l < list → All (P l) (get_or ls l [])

abbrev pub FirstItem : Rule → List ℕ → ℕ → Type 0
FirstItem A m = FirstOf (SettingRight m) (suc setting_count)
FirstItem B m = let S = settings_in m in FirstOf (RangeRight S (ledger_of m)) (S.ports + ids + S.ports * S.queues)
FirstItem C m = let S = settings_in m in FirstOf (ListRight S m) (lists S + all S)
FirstItem D m = FirstNode (placed OwnPort (settings_in m)) (ledger_of m).lists
FirstItem E m = FirstNode (placed OwnQueue (settings_in m)) (ledger_of m).lists
FirstItem F m = FirstNode (placed (WellRecorded (settings_in m)) (settings_in m)) (ledger_of m).lists
FirstItem G m = let S = settings_in m in FirstOf (CellRight S (ledger_of m)) (cells S)
FirstItem I m = FirstOf (MarkRight (ledger_of m)) (settings_in m).ports

-- ---- a finding

-- rule r is the first that is broken, and item i the first that shows it
pub record Finds (r : Rule) (i : ℕ) (m : List ℕ) : Type 0 where
  pub before : (q : Rule) → letter# q < letter# r → Holds q m
  pub broken : Holds r m → ⊥
  pub first : FirstItem r m i

-- what a finding means: none, that the memory is a switch state
abbrev pub Means : Option Broken → List ℕ → Type 0
Means None m = State m
Means (Some b) m = Finds b.rule b.item m

-- ---- no bucket is read (paper 02, Q-13)

-- whatever number is put in a bucket, the same is found, of every memory
unfoldable pub FindingsUnread : (List ℕ → Option Broken) → Type 0
FindingsUnread find = (m : List ℕ) (i v : ℕ) → i < tall (settings_in m) buckets → find (put (settings_in m) Buckets i v m) ≡ find m
