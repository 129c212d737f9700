-- The ends of the lists in a memory: a first node taken off, a last one put on. Assumes nothing.
use Rattle.std.specs.Prelude.{◌≡◌, cond, List, ℕ, ◌+◌, ◌-◌, ◌≤◌, ◌<◌, length, eqb}
use Rattle.ledger.specs.Settings.{Settings, size}
use Rattle.ledger.specs.Ledger.{is_node, Packet, Column, Ledger}
use Rattle.ledger.specs.Ready.{bit}
use Rattle.ledger.specs.Sound.{weigh, one}
use Rattle.layout.specs.declared.Table.{Table}
use Rattle.layout.specs.declared.Table.TheVariants.{Head, Tail, Count, Next}
use Rattle.layout.specs.Tables.{turn_of, lists, get, put}
use Rattle.layout.specs.Picture.{slot, ledger_in, Hangs}

-- memory with the first node of list a taken off
unfoldable pub pop_mem : Settings → ℕ → List ℕ → List ℕ
pop_mem S a m = put S Count a (get S m Count a - 1) (put S Head a (get S m Next (slot S (get S m Head a))) m)

-- the link to the new last node: from the head of an empty list, else from the node that was last
unfoldable pub link : Settings → ℕ → ℕ → List ℕ → List ℕ
link S b x m = cond (eqb (get S m Count b) 0) (put S Head b x m) (put S Next (slot S (get S m Tail b)) x m)

-- memory with node x put on at the end of list b
unfoldable pub push_mem : Settings → ℕ → ℕ → List ℕ → List ℕ
push_mem S b x m = put S Count b (get S m Count b + 1) (put S Tail b x (link S b x m))

-- memory whose lists hang together and in which no node stands twice, nor anything else: between taking off and putting on, too
pub record Tidy (S : Settings) (m : List ℕ) : Type 0 where
  pub long : size S ≤ length m
  pub hangs : (l : ℕ) → l < lists S → Hangs S m l
  pub once : (y : ℕ) → weigh (one y) (ledger_in S m).lists ≤ bit (is_node S y)

-- the tables of what is recorded for nodes are those after the links
abbrev pub IsRecord : Table → Type 0
IsRecord t = turn_of Next < turn_of t

-- ---- a ledger with other lists, and two ledgers that differ in their lists alone

abbrev pub with_lists : List (List Packet) → Ledger → Ledger
with_lists ls L = record { lists = ls; numbers = L.numbers }

abbrev pub SameNumbers : Ledger → Ledger → Type 0
SameNumbers L L' = (c : Column) → L'.numbers c ≡ L.numbers c
