-- What adding a price and the pass over the cells ask. Assumes nothing.
use Rattle.std.specs.Prelude.{◌≡◌, true, List, ℕ, ◌*◌, ◌^◌, ◌≤◌, ◌<◌, length}
use Rattle.ledger.specs.Settings.{Settings, size}
use Rattle.ledger.specs.Ledger.{owner, is_node, place_of, credit_at}
use Rattle.ledger.specs.Sound.{Everywhere, WellRecorded}
use Rattle.layout.specs.declared.shape.Shape.{Shape}
use Rattle.layout.specs.declared.Table.TheVariants.{Queue}
use Rattle.layout.specs.Tables.{cells, lists, get}
use Rattle.layout.specs.Shapes.{settings_of}
use Rattle.layout.specs.Picture.{slot, ledger_in}
use Rattle.memory.specs.Ends.{Tidy}

-- a memory that keeps rules (c) and (f), with the tails
pub record Payable (S : Settings) (m : List ℕ) : Type 0 where
  pub tidy : Tidy S m
  pub proper : Everywhere (λ l k. WellRecorded S (place_of S l) k) (ledger_in S m).lists

-- a sum for each cell, of b at most
pub record Sums (S : Settings) (sums : List ℕ) (b : ℕ) : Type 0 where
  pub many : length sums ≡ cells S
  pub low : (p q : ℕ) → credit_at S sums p q ≤ b

-- what the nodes of a list may add: 65536 prices of a byte
abbrev pub list_most : ℕ
list_most = 16711680

-- ---- a node

pub record AddsPrice (s : Shape) (sums : List ℕ) (x queue : ℕ) : Type 0 where
  pub home : owner x < s.ports
  pub inside : queue < s.queues
  pub held : Sums (settings_of s) sums (2 ^ 63)

pub record Counted (S : Settings) (m : List ℕ) (x : ℕ) : Type 0 where
  pub node : is_node S x ≡ true
  pub queue_in_range : get S m Queue (slot S x) < S.queues

-- ---- the cells

pub record Settles (s : Shape) (m sums : List ℕ) : Type 0 where
  pub long : size (settings_of s) ≤ length m
  pub held : Sums (settings_of s) sums (list_most * lists (settings_of s))

pub record SettlesAt (s : Shape) (m sums : List ℕ) (c : ℕ) : Type 0 where
  pub all : Settles s m sums
  pub inside : c < cells (settings_of s)
