-- What a shape holds, over its numbers. Assumes nothing.
use Rattle.std.specs.Prelude.{ℕ, ◌^◌, ◌≡◌}
use Rattle.ledger.specs.Settings.{Settings, row}
use Rattle.ledger.specs.Header.{form, least_length}
use Rattle.ledger.specs.Sound.{Roomy}
use Rattle.layout.specs.declared.Table.TheVariants.{Arrival, Head, Next}
use Rattle.layout.specs.Tables.{cells, lists, all, start_of}

-- settings by their numbers
abbrev pub settings_by : ℕ → ℕ → ℕ → ℕ → ℕ → ℕ → ℕ → ℕ → Settings
settings_by P Q N b D K e k = record {
  ports = P;
  queues = Q;
  nodes = N;
  beat = b;
  slots = D;
  credit = K;
  edition = e;
  packets = k;
}

-- these numbers are what the settings say, and the settings are a switch's
pub record Lays (S : Settings) (of_row of_cells of_lists of_all of_arrival of_head of_next of_least of_dests : ℕ) : Type 0 where
  pub roomy : Roomy S
  pub row_is : of_row ≡ row S
  pub cells_are : of_cells ≡ cells S
  pub lists_are : of_lists ≡ lists S
  pub all_are : of_all ≡ all S
  pub arrival_at : of_arrival ≡ start_of S Arrival
  pub head_at : of_head ≡ start_of S Head
  pub next_at : of_next ≡ start_of S Next
  pub least_is : of_least ≡ least_length (form S)
  pub dests_are : of_dests ≡ 2 ^ (form S).port_bits
