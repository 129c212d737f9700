-- What the C interface is told of settings, and what it says of a state's size. Assumes nothing.
use Rattle.std.specs.Prelude.{cond, List, ℕ, get_or}
use Rattle.ledger.specs.Settings.{Settings, in_rows, size}

-- struct vr_settings: nodes, beat, slots, credit, ports, queues, edition, packets
abbrev pub settings_at : List ℕ → Settings
settings_at xs = record {
  ports = get_or xs 4 0;
  queues = get_or xs 5 0;
  nodes = get_or xs 0 0;
  beat = get_or xs 1 0;
  slots = get_or xs 2 0;
  credit = get_or xs 3 0;
  edition = get_or xs 6 0;
  packets = get_or xs 7 0;
}

-- the bytes of a state; 0 if a setting is not in its row
unfoldable pub size_for : Settings → ℕ
size_for S = cond (in_rows S) (size S) 0
