-- Rule (a): the settings are in their rows, and the memory is long enough for a state of such settings. Assumes nothing.
use Rattle.std.specs.Prelude.{◌≡◌, refl, Bool, true, false, cond, List, ℕ, ◌*◌, ◌^◌, ◌≤◌, length, leb, ltb, Result, Ok, Err}
use Rattle.ledger.specs.Settings.{Settings, setting_count, row, in_rows, first_out, size}
use Rattle.ledger.specs.Header.{form, least_length}
use Rattle.ledger.specs.Sound.{Roomy}
use Rattle.ledger.proofs.Rows.{roomy}
use Rattle.ledger.proofs.Tests.{and_left}
use Rattle.layout.specs.declared.shape.Shape.{Shape}
use Rattle.layout.specs.declared.Table.TheVariants.{Arrival, Head, Next}
use Rattle.layout.specs.Tables.{cells, lists, all, start_of}
use Rattle.layout.specs.Shapes.{settings_of}
use Rattle.layout.specs.Picture.{settings_in, opens}

-- the shape of a state of these settings
abbrev pub shape_for : (S : Settings) → Roomy S → Shape
shape_for S R = record {
  ports = S.ports;
  queues = S.queues;
  nodes = S.nodes;
  beat = S.beat;
  slots = S.slots;
  credit = S.credit;
  edition = S.edition;
  packets = S.packets;
  row = row S;
  cells = cells S;
  lists = lists S;
  all = all S;
  arrival = start_of S Arrival;
  head = start_of S Head;
  next = start_of S Next;
  least = least_length (form S);
  dests = 2 ^ (form S).port_bits;
  laid = record {
    roomy = R;
    row_is = refl;
    cells_are = refl;
    lists_are = refl;
    all_are = refl;
    arrival_at = refl;
    head_at = refl;
    next_at = refl;
    least_is = refl;
    dests_are = refl;
  };
}

-- the bytes of the settings
abbrev pub settings_bytes : ℕ
settings_bytes = 2 * setting_count

-- what shows rule (a) broken, where it is: the first setting out of its row; numbered after them, that the memory is too short, for the
-- settings themselves too
unfoldable pub out_at : List ℕ → ℕ
out_at m = cond (ltb (length m) settings_bytes) setting_count (first_out (settings_in m))

-- what a memory is opened as
abbrev pub opened_by : (m : List ℕ) (b : Bool) → opens m ≡ b → Result Shape ℕ
opened_by m true e = Ok (shape_for (settings_in m) (roomy (settings_in m) (and_left (in_rows (settings_in m)) (leb (size (settings_in m)) (length m)) e)))
opened_by m false e = Err (out_at m)

unfoldable pub opened : List ℕ → Result Shape ℕ
opened m = opened_by m (opens m) refl

-- what it is to be opened with shape s
pub record Open (m : List ℕ) (s : Shape) : Type 0 where
  pub settings_are : settings_of s ≡ settings_in m
  pub rows : in_rows (settings_in m) ≡ true
  pub long : size (settings_in m) ≤ length m
