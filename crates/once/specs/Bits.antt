-- The marks of a walk, eight to a byte, the first in the lowest bit. Assumes nothing.
use Rattle.std.specs.Prelude.{List, ℕ, ◌/◌, ◌%◌, ◌^◌, get_or, set, bit_or}
use Rattle.std.specs.Int.{bit_at}
use Rattle.ledger.specs.Settings.{Settings}
use Rattle.layout.specs.Tables.{all}
use Rattle.layout.specs.Picture.{tabulate}

-- the mark of element i
unfoldable pub mark_at : List ℕ → ℕ → ℕ
mark_at bs i = bit_at (get_or bs (i / 8) 0) (i % 8)

-- the bytes with it set
unfoldable pub set_mark : List ℕ → ℕ → List ℕ
set_mark bs i = set bs (i / 8) (bit_or (get_or bs (i / 8) 0) (2 ^ (i % 8)))

-- the marks of a switch's nodes
unfoldable pub marks_in : Settings → List ℕ → List ℕ
marks_in S bs = tabulate (mark_at bs) 0 (all S)
