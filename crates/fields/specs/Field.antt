-- The field at a place of the bytes: a tag of one byte, a length of two, and a value of that length. Assumes nothing.
use Rattle.std.specs.Prelude.{cond, List, ℕ, ◌+◌, leb, length}
use Rattle.numbers.specs.Bytes.{number}
use Rattle.fields.specs.declared.Field.{Field}
use Rattle.fields.specs.declared.Field.TheVariants.{Whole, Cut, End}

-- the length that the field at a place gives its value
abbrev pub length_at : List ℕ → ℕ → ℕ
length_at s at = number 2 s (at + 1)

-- past the field at a place
abbrev pub next_at : List ℕ → ℕ → ℕ
next_at s at = at + 3 + length_at s at

-- no bytes left: the end; all of the field's there: the field; else it is cut
unfoldable pub field_at : List ℕ → ℕ → Field
field_at s at =
    cond (leb (length s) at) End
    (cond (leb (next_at s at) (length s)) (Whole (number 1 s at) (at + 3) (length_at s at) (next_at s at)) Cut)
