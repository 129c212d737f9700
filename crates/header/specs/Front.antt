-- The front of a header, from the destination to the reserved zeros: fields of bits in a number of three or four bytes. Assumes nothing.
use Rattle.std.specs.Prelude.{List, [], ◌∷◌, ℕ}
use Rattle.ledger.specs.Header.{Form, spare}
use Rattle.header.specs.declared.Front.{Front}

-- the first six of the widths
abbrev pub front_widths : Form → List ℕ
front_widths F = F.port_bits ∷ F.port_bits ∷ F.queue_bits ∷ 13 ∷ 1 ∷ spare F ∷ []

abbrev pub front_of : Front → List ℕ
front_of f = f.dest ∷ f.source ∷ f.queue ∷ f.len ∷ f.poisoned ∷ f.reserved ∷ []
