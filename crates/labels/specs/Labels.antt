-- Paper 02, Q-7, in C: what the reader of headers and the writer answer and leave in the lent rooms. Assumes nothing.
use Rattle.std.specs.Prelude.{Result, Ok, Err, List, [], ◌∷◌, ◌++◌, ℕ, length, get_or, take, drop}
use Rattle.ledger.specs.Answers.{number_of}
use Rattle.ledger.specs.declared.Refusal.{Refusal}
use Rattle.codec.specs.Label.{Label, Answer, refused, gives}
use Rattle.codec.specs.declared.written.Written.{Written}

-- ---- struct vr_header: destination, source, queue, length, poisoned, timestamp, credit, transaction

-- the label that eight numbers say
abbrev pub label_at : List ℕ → Label
label_at xs = record {
  dest = get_or xs 0 0;
  source = get_or xs 1 0;
  queue = get_or xs 2 0;
  len = get_or xs 3 0;
  poisoned = get_or xs 4 0;
  stamp = get_or xs 5 0;
  offered = get_or xs 6 0;
  transaction = get_or xs 7 0;
}

-- and its numbers
abbrev pub label_numbers : Label → List ℕ
label_numbers v =
    v.dest ∷ v.source ∷ v.queue ∷ v.len ∷ v.poisoned ∷ v.stamp ∷ v.offered ∷ v.transaction ∷ []

-- ---- the reader: 0 and the label's numbers, or the number of the refusal and the room as it was

abbrev pub label_room : Answer Label → List ℕ → ℕ × List ℕ
label_room (refused n) old = (n, old)
label_room (gives v) old = (0, label_numbers v)

-- ---- the writer: 0, the header and, behind it, the room as it was, with the header's size; or the number of the refusal and both as they were

abbrev pub header_room : Answer (List ℕ) → List ℕ → ℕ → ℕ × List ℕ × ℕ
header_room (refused n) old size = (n, old, size)
header_room (gives b) old size = (0, b ++ drop (length b) old, length b)

-- the same of the code's answer, whose bytes are more than the header's: the first n of them over as many of the room's
abbrev pub over : ℕ → List ℕ → List ℕ → List ℕ
over n b old = take n b ++ drop n old

abbrev pub written_room : Result Written Refusal → List ℕ → ℕ → ℕ × List ℕ × ℕ
written_room (Ok w) old size = (0, over w.size w.bytes old, w.size)
written_room (Err r) old size = (number_of r, old, size)
