-- Paper 02, Q-7: the writer of headers. Assumes nothing.
use Rattle.std.specs.Prelude.{Result, Ok, Err, Bool, not, ◌&&◌, ◌⊎◌, ◌≡◌, List, [], ◌∷◌, ◌++◌, ℕ, ◌-◌, ◌<◌, ◌≤◌, ltb, leb, length, replicate}
use Rattle.numbers.specs.Bytes.{digits}
use Rattle.numbers.specs.Fields.{pack, fitting, Fit}
use Rattle.crc.specs.Crc.{crc8}
use Rattle.ledger.specs.Header.{Form, form_of, widths, body_size, least_length}
use Rattle.ledger.specs.Rules.{Rule, refuse, guard}
use Rattle.ledger.specs.Answers.{number_of}
use Rattle.ledger.specs.declared.Refusal.{Refusal}
use Rattle.codec.specs.Label.{Label, values, counts_in, Answer, refused, gives}
use Rattle.codec.specs.declared.written.Written.{Written}

-- what a header of form F in a switch of n queues can say: each value fits its field, its length is the least or more, and the switch has its
-- queue
unfoldable pub holds : Form → ℕ → Label → Bool
holds F n v = fitting (widths F) (values v) && (leb (least_length F) v.len && ltb v.queue n)

-- the bytes before the checksum, and all of them
unfoldable pub body_for : Form → Label → List ℕ
body_for F v = digits (body_size F) (pack (widths F) (values v))

unfoldable pub header_for : Form → Label → List ℕ
header_for F v = body_for F v ++ (crc8 (body_for F v) ∷ [])

-- "the writer refuses with 21 exactly if a value doesn't fit its field, its length is under the least or its queue isn't in the switch"
abbrev pub writer_rules : ℕ → ℕ → ℕ → Label → List Rule
writer_rules e p q v = refuse 2 (not (counts_in e p q)) ∷ refuse 21 (not (holds (form_of e p q) q v)) ∷ []

abbrev pub writes : ℕ → ℕ → ℕ → Label → Answer (List ℕ)
writes e p q v = guard (writer_rules e p q v) refused (gives (header_for (form_of e p q) v))

-- those cases, as facts
abbrev pub Misfit : Form → ℕ → Label → Type 0
Misfit F n v = (Fit (widths F) (values v) → ⊥) ⊎ ((v.len < least_length F) ⊎ (n ≤ v.queue))

-- ---- what the code's answer means

-- the writer's room is always twelve bytes: zeros follow the header
abbrev pub padded : List ℕ → List ℕ
padded b = b ++ replicate (12 - length b) 0

-- so many of a header's bytes, and all twelve
pub record IsHeader (w : Written) (b : List ℕ) : Type 0 where
  pub size : w.size ≡ length b
  pub bytes : w.bytes ≡ padded b

abbrev pub Answers : Result Written Refusal → Answer (List ℕ) → Type 0
Answers (Ok w) (gives b) = IsHeader w b
Answers (Ok w) (refused n) = ⊥
Answers (Err r) (gives b) = ⊥
Answers (Err r) (refused n) = number_of r ≡ n
