-- What judging a header gives, and what the code's answer means. Assumes nothing.
use Rattle.std.specs.Prelude.{Result, Ok, Err, Bool, not, List, [], ◌∷◌, ℕ, take, eqb, ltb, leb}
use Rattle.crc.specs.Crc.{crc8}
use Rattle.ledger.specs.Header.{Form, Fields, fields_of, body_size, least_length, read_rules, Load, bytes_in, size_number, missized, arrival_rules}
use Rattle.ledger.specs.Rules.{Rule, refuse, guard}
use Rattle.ledger.specs.Answers.{number_of}
use Rattle.ledger.specs.declared.Refusal.{Refusal}
use Rattle.header.specs.Parse.{header_of}
use Rattle.header.specs.declared.HeaderFields.{HeaderFields}

pub data Verdict : Type 0 where
  bad : ℕ → Verdict
  good : Fields → Verdict

-- the first refusal of what arrives at port p of a switch of n queues, by its number, or else the header's fields
abbrev pub verdict : Form → ℕ → ℕ → Load → Verdict
verdict F n p h = guard (arrival_rules F n p h) bad (good (fields_of F (bytes_in h)))

-- of a header that arrives nowhere: its source is not asked
abbrev pub readable : Form → ℕ → List ℕ → Verdict
readable F n h = guard (read_rules F n h) bad (good (fields_of F h))

abbrev pub verdict_of : Result HeaderFields Refusal → Verdict
verdict_of (Ok f) = good (header_of f)
verdict_of (Err r) = bad (number_of r)

-- ---- in two parts: what is asked before the source, of the bytes, and what after it, of the fields

abbrev pub byte_rules : Form → Load → List Rule
byte_rules F h =
    refuse (size_number h) (missized F h)
    ∷ refuse 7 (not (eqb (fields_of F (bytes_in h)).check (crc8 (take (body_size F) (bytes_in h)))))
    ∷ refuse 20 (not (eqb (fields_of F (bytes_in h)).reserved 0))
    ∷ []

-- and how many bytes there are for the length that they say
abbrev pub field_rules : Form → ℕ → Bool → Fields → List Rule
field_rules F n miscounted f = refuse 9 (ltb f.len (least_length F)) ∷ refuse 16 miscounted ∷ refuse 19 (leb n f.queue) ∷ []

abbrev pub opened : Form → Load → Verdict
opened F h = guard (byte_rules F h) bad (good (fields_of F (bytes_in h)))

abbrev pub settled : Form → ℕ → Bool → Fields → Verdict
settled F n miscounted f = guard (field_rules F n miscounted f) bad (good f)
