-- Paper 02, Q-7: the reader of headers. Assumes nothing.
use Rattle.std.specs.Prelude.{Result, Ok, Err, not, List, ◌∷◌, ℕ}
use Rattle.ledger.specs.Header.{form_of, fields_of, read_rules}
use Rattle.ledger.specs.Rules.{Rule, refuse, guard}
use Rattle.ledger.specs.Answers.{number_of}
use Rattle.ledger.specs.declared.Refusal.{Refusal}
use Rattle.codec.specs.Label.{Label, label_of, label_in, counts_in, Answer, refused, gives}
use Rattle.codec.specs.declared.Label as code

-- "The reader's order is 2, 6, 7, 20, 9, 19": an arrival's, without its source
abbrev pub reader_rules : ℕ → ℕ → ℕ → List ℕ → List Rule
reader_rules e p q h = refuse 2 (not (counts_in e p q)) ∷ read_rules (form_of e p q) q h

abbrev pub reads : ℕ → ℕ → ℕ → List ℕ → Answer Label
reads e p q h = guard (reader_rules e p q h) refused (gives (label_of (fields_of (form_of e p q) h)))

abbrev pub read_of : Result code.Label Refusal → Answer Label
read_of (Ok v) = gives (label_in v)
read_of (Err r) = refused (number_of r)
