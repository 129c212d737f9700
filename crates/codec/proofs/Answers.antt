-- Reader and writer have one outcome each: an answer's meaning determines it, so any two that the contract allows are identical, the writer's
-- size and its twelve bytes too. The contract is what the toolchain reads of the function's own `ensures`. Assumes nothing.
use mathlib.Core.Path.{◌≡◌, refl, sym, ap, ◌∙◌, subst}
use mathlib.Core.List.{List}
use Prim.Native.Nat.{ℕ, ◌≤◌}
use native.Mathlib.Bridge.{le_prop}
use Rattle.std.specs.Prelude.{Result, Ok, Err}
use Rattle.ledger.specs.Outcome.{OneOutcome}
use Rattle.ledger.specs.declared.Refusal.{Refusal}
use Rattle.ledger.proofs.Answers.{number_inj}
use Rattle.codec.specs.Label.{Label, label_in, Answer, refused, gives}
use Rattle.codec.specs.Reader.{read_of}
use Rattle.codec.specs.Writer.{IsHeader, Answers}
use Rattle.codec.specs.declared.Label as code
use Rattle.codec.specs.declared.written.Written.{Written}
use Rattle.codec.specs.contracts.read
use Rattle.codec.proofs.read.Reads as read_says
use Rattle.codec.specs.contracts.write
use Rattle.codec.proofs.write.Reads as write_says

-- ---- the reader

back : Label → code.Label
back v = record {
  destination = v.dest;
  source = v.source;
  queue = v.queue;
  length = v.len;
  poisoned = v.poisoned;
  timestamp = v.stamp;
  credit = v.offered;
  transaction = v.transaction;
}

pub label_inj : (v w : code.Label) → label_in v ≡ label_in w → v ≡ w
unfolding back
label_inj v w e = ap back e

pub read_inj : (x y : Result code.Label Refusal) → read_of x ≡ read_of y → x ≡ y
read_inj (Ok v) (Ok w) e = cc (label_inj v w (cc))
read_inj (Ok v) (Err s) e = cc
read_inj (Err r) (Ok w) e = cc
read_inj (Err r) (Err s) e = cc (number_inj r s (cc))

pub read_one : OneOutcome read.ended read_says.Learnt
read_one κs a r r₂ left left₂ p q = (read_inj r r₂ (p ∙ sym q), refl)

-- ---- the writer

-- a size and twelve bytes are all that it has: that the size is small has one proof
written_by : (w : Written) (n : ℕ) (b : List ℕ) → w.size ≡ n → w.bytes ≡ b → (few : n ≤ 12) → w ≡ record { size = n; bytes = b; few = few }
written_by w n b size bytes =
    subst (λ (n : ℕ). (few : n ≤ 12) → w ≡ record { size = n; bytes = b; few = few }) size
    (λ few. λ i. record { size = w.size; bytes = bytes i; few = le_prop w.few few i })

header_one : (w w₂ : Written) (b : List ℕ) → IsHeader w b → IsHeader w₂ b → w ≡ w₂
header_one w w₂ b k k₂ = written_by w w₂.size w₂.bytes (k.size ∙ sym k₂.size) (k.bytes ∙ sym k₂.bytes) w₂.few

pub written_one : (w w₂ : Result Written Refusal) (a : Answer (List ℕ)) → Answers w a → Answers w₂ a → w ≡ w₂
written_one (Ok w) (Ok w₂) (gives b) k k₂ = ap Ok (header_one w w₂ b k k₂)
written_one (Ok w) (Ok w₂) (refused n) k k₂ = absurd k
written_one (Ok w) (Err s) (gives b) k k₂ = absurd k₂
written_one (Ok w) (Err s) (refused n) k k₂ = absurd k
written_one (Err r) (Ok w₂) (gives b) k k₂ = absurd k
written_one (Err r) (Ok w₂) (refused n) k k₂ = absurd k₂
written_one (Err r) (Err s) (gives b) k k₂ = absurd k
written_one (Err r) (Err s) (refused n) k k₂ = ap Err (number_inj r s (k ∙ sym k₂))

pub write_one : OneOutcome write.ended write_says.Learnt
write_one κs a r r₂ left left₂ p q = (written_one r r₂ _ p q, refl)
