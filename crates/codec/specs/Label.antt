-- Paper 02, Q-7: a header's label, which the reader hands back and the writer is handed, and the counts that both are told. Assumes nothing.
use Rattle.std.specs.Prelude.{Bool, ◌&&◌, List, [], ◌∷◌, ℕ, leb}
use Rattle.ledger.specs.Settings.{ports_in, queues_in, wide}
use Rattle.ledger.specs.Header.{Fields}
use Rattle.codec.specs.declared.Label as code

-- what a header says; its reserved bits and its checksum are fixed by the rest
pub record Label : Type 0 where
  pub dest : ℕ
  pub source : ℕ
  pub queue : ℕ
  pub len : ℕ
  pub poisoned : ℕ
  pub stamp : ℕ
  pub offered : ℕ
  pub transaction : ℕ

abbrev pub label_of : Fields → Label
label_of f = record {
  dest = f.dest;
  source = f.source;
  queue = f.queue;
  len = f.len;
  poisoned = f.poisoned;
  stamp = f.stamp;
  offered = f.offered;
  transaction = f.transaction;
}

-- the values before the checksum, in the order of their fields, with zero for the reserved bits
abbrev pub values : Label → List ℕ
values v =
    v.dest ∷ v.source ∷ v.queue ∷ v.len ∷ v.poisoned ∷ 0 ∷ v.stamp ∷ v.offered ∷ v.transaction ∷ []

-- those of the front: up to the reserved bits
abbrev pub front_values : Label → List ℕ
front_values v = v.dest ∷ v.source ∷ v.queue ∷ v.len ∷ v.poisoned ∷ 0 ∷ []

-- "port and queue counts join setup, reader and writer, with refusal 2 outside their rows"; so does the edition
unfoldable pub counts_in : ℕ → ℕ → ℕ → Bool
counts_in e p q = ports_in e p && (queues_in e q && leb e wide)

-- the number of a refusal, or what was asked for
pub data Answer (X : Type 0) : Type 0 where
  refused : ℕ → Answer X
  gives : X → Answer X

-- the code's label, each number under the definition's name
abbrev pub label_in : code.Label → Label
label_in v = record {
  dest = v.destination;
  source = v.source;
  queue = v.queue;
  len = v.length;
  poisoned = v.poisoned;
  stamp = v.timestamp;
  offered = v.credit;
  transaction = v.transaction;
}
