-- What the code of one call of a run asks and gives. Assumes nothing.
use Rattle.std.specs.Prelude.{◌≡◌, List, length, ℕ}
use Rattle.ledger.specs.Calls.{Act}
use Rattle.ledger.specs.Rounds.{answer_bytes}
use Rattle.layout.specs.declared.shape.Shape.{Shape}
use Rattle.layout.specs.Shapes.{settings_of}
use Rattle.memory.specs.Judged.{Works}
use Rattle.memory.specs.Memory.{acted}
use Rattle.words.specs.declared.Words.{Words}
use Rattle.words.specs.Kept.{Kept}
use Rattle.asks.specs.Asks.{HeaderIn}
use Rattle.asks.specs.declared.Task.{Task}

-- between two calls of a run: a state, and the words that are kept of it
pub record Going (s : Shape) (m : List ℕ) (words : Words) : Type 0 where
  pub works : Works s m
  pub kept : Kept s m words

-- act a was done on memory m and told in four bytes, and the run can go on
pub record Done (s : Shape) (a : Act) (m m' : List ℕ) (words : Words) (bytes : List ℕ) : Type 0 where
  pub told : bytes ≡ answer_bytes (acted (settings_of s) m a).0
  pub memory : m' ≡ (acted (settings_of s) m a).1
  pub going : Going s m' words

-- a task of a run can be carried out: on a state, with its header in the fields
pub record CanStep (s : Shape) (task : Task) (m fields : List ℕ) (words : Words) : Type 0 where
  pub going : Going s m words
  pub header : HeaderIn (length fields) task
