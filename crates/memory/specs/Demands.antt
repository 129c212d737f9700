-- What is promised over many calls, said of memory: calls are run on the bytes by M, the function that the contracts of the calls name, and
-- a memory shows what it pictures. Assumes nothing.
use Rattle.std.specs.Prelude.{◌≡◌, List, ℕ}
use Rattle.ledger.specs.Settings.{Settings, ten_bytes}
use Rattle.ledger.specs.Ledger.{Ledger}
use Rattle.ledger.specs.Calls.{Reply}
use Rattle.ledger.specs.Desk.{has, Call}
use Rattle.ledger.specs.Demand.{NobodyStarvesFrom}
use Rattle.memory.specs.Memory.{picture, M}

-- a memory takes calls by M
abbrev pub on_memory : List ℕ → Call → Reply × List ℕ
on_memory m c = M c m

-- nobody starves, on any memory that is a switch state, whatever calls come, setting up anew and repairs excepted: by turn
-- queues × (k + 1)
unfoldable pub NobodyStarvesInMemory : Type 0
NobodyStarvesInMemory =
    (m : List ℕ) (S : Settings) (L : Ledger) → picture m ≡ has S L → NobodyStarvesFrom on_memory picture S L S.ports S.queues m

-- and of the ten-byte edition, as paper 01 says it: by turn 24 (k + 1)
unfoldable pub NobodyStarvesInMemory24 : Type 0
NobodyStarvesInMemory24 =
    (m : List ℕ) (S : Settings) (L : Ledger) → picture m ≡ has S L → S.edition ≡ ten_bytes → NobodyStarvesFrom on_memory picture S L 4 24 m
