-- What is known of the words that are kept from call to call. Assumes nothing.
use Rattle.std.specs.Prelude.{Bool, ◌≡◌, ◌≢◌, List, ℕ, ◌+◌, ◌*◌, ◌/◌, ◌%◌, ◌^◌, ◌<◌, get_or, None, Some}
use Rattle.ledger.specs.Ready.{bit, is_ready, ready_word}
use Rattle.layout.specs.declared.shape.Shape.{Shape}
use Rattle.layout.specs.Shapes.{settings_of}
use Rattle.layout.specs.Picture.{ledger_in}
use Rattle.words.specs.declared.Words.{Words}
use Rattle.memory.specs.Judged.{Works}

-- the word of port r is its ready word, if it is made
abbrev pub Right : Shape → List ℕ → Words → ℕ → Type 0
Right s m words r = (w : ℕ) → get_or words.made r None ≡ Some w → w ≡ ready_word (settings_of s) (ledger_in (settings_of s) m) r

-- every word that is made is its port's ready word
pub record Kept (s : Shape) (m : List ℕ) (words : Words) : Type 0 where
  pub right : (r : ℕ) → r < s.ports → Right s m words r

-- the word of a port of a state can be asked for
pub record CanAsk (s : Shape) (p : ℕ) (m : List ℕ) (words : Words) : Type 0 where
  pub works : Works s m
  pub port : p < s.ports
  pub kept : Kept s m words

-- the other ports' words are right, and the word of p but for bit q, which is made again
pub record Stale (s : Shape) (p q : ℕ) (m : List ℕ) (words : Words) : Type 0 where
  pub works : Works s m
  pub port : p < s.ports
  pub queue : q < s.queues
  pub others : (r : ℕ) → r < s.ports → r ≢ p → Right s m words r
  pub ours :
      (w : ℕ) → get_or words.made p None ≡ Some w
      → ready_word (settings_of s) (ledger_in (settings_of s) m) p + w / 2 ^ q % 2 * 2 ^ q
      ≡ w + bit (is_ready (settings_of s) (ledger_in (settings_of s) m) p q) * 2 ^ q

-- a word whose bit q can be made b: it stays below 2 to the 64
pub record CanSet (word q : ℕ) (b : Bool) : Type 0 where
  pub low : q < 64
  pub fits : word + bit b * 2 ^ q < 2 ^ 64 + word / 2 ^ q % 2 * 2 ^ q
