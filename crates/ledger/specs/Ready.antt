-- Which queues are ready, the ready word, and the queue that a turn picks. Assumes nothing.
use Rattle.std.specs.Prelude.{Bool, true, false, cond, ◌||◌, List, [], ◌∷◌, ℕ, zero, suc, ◌+◌, ◌*◌, ◌/◌, ◌^◌, eqb, leb}
use Rattle.std.specs.Int.Count.{count_trailing_zeros}
use Rattle.ledger.specs.Settings.{Settings}
use Rattle.ledger.specs.Ledger.{Packet, prefetched, Ledger, list_at, outward_of}

-- "if its prefetch list isn't empty and it is queue 0 or its outward credit covers the oldest packet's price"
abbrev pub covered : ℕ → ℕ → List Packet → Bool
covered q credit [] = false
covered q credit (k ∷ ks) = eqb q 0 || leb k.price credit

unfoldable pub is_ready : Settings → Ledger → ℕ → ℕ → Bool
is_ready S L p q = covered q (outward_of S L p q) (list_at S L (prefetched p q))

abbrev pub bit : Bool → ℕ
bit true = 1
bit false = 0

-- the number whose bit q, for q below n, says r q
unfoldable pub word_of : (ℕ → Bool) → ℕ → ℕ
word_of r zero = 0
word_of r (suc n) = bit (r 0) + 2 * word_of (λ q. r (suc q)) n

-- how many q below n have r q
unfoldable pub count_of : (ℕ → Bool) → ℕ → ℕ
count_of r zero = 0
count_of r (suc n) = bit (r 0) + count_of (λ q. r (suc q)) n

unfoldable pub ready_word : Settings → Ledger → ℕ → ℕ
ready_word S L p = word_of (is_ready S L p) S.queues

-- a ready word's bits; no switch has more queues
abbrev pub word_bits : ℕ
word_bits = 64

-- the word with its bits up to the last served queue cleared
unfoldable pub masked_above : ℕ → ℕ → ℕ
masked_above m w = w / 2 ^ suc m * 2 ^ suc m

-- "the lowest set bit above the last served queue in the ready word, or, if there is none, the lowest set bit of all"
unfoldable pub pick : ℕ → ℕ → ℕ
pick m w = cond (eqb (masked_above m w) 0) (count_trailing_zeros word_bits w) (count_trailing_zeros word_bits (masked_above m w))
