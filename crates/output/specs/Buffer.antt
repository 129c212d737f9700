-- A number's text, byte for byte, and what waits in the buffer after some bytes. Assumes nothing.
use Rattle.std.specs.Prelude.{cond, List, [], ◌∷◌, ◌++◌, ℕ, zero, suc, ◌+◌, ◌/◌, ◌%◌, nat_lt, length}

-- the last k digits of n, the most significant first
abbrev pub last_digits : ℕ → ℕ → List ℕ
last_digits zero n = []
last_digits (suc k) n = last_digits k (n / 10) ++ ((48 + n % 10) ∷ [])

-- how many digits n has in decimal, if there are steps enough: one for each digit
abbrev pub places : ℕ → ℕ → ℕ
places zero n = 0
places (suc steps) n = cond (nat_lt n 10) 1 (suc (places steps (n / 10)))

-- n in decimal, with no zero in front; n + 1 steps are always enough
-- kept: `decimal_is` and `decimal_more` speak of every number, and std's `decimal` stops at 64 digits; below 2 ^ 64 they are one (`decimal_std`)
unfoldable pub decimal : ℕ → List ℕ
decimal n = last_digits (places (suc n) n) n

-- what waits after one byte more: where 4,096 wait, they're written first, and none is left
abbrev pub queued_byte : List ℕ → ℕ → List ℕ
queued_byte waiting b = cond (nat_lt (length waiting) 4096) waiting [] ++ (b ∷ [])

-- and after some bytes
abbrev pub queued : List ℕ → List ℕ → List ℕ
queued waiting [] = waiting
queued waiting (b ∷ bs) = queued (queued_byte waiting b) bs
