-- CRC-8 over the polynomial x^8 + x^2 + x + 1: it starts at 0, takes the highest bit first, and changes nothing at the end.
-- Assumes nothing.
use Rattle.std.specs.Prelude.{cond, ◌≡◌, List, [], ◌∷◌, ℕ, zero, suc, ◌*◌, ◌%◌, ◌<◌, ltb, get_or}
use Rattle.std.specs.Int.Bits.{bit_xor}

-- one bit: shift left, and where a one falls out at the top take the polynomial 0x107 away
unfoldable pub crc_bit : ℕ → ℕ
crc_bit c = cond (ltb c 128) (c * 2) (bit_xor (c * 2) 0x107)

-- n bits, one after the other
unfoldable pub crc_bits : ℕ → ℕ → ℕ
crc_bits zero c = c
crc_bits (suc n) c = crc_bits n (crc_bit c)

-- one byte: it joins the sum so far, and eight bits are shifted out; b is taken below 256, so that the sum fits a byte for any list
unfoldable pub crc_byte : ℕ → ℕ → ℕ
crc_byte c b = crc_bits 8 (bit_xor c (b % 256))

-- the bytes of a list in turn, from the sum c on
unfoldable pub crc_from : ℕ → List ℕ → ℕ
crc_from c [] = c
crc_from c (b ∷ bs) = crc_from (crc_byte c b) bs

unfoldable pub crc8 : List ℕ → ℕ
crc8 bs = crc_from 0 bs

-- a table of the step: entry k is what eight bits leave of k
unfoldable pub Steps : List ℕ → Type 0
Steps t = (k : ℕ) → k < 256 → get_or t k 0 ≡ crc_bits 8 k
