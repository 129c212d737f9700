-- A checksum fits a byte, whatever the bytes are. Assumes nothing.
use mathlib.Core.List.{List, [], ◌∷◌}
use Prim.Native.Nat.{ℕ, zero, suc, ◌-◌, ◌*◌, ◌%◌, ◌≤◌, ◌<◌}
use native.Mathlib.Omega.{arith}
use native.Mathlib.Decide.{dec_le}
use lib.Bits.{bit_xor, xor_lt}
use Rattle.crc.specs.Crc.{crc_bit, crc_bits, crc_byte, crc_from, crc8}
use Rattle.crc.proofs.Crc.{bit_low, bit_high}

bit_lt : (c : ℕ) → c < 256 → crc_bit c < 256
bit_lt c small = go (dec_le 128 c)
  where
    go : Dec (128 ≤ c) → crc_bit c < 256
    go (yes h) = rw (bit_high c h small) (xor_lt 8 ((c - 128) * 2) 7 (omega arith) (omega arith))
    go (no h) = let low : c < 128 = omega arith in rw (bit_low c low) (omega arith)

bits_lt : (n c : ℕ) → c < 256 → crc_bits n c < 256
unfolding crc_bits
bits_lt zero c small = small
bits_lt (suc n) c small = bits_lt n (crc_bit c) (bit_lt c small)

byte_lt : (c b : ℕ) → c < 256 → crc_byte c b < 256
unfolding crc_byte
byte_lt c b small = bits_lt 8 (bit_xor c (b % 256)) (xor_lt 8 c (b % 256) small (omega arith))

from_lt : (c : ℕ) (bs : List ℕ) → c < 256 → crc_from c bs < 256
unfolding crc_from
from_lt c [] small = small
from_lt c (b ∷ bs) small = from_lt (crc_byte c b) bs (byte_lt c b small)

pub crc8_lt : (bs : List ℕ) → crc8 bs < 256
unfolding crc8
crc8_lt bs = from_lt 0 bs (omega arith)
