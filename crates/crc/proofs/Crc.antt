-- The laws of the checksum: what one bit, one byte and one place further give. Assumes nothing.
use mathlib.Core.Path.{◌≡◌, ◌∙◌}
use mathlib.Core.List.{List}
use Prim.Native.Nat.{ℕ, suc, ◌+◌, ◌-◌, ◌*◌, ◌^◌, ◌<◌, ◌≤◌}
use native.Mathlib.Nat.{mod-eq_of_lt, zero-add}
use native.Mathlib.Numerals.{add-one}
use native.Mathlib.Omega.{arith}
use lib.Bits.{bit_xor, xor_block}
use lib.ListN.{length, get_or, drop, drop_of_length-le}
use lib.Seq.{drop-cons}
use borrow.Author.Tests.{lt-ltb, le-ltb}
use Rattle.crc.specs.Crc.{crc_bit, crc_bits, crc_byte, crc_from}

-- one bit, by its two cases
pub bit_low : (c : ℕ) → c < 128 → crc_bit c ≡ c * 2
unfolding crc_bit
bit_low c h = rw (lt-ltb c 128 h)

-- the polynomial's highest bit meets the one that fell out, and both go: what is left of 0x107 is 7
pub bit_high : (c : ℕ) → 128 ≤ c → c < 256 → crc_bit c ≡ bit_xor ((c - 128) * 2) 7
unfolding crc_bit
bit_high c h small =
    let split : c * 2 ≡ 1 * 2 ^ 8 + (c - 128) * 2 = omega arith in
    rw (le-ltb c 128 h, split) (xor_block 8 1 1 ((c - 128) * 2) 7 (omega arith) (omega arith) ∙ zero-add _)

-- a byte below 256 is taken whole, and then one bit at a time
pub byte_starts : (c b : ℕ) → b < 256 → crc_bits 8 (bit_xor c b) ≡ crc_byte c b
unfolding crc_byte
byte_starts c b small = rw (mod-eq_of_lt small)

-- of n bits k were taken: the next, until none is left
pub bits_fall : (n k x : ℕ) → k < n → crc_bits (n - (k + 1)) (crc_bit x) ≡ crc_bits (n - k) x
unfolding crc_bits
bits_fall n k x h = let e : n - k ≡ suc (n - (k + 1)) = omega arith in rw e

pub bits_none : (n k x : ℕ) → n ≤ k → crc_bits (n - k) x ≡ x
unfolding crc_bits
bits_none n k x h = let e : n - k ≡ 0 = omega arith in rw e

-- the byte at place i is the next of those that are left, until none is
pub from_next : (c : ℕ) (bs : List ℕ) (i : ℕ) → i < length bs → crc_from c (drop i bs) ≡ crc_from (crc_byte c (get_or bs i 0)) (drop (i + 1) bs)
unfolding crc_from
from_next c bs i h = rw (add-one, drop-cons bs i 0)

pub from_end : (c : ℕ) (bs : List ℕ) (i : ℕ) → length bs ≤ i → crc_from c (drop i bs) ≡ c
unfolding crc_from
from_end c bs i h = rw (drop_of_length-le bs h)
