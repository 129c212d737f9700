-- The step's table: one test, computed over the whole table, finds each entry to be the bitwise step's answer at its place. Assumes nothing.
use mathlib.Core.Path.{◌≡◌, refl, ◌∙◌, ap, sym}
use mathlib.Core.Bool.{Bool, true, false, cond}
use mathlib.Core.List.{List, [], ◌∷◌}
use Prim.Native.Nat.{ℕ, zero, suc, ◌+◌, ◌<◌}
use native.Mathlib.Nat.{add-zero, zero-add, add-suc, suc-add, le_of_suc-le-suc, not-suc-le-zero}
use lib.Dec.{T, eqb, eqb→eq}
use lib.ListN.{length, get_or}
use lib.Bits.{bit_xor, xor_lt}
use Rattle.crc.specs.Crc.{Steps, crc_bit, crc_bits, crc_byte}
use Rattle.crc.specs.declared.table.TheConstants.{TABLE}
use Rattle.crc.proofs.Crc.{byte_starts}

-- each entry is the rule's answer at its place; the places are counted from i
abbrev obeys : (ℕ → ℕ) → ℕ → List ℕ → Bool
obeys rule i [] = true
obeys rule i (x ∷ xs) = cond (eqb x (rule i)) (obeys rule (suc i) xs) false

both : (a b : Bool) → T (cond a b false) → T a × T b
both true b t = (tt, t)
both false b t = absurd t

entry : (rule : ℕ → ℕ) (xs : List ℕ) (i : ℕ) → T (obeys rule i xs) → (k : ℕ) → k < length xs → get_or xs k 0 ≡ rule (i + k)
entry rule [] i t k h = absurd (not-suc-le-zero h)
entry rule (x ∷ xs) i t zero h = eqb→eq x (rule i) (both (eqb x (rule i)) (obeys rule (suc i) xs) t).0 ∙ ap rule (sym (add-zero i))
entry rule (x ∷ xs) i t (suc k) h =
    entry rule xs (suc i) (both (eqb x (rule i)) (obeys rule (suc i) xs) t).1 k (le_of_suc-le-suc h)
    ∙ ap rule (suc-add i k ∙ sym (add-suc i k))

-- a table that passes is the step's, and the step's table answers as the step does
pub tested : (t : List ℕ) → T (obeys (crc_bits 8) 0 t) → length t ≡ 256 → Steps t
unfolding Steps
tested t all size k h = entry (crc_bits 8) t 0 all k (rw size h) ∙ ap (crc_bits 8) (zero-add k)

pub step_at : (t : List ℕ) → Steps t → (k : ℕ) → k < 256 → get_or t k 0 ≡ crc_bits 8 k
unfolding Steps
step_at t is = is

-- the code's table is one
pub table_right : Steps TABLE
unfolding crc_bit crc_bits
table_right = tested TABLE tt refl

-- so a byte's entry is found by the sum and the byte, joined
pub byte_entry : (c b : ℕ) → c < 256 → b < 256 → get_or TABLE (bit_xor c b) 0 ≡ crc_byte c b
byte_entry c b small few = step_at TABLE table_right (bit_xor c b) (xor_lt 8 c b small few) ∙ byte_starts c b few
