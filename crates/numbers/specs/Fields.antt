-- Fields of bits in a number, and fields of given widths that make up a number, the first highest. Assumes nothing.
use Rattle.std.specs.Prelude.{Bool, true, false, ◌&&◌, List, [], ◌∷◌, ℕ, ◌+◌, ◌*◌, ◌/◌, ◌%◌, ◌^◌, ◌<◌, ltb}

-- the field of w bits that starts at bit lo of n, where bit 0 is the lowest
unfoldable pub bits : ℕ → ℕ → ℕ → ℕ
bits lo w n = n / 2 ^ lo % 2 ^ w

-- the bits of fields of these widths together
abbrev pub total : List ℕ → ℕ
total [] = 0
total (w ∷ ws) = w + total ws

-- the fields of a number, of these widths, the first highest
abbrev pub unpack : List ℕ → ℕ → List ℕ
unpack [] n = []
unpack (w ∷ ws) n = bits (total ws) w n ∷ unpack ws n

-- the number that has these fields
abbrev pub pack : List ℕ → List ℕ → ℕ
pack [] vs = 0
pack (w ∷ ws) [] = 0
pack (w ∷ ws) (v ∷ vs) = v * 2 ^ total ws + pack ws vs

-- a value for each width, and each fits: as a test, and as a fact
abbrev pub fitting : List ℕ → List ℕ → Bool
fitting [] [] = true
fitting [] (v ∷ vs) = false
fitting (w ∷ ws) [] = false
fitting (w ∷ ws) (v ∷ vs) = ltb v (2 ^ w) && fitting ws vs

abbrev pub Fit : List ℕ → List ℕ → Type 0
Fit [] [] = Unit {0}
Fit [] (v ∷ vs) = ⊥
Fit (w ∷ ws) [] = ⊥
Fit (w ∷ ws) (v ∷ vs) = (v < 2 ^ w) × Fit ws vs
