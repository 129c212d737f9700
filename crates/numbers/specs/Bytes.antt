-- Numbers of k bytes in a list of bytes, and the bytes of a number, the highest byte first. Assumes nothing.
use Rattle.std.specs.Prelude.{List, [], ◌∷◌, ℕ, zero, suc, ◌+◌, ◌*◌, ◌/◌, ◌%◌, ◌^◌, get_or, set}

-- the number whose k bytes stand from place `at` on in m; each byte is taken below 256, so that its bound holds of any list
unfoldable pub number : ℕ → List ℕ → ℕ → ℕ
number zero m at = 0
number (suc k) m at = get_or m at 0 % 256 * 256 ^ k + number k m (suc at)

-- m with the k lowest bytes of v stored from place `at` on
unfoldable pub store : ℕ → List ℕ → ℕ → ℕ → List ℕ
store zero m at v = m
store (suc k) m at v = store k (set m at (v / 256 ^ k % 256)) (suc at) v

-- the k bytes of v, the highest first
unfoldable pub digits : ℕ → ℕ → List ℕ
digits zero v = []
digits (suc k) v = v / 256 ^ k % 256 ∷ digits k v
