-- The highest of some numbers, and what it says of the map. Assumes nothing.
use mathlib.Core.Path.{◌≡◌, refl, sym, ap, ◌∙◌}
use mathlib.Core.List.{List, [], ◌∷◌}
use Prim.Native.Nat.{ℕ, zero, suc, ◌+◌, ◌-◌, ◌≤◌, ◌<◌, max}
use native.Mathlib.Numerals.{add-one}
use native.Mathlib.Decide.{ℕ_discrete}
use native.Mathlib.Omega.{arith}
use Rattle.ledger.specs.Settings.{Settings, ids}
use Rattle.ledger.specs.Ledger.{last, mapped}
use Rattle.ledger.proofs.Tests.{ltb_is}
use Rattle.layout.specs.declared.Table.TheVariants.{Mapped}
use Rattle.layout.specs.Tables.{get}
use Rattle.ranges.specs.First.{first}
use Rattle.ranges.specs.Ranges.{low, highest, fits_at}
use Rattle.ranges.proofs.First.{first_enough}
use Rattle.ranges.proofs.Items.{fits_number}

-- each is at most the highest
each_le : (f : ℕ → ℕ) (n i : ℕ) → i < n → f i ≤ highest f n
unfolding highest
each_le f zero i h = absurd (omega arith)
each_le f (suc n) i h = go (ℕ_discrete i n) (each_le f n i)
  where
    go : Dec (i ≡ n) → (i < n → f i ≤ highest f n) → f i ≤ max (highest f n) (f n)
    go (yes e) rest = omega (arith, ap f e)
    go (no e) rest = omega (arith, rest (omega arith))

pub highest_next : (f : ℕ → ℕ) (n top : ℕ) → top ≡ highest f n → max top (f n) ≡ highest f (n + 1)
unfolding highest
highest_next f n top e = rw (add-one n, e)

pub highest_none : (f : ℕ → ℕ) → 0 ≡ highest f 0
unfolding highest
highest_none f = refl

-- where the highest entry of the map is a port, the last served queues decide
pub last_decide : (S : Settings) (m : List ℕ) → highest (get S m Mapped) ids < S.ports → first (fits_at S m) S.ports ≡ first (fits_at S m) (low S)
last_decide S m h =
    sym (first_enough (fits_at S m) S.ports (low S) (omega arith) (λ i past below.
    let d : i - S.ports < ids = omega arith in
    fits_number S m (last ∷ []) [] mapped refl i (i - S.ports) (omega arith) d
    ∙ ltb_is (get S m Mapped (i - S.ports)) S.ports (omega (arith, each_le (get S m Mapped) ids (i - S.ports) d))))
