-- The marks and the sums that are lent: there are enough, and all are 0. Assumes nothing.
use mathlib.Core.Path.{◌≡◌, refl, ap, ◌∙◌}
use mathlib.Core.List.{List, ◌∷◌}
use Prim.Native.Nat.{ℕ, zero, suc, ◌*◌, ◌≤◌}
use native.Mathlib.Nat.{le_of_suc-le-suc}
use native.Mathlib.Omega.{arith}
use lib.ListN.{length, take, replicate, length-replicate}
use Rattle.ledger.specs.Settings.{Settings}
use Rattle.layout.specs.declared.shape.Shape.{Shape}
use Rattle.layout.specs.Tables.{all}
use Rattle.layout.specs.Held.{Lays}
use Rattle.layout.specs.Shapes.{settings_of}
use Rattle.layout.proofs.Shapes.{few}
use Rattle.ranges.specs.Opening.{Open}
use Rattle.ranges.proofs.Opening.{open_held}
use Rattle.once.specs.Walks.{Blank}
use Rattle.once.proofs.Bits.{marks_none}
use Rattle.whole.specs.Walks.{AllLent}

-- as many nodes and credits as a state may have
pub most : {S : Settings} {r c l a at head next least dests : ℕ} → Lays S r c l a at head next least dests → (a ≤ 65536) × (c ≤ 2016)
most {S} k = let f = few S k.roomy in (rw k.all_are f.few_all, rw k.cells_are f.few_cells)

pub part_zeros : (n k : ℕ) → n ≤ k → take {A = ℕ} n (replicate k 0) ≡ replicate n 0
part_zeros zero k h = refl
part_zeros (suc n) zero h = absurd (omega arith)
part_zeros (suc n) (suc k) h = ap (λ (l : List ℕ). 0 ∷ l) (part_zeros n k (le_of_suc-le-suc h))

pub part_long : (n k : ℕ) → n ≤ k → length (take {A = ℕ} n (replicate k 0)) ≡ n
part_long n k h = ap length (part_zeros n k h) ∙ length-replicate n 0

-- the marks in k bytes that are lent, where k is enough
pub blank : {m : List ℕ} {s : Shape} → Open m s → (k : ℕ) → s.all ≤ 8 * k → Blank s m (replicate k 0)
blank {m} {s} o k h =
    let room : all (settings_of s) ≤ 8 * k = omega (arith, s.laid.all_are) in
    record {
      marks = record { room = rw (length-replicate {A = ℕ} k 0) room };
      long = (open_held o).long;
      clear = marks_none (settings_of s) k room;
    }

-- and the sums of k with them
pub all_lent : {m marks : List ℕ} {s : Shape} → Blank s m marks → (k : ℕ) → s.cells ≤ k → AllLent s m marks (take s.cells (replicate k 0))
all_lent {s = s} b k h = record { blank = b; zeros = part_zeros _ k h ∙ ap (λ (n : ℕ). replicate n 0) s.laid.cells_are }
