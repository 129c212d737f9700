-- The laws of the field at a place: each answer by its tests, and where a whole field stands. Assumes nothing.
use mathlib.Core.Path.{◌≡◌, refl, subst}
use mathlib.Core.Bool.{Bool, true, false, cond}
use mathlib.Core.List.{List}
use Prim.Native.Nat.{ℕ, ◌+◌, ◌<◌, ◌≤◌}
use native.Mathlib.Omega.{arith}
use lib.Dec.{leb}
use lib.ListN.{length}
use borrow.Author.Tests.{le-leb, lt-leb, leb-true}
use Rattle.numbers.specs.Bytes.{number}
use Rattle.fields.specs.Field.{length_at, next_at, field_at}
use Rattle.fields.specs.declared.Field.{Field}
use Rattle.fields.specs.declared.Field.TheVariants.{Whole, Cut, End}

module _ (s : List ℕ) (at : ℕ) where
  pub field_end : length s ≤ at → field_at s at ≡ End
  unfolding field_at
  field_end h = rw (le-leb (length s) at h)

  pub field_cut : at < length s → length s < next_at s at → field_at s at ≡ Cut
  unfolding field_at
  field_cut h short = rw (lt-leb (length s) at h, lt-leb (next_at s at) (length s) short)

  pub field_whole : next_at s at ≤ length s → field_at s at ≡ Whole (number 1 s at) (at + 3) (length_at s at) (next_at s at)
  unfolding field_at
  field_whole fits = rw (lt-leb (length s) at (omega arith), le-leb (next_at s at) (length s) fits)

-- a whole field's value stands right after the tag and the length, up to the next field, and all of it is there
pub record Inside (s : List ℕ) (at v len next : ℕ) : Type 0 where
  pub starts : v ≡ at + 3
  pub ends : next ≡ v + len
  pub within : next ≤ length s

abbrev Stands : List ℕ → ℕ → Field → Type 0
Stands s at (Whole tag v len next) = Inside s at v len next
Stands s at Cut = Unit
Stands s at End = Unit

stands : (s : List ℕ) (at : ℕ) → Stands s at (field_at s at)
unfolding field_at
stands s at = go (leb (length s) at) (leb (next_at s at) (length s)) refl
  where
    go : (a b : Bool) → leb (next_at s at) (length s) ≡ b →
        Stands s at (cond a End (cond b (Whole (number 1 s at) (at + 3) (length_at s at) (next_at s at)) Cut))
    go true b e = tt
    go false true e = record { starts = refl; ends = refl; within = leb-true (next_at s at) (length s) e }
    go false false e = tt

pub whole_inside : (s : List ℕ) (at tag v len next : ℕ) → field_at s at ≡ Whole tag v len next → Inside s at v len next
whole_inside s at tag v len next e = subst (Stands s at) e (stands s at)
