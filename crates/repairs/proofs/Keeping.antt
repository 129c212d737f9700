-- That a map put back over setup's bytes makes a repair. Assumes nothing.
use Rattle.std.proofs.Common.{◌≡◌, ℕ, ◌+◌, List, get_or, refl, add-one}
use Rattle.ledger.specs.Settings.{Settings, ids}
use Rattle.layout.specs.declared.shape.Shape.{Shape}
use Rattle.layout.specs.declared.Table.{Table}
use Rattle.layout.specs.declared.Table.TheVariants.{Mapped}
use Rattle.layout.specs.Tables.{put}
use Rattle.layout.specs.Shapes.{settings_of}
use Rattle.memory.specs.Image.{fill, setup_mem}
use Rattle.memory.specs.Repair.{repair_mem}
use Rattle.memory.proofs.Repair.{fill_ext}
use Rattle.repairs.specs.Kept.{Mends}

-- a fill of nothing, and of one element more
pub fill_none : (S : Settings) (t : Table) (g f : ℕ → ℕ) (m : List ℕ) → fill S t g f 0 m ≡ m
unfolding fill
fill_none S t g f m = refl

pub fill_more : (S : Settings) (t : Table) (g f : ℕ → ℕ) (i : ℕ) (m : List ℕ) → fill S t g f (i + 1) m ≡ put S t (g i) (f i) (fill S t g f i m)
unfolding fill
fill_more S t g f i m = rw add-one

-- what the search may use of a fill
pub ruleset keeping = (fill_none, fill_more)

pub put_back_repairs : {s : Shape} {m map : List ℕ} → Mends s m map
    → fill (settings_of s) Mapped (λ i. i) (λ i. get_or map i 0) ids (setup_mem (settings_of s) m) ≡ repair_mem (settings_of s) m
unfolding repair_mem
put_back_repairs {s} {m} {map} w = fill_ext (settings_of s) Mapped (λ i. i) (λ i. get_or map i 0) _ ids (setup_mem (settings_of s) m) w.entry
