-- What the one walk tells, and what that says of the rules. Assumes nothing.
use mathlib.Core.Path.{◌≡◌, refl, sym, ap, ◌∙◌}
use mathlib.Core.Bool.{true, false, false≢true}
use mathlib.Core.List.{List}
use Prim.Native.Nat.{ℕ, ◌-◌, ◌*◌, ◌^◌, ◌≤◌, ◌<◌}
use native.Mathlib.Nat.{mul-le-mul_right}
use native.Mathlib.Omega.{arith}
use Rattle.std.specs.Prelude.{Option, None, Some, Result, Ok, Err, is_some, is_ok}
use Rattle.ledger.specs.declared.Rule.TheVariants.{A, G}
use Rattle.ledger.specs.Settings.{Settings, row}
use Rattle.ledger.specs.Sound.{Roomy}
use Rattle.layout.specs.declared.shape.Shape.{Shape}
use Rattle.layout.specs.Tables.{lists}
use Rattle.layout.specs.Shapes.{settings_of}
use Rattle.layout.proofs.Shapes.{few}
use Rattle.ranges.specs.Opening.{opened, Open}
use Rattle.ranges.proofs.Opening.{open_opens, opened_wrong}
use Rattle.ranges.proofs.Slots.{Low, low_ranges, ranges_few}
use Rattle.fits.specs.declared.NodeRule.{NodeRule}
use Rattle.fits.specs.Fits.{fits_from, fits_found}
use Rattle.fits.specs.Walk.{Walkable}
use Rattle.fits.proofs.Means.{none}
use Rattle.whole.specs.declared.Fault.{Fault}
use Rattle.whole.specs.declared.Fault.TheVariants.{Stuck, Due}
use Rattle.whole.specs.Whole.{Listed, Tells}
use Rattle.halts.specs.Marks.{marks_found}
use Rattle.sound.specs.Sound.{breaks, Clean, Tied, marks_broken, open_broken, broken_in}
use Rattle.sound.proofs.Means.{marks_left, due_broken, passed_once}

module _ (S : Settings) (m : List ℕ) (R : Roomy S) where
  -- the walk meets what (b) says of prefetch lists
  pub clean_listed : Clean S m → Listed S m
  clean_listed c = record { slots = ranges_few S m R c.ranges; once = c.once; fits = c.fits }

  module _ (b : Low S m R) where
    pub kept_broken : Tells S m (Ok tt) → open_broken S m ≡ marks_broken S m
    kept_broken t = marks_left S m (low_ranges S m R b t.0.slots) t.0 t.1

    pub due_told : (c : ℕ) → Tells S m (Err (Due c)) → open_broken S m ≡ Some (breaks G c)
    due_told c t = due_broken S m c (low_ranges S m R b t.0.slots) t.0 t.1

    -- where no mark is wrong, the walk decides
    pub kept_clean : marks_found S m ≡ None → (w : Result Unit Fault) → Tells S m w → is_ok w ≡ true → Clean S m
    kept_clean k (Ok u) t e = record { ranges = low_ranges S m R b t.0.slots; once = t.0.once; fits = t.0.fits; paid = t.1; marked = k }
    kept_clean k (Err f) t e = absurd (false≢true e)

  pub not_kept : (w : Result Unit Fault) → Tells S m w → is_ok w ≡ false → Clean S m → ⊥
  not_kept (Ok u) t e c = false≢true (sym e)
  not_kept (Err (Stuck p)) t e c = t.0 (clean_listed c)
  not_kept (Err (Due i)) t e c = none i (sym t.1 ∙ c.paid)

-- what is found is none, or is told
pub none_is : (r : Option ℕ) → is_some r ≡ false → r ≡ None
none_is None e = refl
none_is (Some i) e = absurd (false≢true (sym e))

pub found_not : (r : Option ℕ) → is_some r ≡ true → r ≡ None → ⊥
found_not r e d = false≢true (ap is_some (sym d) ∙ e)

-- ---- where the walk stuck at a port

-- its first list
pub from_small : {s : Shape} {m : List ℕ} {p : ℕ} → Tied s m p → p * s.row < 2 ^ 64
from_small {s} {m} {p} t =
    let l = s.laid in
    let h : p * row (settings_of s) ≤ lists (settings_of s) = mul-le-mul_right (row (settings_of s)) t.stuck.stuck.1.most in
    rw l.row_is (omega (arith, h, (few (settings_of s) l.roomy).few_lists))

pub walkable : {s : Shape} {m : List ℕ} {p : ℕ} → Tied s m p → Walkable s m
walkable {s} {m} t = let o = t.stuck.opens in record { tidy = passed_once m s o t.once }

-- what (d) to (f) find from there on is what they find
pub from_there : {s : Shape} {m : List ℕ} {p from : ℕ} → Tied s m p → from ≡ p * s.row → (rule : NodeRule)
    → fits_from rule (settings_of s) m from (lists (settings_of s) - from) ≡ fits_found rule (settings_of s) m
from_there {s} {m} {p} t e rule = let l = s.laid in rw (e, l.row_is) (t.stuck.stuck.1.rest rule)

-- and one of them finds something
pub not_stuck : {s : Shape} {m : List ℕ} {p : ℕ} → Tied s m p → ((rule : NodeRule) → fits_found rule (settings_of s) m ≡ None) → ⊥
not_stuck {s} {m} t f =
    t.stuck.stuck.0
    (record { slots = ranges_few (settings_of s) m s.laid.roomy t.ranges; once = t.once; fits = f })

-- ---- rule (a) before all others

pub opened_broken : {m : List ℕ} {s : Shape} → Open m s → open_broken (settings_of s) m ≡ broken_in m
unfolding broken_in
opened_broken {m} o = rw (open_opens o) (ap (λ (S : Settings). open_broken S m) o.settings_are)

pub wrong_broken : (m : List ℕ) (i : ℕ) → opened m ≡ Err i → Some (breaks A i) ≡ broken_in m
unfolding broken_in
wrong_broken m i e = let w = opened_wrong m i e in rw w.0 (ap (λ (j : ℕ). Some (breaks A j)) (sym w.1))
