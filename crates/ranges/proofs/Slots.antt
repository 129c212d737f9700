-- Rule (b) of prefetch lists, list by list or item by item. Assumes nothing.
use mathlib.Core.Path.{◌≡◌, refl, sym, ap, ◌∙◌}
use mathlib.Core.Bool.{Bool, true, false, ◌||◌}
use mathlib.Core.List.{List}
use Prim.Native.Nat.{ℕ, suc, ◌+◌, ◌-◌, ◌*◌, ◌/◌, ◌%◌, ◌≤◌, ◌<◌}
use native.Mathlib.Nat.{div-add-mod', div-lt_iff_lt-mul, mod-lt}
use native.Mathlib.Decide.{dec_lt}
use native.Mathlib.Omega.{arith}
use lib.Dec.{ltb, leb}
use Rattle.std.specs.Prelude.{None, Some}
use Rattle.ledger.specs.Settings.{Settings, row}
use Rattle.ledger.specs.Ledger.{place#}
use Rattle.ledger.specs.Sound.{Roomy}
use Rattle.ledger.proofs.Tests.{ltb_no, ltb_not}
use Rattle.ledger.proofs.Places.{row_lt, row_mod}
use Rattle.layout.specs.declared.Table.TheVariants.{Count}
use Rattle.layout.specs.Tables.{lists, get}
use Rattle.ranges.specs.First.{first}
use Rattle.ranges.specs.Ranges.{prefetch_at, low, items, fits_at, few_at, few_in, ranges_found}
use Rattle.ranges.proofs.First.{first_all, first_more}
use Rattle.ranges.proofs.Items.{fits_list, prefetch_lt, prefetch_is}

module _ (S : Settings) (m : List ℕ) (R : Roomy S) where
  -- the last served queues and the map are in range
  abbrev pub Low : Type 0
  Low = first (fits_at S m) (low S) ≡ None

  -- and no prefetch list is longer than there are slots
  abbrev pub Few : Type 0
  Few = (l : ℕ) → l < lists S → few_in S m l ≡ true

  prefetch_column : (j : ℕ) → prefetch_at S j % row S ≡ suc (suc (S.queues + j % S.queues))
  unfolding prefetch_at place# row
  prefetch_column j =
      let q : j % S.queues < S.queues = mod-lt j (omega (arith, R.some_queues)) in
      row_mod (row S) (j / S.queues) _ (omega arith)

  few_item : Few → (j : ℕ) → j < S.ports * S.queues → leb (get S m Count (prefetch_at S j)) S.slots ≡ true
  unfolding few_at
  few_item f j h =
      let e = f (prefetch_at S j) (prefetch_lt S m j (omega (arith, R.some_queues)) h) in
      rw (ltb_not (prefetch_at S j % row S) (2 + S.queues) (omega (arith, prefetch_column j))) at e

  pub low_ranges : Low → Few → ranges_found S m ≡ None
  unfolding ranges_found
  low_ranges e f = (first_all (fits_at S m) (items S)).1 (λ k h. go k h (dec_lt k (low S)))
    where
      go : (k : ℕ) → k < items S → Dec (k < low S) → fits_at S m k ≡ true
      go k h (yes a) = (first_all (fits_at S m) (low S)).0 e k a
      go k h (no a) = fits_list S m k (k - low S) (omega arith) ∙ few_item f (k - low S) (omega arith)

  -- what is found of the last served queues and the map is found of all
  pub low_found : (i : ℕ) → first (fits_at S m) (low S) ≡ Some i → ranges_found S m ≡ Some i
  unfolding ranges_found
  low_found i e = first_more (fits_at S m) (low S) (items S) i (omega arith) e

  pub ranges_low : ranges_found S m ≡ None → Low
  unfolding ranges_found
  ranges_low e = (first_all (fits_at S m) (low S)).1 (λ k h. (first_all (fits_at S m) (items S)).0 e k (omega arith))

  -- each list in such a column is one of them
  prefetch_of : (l : ℕ) → l < lists S → 2 + S.queues ≤ l % row S → (j : ℕ) × (j < S.ports * S.queues) × (prefetch_at S j ≡ l)
  unfolding place# row
  prefetch_of l h n =
      let some : 0 < row S = omega arith in
      let q : ℕ = l % row S - (2 + S.queues) in
      let low : l % row S < row S = mod-lt l some in
      let hq : q < S.queues = omega arith in
      let hp : l / row S < S.ports = (div-lt_iff_lt-mul some).1 h in
      let column : suc (suc (S.queues + q)) ≡ l % row S = omega arith in (
        l / row S * S.queues + q,
        row_lt S.queues S.ports (l / row S) q hp hq,
        prefetch_is S m (l / row S) q hq ∙ ap (λ (c : ℕ). l / row S * row S + c) column ∙ div-add-mod' l (row S),
      )

  item_few : ranges_found S m ≡ None → (j : ℕ) → j < S.ports * S.queues → leb (get S m Count (prefetch_at S j)) S.slots ≡ true
  unfolding ranges_found
  item_few e j h =
      sym (fits_list S m (low S + j) j refl) ∙ (first_all (fits_at S m) (items S)).0 e (low S + j) (omega arith)

  pub ranges_few : ranges_found S m ≡ None → Few
  unfolding few_at
  ranges_few e l h = go (ltb (l % row S) (2 + S.queues)) refl
    where
      go : (b : Bool) → ltb (l % row S) (2 + S.queues) ≡ b → (b || leb (get S m Count l) S.slots) ≡ true
      go true p = refl
      go false p = let f = prefetch_of l h (ltb_no (l % row S) (2 + S.queues) p) in rw f.2 at (item_few e f.0 f.1)
