-- The ledger's columns: a law for all of them, and what changing one leaves. Assumes nothing.
use mathlib.Core.Path.{◌≡◌, refl, sym, ap, ◌∙◌, subst}
use mathlib.Core.Logic.{◌≢◌}
use mathlib.Core.List.{List, [], ◌∷◌}
use Prim.Native.Nat.{ℕ, ◌<◌}
use native.Mathlib.Omega.{arith}
use native.Mathlib.Decide.{ℕ_discrete}
use lib.ListN.{length, get_or}
use Rattle.ledger.specs.Ledger.{Column, arrival, outward, last, mapped, halted, buckets, column#, Ledger, change}
use Rattle.ledger.proofs.Tests.{eqb_is, eqb_not}

-- ---- the columns by their numbers

abbrev pub columns : List Column
columns = arrival ∷ outward ∷ last ∷ mapped ∷ halted ∷ buckets ∷ []

abbrev pub column_at : ℕ → Column
column_at n = get_or columns n arrival

pub column_at_lem : (c : Column) → (column# c < length columns) × (column_at (column# c) ≡ c)
column_at_lem arrival = (omega arith, refl)
column_at_lem outward = (omega arith, refl)
column_at_lem last = (omega arith, refl)
column_at_lem mapped = (omega arith, refl)
column_at_lem halted = (omega arith, refl)
column_at_lem buckets = (omega arith, refl)

pub column_inj : (c d : Column) → column# c ≡ column# d → c ≡ d
column_inj c d e = sym (column_at_lem c).1 ∙ ap column_at e ∙ (column_at_lem d).1

-- columns with other numbers are other columns
pub other_column : (c d : Column) → column# c ≢ column# d → c ≢ d
other_column c d n e = n (ap column# e)

-- ---- one column changed

module _ (c : Column) (f : List ℕ → List ℕ) (L : Ledger) where
  pub change_here : (change c f L).numbers c ≡ f (L.numbers c)
  unfolding change
  change_here = rw (eqb_is (column# c) (column# c) refl)

  pub change_other : (d : Column) → c ≢ d → (change c f L).numbers d ≡ L.numbers d
  unfolding change
  change_other d n = rw (eqb_not (column# c) (column# d) (λ e. n (column_inj c d e)))

  -- what holds of the column as it is now, and of each as it was, holds of each as it is now
  pub changed : (P : Column → List ℕ → Type 0) → P c (f (L.numbers c)) → ((d : Column) → P d (L.numbers d)) → (d : Column) → P d ((change c f L).numbers d)
  changed P new old d = go (ℕ_discrete (column# c) (column# d))
    where
      go : Dec (column# c ≡ column# d) → P d ((change c f L).numbers d)
      go (yes e) = subst (λ (d : Column). P d ((change c f L).numbers d)) (column_inj c d e) (rw change_here new)
      go (no n) = rw (change_other d (λ e. n (ap column# e))) (old d)

-- where a ledger differs from N in one column alone, it is N with that column changed
pub only_changed : (c : Column) (N L : Ledger) → L.lists ≡ N.lists → ((d : Column) → d ≢ c → L.numbers d ≡ N.numbers d)
    → L ≡ change c (λ xs. L.numbers c) N
only_changed c N L same others = λ k. record { lists = lists k; numbers = λ d. number d (ℕ_discrete (column# c) (column# d)) k }
  where
    lists : L.lists ≡ (change c (λ xs. L.numbers c) N).lists
    lists = unfold change in same

    number : (d : Column) → Dec (column# c ≡ column# d) → L.numbers d ≡ (change c (λ xs. L.numbers c) N).numbers d
    number d (yes e) =
        subst (λ (b : Column). L.numbers b ≡ (change c (λ xs. L.numbers c) N).numbers b) (column_inj c d e)
        (sym (change_here c (λ xs. L.numbers c) N))
    number d (no n) =
        others d (λ e. n (ap column# (sym e))) ∙ sym (change_other c (λ xs. L.numbers c) N d (λ e. n (ap column# e)))
