-- A search for the first setting that is not in its row. Assumes nothing.
use Rattle.std.proofs.Common.{◌≡◌, ◌≢◌, refl, sym, ◌∙◌, Bool, cond, true, false, eqb}
use Rattle.std.proofs.Common.{ℕ, zero, suc, ◌<◌, ◌≤◌, Option, None, Some, MatchOption, add-one, arith}
use mathlib.Core.Bool.{false≢true}
use Rattle.ledger.specs.Settings.{Settings, setting_count, in_row, in_rows, first_out}
use Rattle.ledger.proofs.Rows.{Left, left_all, left_out, left_next, left_none, rows_out}
use Rattle.ledger.proofs.Tests.{eqb_is, eqb_not}
use Rattle.settings.specs.Told.{one_out}

module _ (S : Settings) where
  -- those below i are in their rows: the first that is not is the first from i on
  left_to : (i : ℕ) → i ≤ setting_count → ((k : ℕ) → k < i → in_row S k ≡ true) → Left S i
  left_to zero h each = left_all S
  left_to (suc i) h each =
      rw (add-one i) at (left_next S i (left_to i (omega arith) (λ k l. each k (omega arith))) (omega arith) (each i (omega arith)))

  pub one_found : (r : Option ℕ)
      → MatchOption r ((k : ℕ) → 0 ≤ k → k < setting_count → in_row S k ≡ true)
      (λ i. (0 ≤ i) × (i < setting_count) × (in_row S i ≡ false) × ((k : ℕ) → 0 ≤ k → k < i → in_row S k ≡ true))
      → r ≡ one_out S
  one_found None h =
      let all = left_none S setting_count (left_to setting_count (omega arith) (λ k l. h k (omega arith) l)) (omega arith) in
      rw (← all)
  one_found (Some i) h =
      let is = left_out S i (left_to i (omega arith) (λ k l. h.3 k (omega arith) l)) h.1 h.2 in
      rw (← is, eqb_not i setting_count (λ e. omega arith))

  -- what the search tells
  pub one_some : {i : ℕ} → one_out S ≡ Some i → (first_out S ≡ i) × (first_out S ≢ setting_count)
  one_some {i} e = go (eqb (first_out S) setting_count) refl e
    where
      go : (b : Bool) → eqb (first_out S) setting_count ≡ b → cond b None (Some (first_out S)) ≡ Some i
          → (first_out S ≡ i) × (first_out S ≢ setting_count)
      go true t e = absurd (let z : ◌≡◌ {A = ℕ} 0 1 = cc in omega arith)
      go false t e = let p : first_out S ≡ i = cc in (p, λ n. absurd (false≢true (sym t ∙ eqb_is _ setting_count n)))

  pub one_none : one_out S ≡ None → in_rows S ≡ true
  one_none e = rows_out S ∙ go (eqb (first_out S) setting_count) e
    where
      go : (b : Bool) → cond b None (Some (first_out S)) ≡ None → b ≡ true
      go true e = refl
      go false e = absurd (let z : ◌≡◌ {A = ℕ} 0 1 = cc in omega arith)
