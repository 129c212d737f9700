-- Lists with no node are kept: the walk stands behind them, and nothing is marked or added. Assumes nothing.
use mathlib.Core.Path.{◌≡◌, refl, sym, ap, ◌∙◌}
use mathlib.Core.Bool.{true}
use mathlib.Core.List.{List}
use Prim.Native.Nat.{ℕ, zero, suc, ◌+◌, ◌-◌, ◌*◌, ◌≤◌, ◌<◌, ◌%◌}
use native.Mathlib.Omega.{arith}
use lib.ListN.{length}
use lib.Dec.{ltb}
use Rattle.std.proofs.Math.Bool.{or-true}
use Rattle.ledger.specs.Settings.{Settings, row, size}
use Rattle.ledger.proofs.Tests.{true≢false, leb_is, eqb_is}
use Rattle.layout.specs.declared.Table.TheVariants.{Count}
use Rattle.layout.specs.Tables.{lists, all, start_of, get}
use Rattle.layout.proofs.Tables.{within}
use Rattle.numbers.specs.Bytes.{number}
use Rattle.once.proofs.Walk.{walk_start}
use Rattle.ranges.specs.Ranges.{few_at, few_in}
use Rattle.whole.specs.Walks.{AtList, ListPassed, Empty}
use Rattle.whole.proofs.Walking.{pass_start, pass_held, pass_end}
use Rattle.whole.proofs.Lists.{list_in_lem, lists_next}

module _ (S : Settings) (m ms sums : List ℕ) (l : ℕ) (none : get S m Count l ≡ 0) where
  few_none : few_in S m l ≡ true
  unfolding few_at
  few_none = rw (none, leb_is 0 S.slots (omega arith)) (or-true (ltb (l % row S) (2 + S.queues)))

  pub empty_passes : {n : ℕ} → length ms ≡ all S → l < lists S → AtList S m ms sums l n → AtList S m ms sums (l + 1) n
  empty_passes {n} many low at =
      let P = pass_start {S = S} {m = m} (sym none) (walk_start S m ms l many (sym none)) at.held in
      let w = pass_end P (omega arith) in
      let passed : ListPassed S m l ms sums ms sums true = record {
        answer = record { yes = λ r. record { once = w.0 ∙ eqb_is _ _ refl; fits = w.3 }; no = λ r k. true≢false r };
        marks = λ r. w.1;
        added = λ r. w.2;
        held = λ r. pass_held P;
      } in
      let same : n + 0 ≡ n = omega arith in
      rw same at (lists_next at low few_none refl passed refl refl (sym none))

-- ---- port p's counts, which stand from a place on

module _ (S : Settings) (m : List ℕ) (p : ℕ) where
  pub counts_in : p < S.ports → start_of S Count + p * row S * 4 + row S * 4 ≤ size S
  unfolding row
  counts_in h =
      let last = list_in_lem S p (row S - 1) refl (omega arith) h in
      omega (arith, within S Count (p * row S + (row S - 1)) last)

  pub count_is : (k : ℕ) → number 4 m (start_of S Count + p * row S * 4 + k * 4) ≡ get S m Count (p * row S + k)
  unfolding get
  count_is k =
      let at : start_of S Count + p * row S * 4 + k * 4 ≡ start_of S Count + (p * row S + k) * 4 = omega arith in
      ap (number 4 m) at

  module _ (ms sums : List ℕ) (many : length ms ≡ all S) (inside : p < S.ports) {n : ℕ} where
    -- k of them from column c on
    empties : (k c : ℕ) → c + k ≤ row S → ((i : ℕ) → c ≤ i → i < c + k → get S m Count (p * row S + i) ≡ 0)
        → AtList S m ms sums (p * row S + c) n → AtList S m ms sums (p * row S + (c + k)) n
    empties zero c fit none at =
        let is : c + 0 ≡ c = omega arith in
        rw is at
    empties (suc k) c fit none at =
        let low = list_in_lem S p c refl (omega (arith, fit)) inside in
        let is : p * row S + c + 1 ≡ p * row S + (c + 1) = omega arith in
        let ends : c + 1 + k ≡ c + suc k = omega arith in
        let next = empty_passes S m ms sums _ (none c (omega arith) (omega arith)) many low at in
        let there = rw is at next in
        let end = empties k (c + 1) (omega (arith, fit)) (λ i from to. none i (omega (arith, from)) (omega (arith, to))) there in
        rw ends at end

    -- up to column d
    pub passed_over : {c d : ℕ} → c ≤ d → d ≤ row S → Empty m (start_of S Count + p * row S * 4) c d → AtList S m ms sums (p * row S + c) n
        → AtList S m ms sums (p * row S + d) n
    passed_over {c} {d} from to none at =
        let is : c + (d - c) ≡ d = omega (arith, from) in
        let fit : c + (d - c) ≤ row S = omega (arith, from, to) in
        rw is at (empties (d - c) c fit (λ i low high. sym (count_is i) ∙ none i low (omega (arith, high, from))) at)
