-- The steps over the lists: what is found in all is what is found in those that remain. Assumes nothing.
use mathlib.Core.Path.{◌≡◌, refl, sym, ap, ◌∙◌}
use mathlib.Core.Bool.{Bool, true, false}
use mathlib.Core.List.{List}
use Prim.Native.Nat.{ℕ, suc, ◌+◌, ◌-◌, ◌*◌, ◌/◌, ◌%◌, ◌≤◌, ◌<◌}
use native.Mathlib.Numerals.{add-one}
use native.Mathlib.Omega.{arith}
use borrow.Author.Count.{below_more}
use lib.ListN.{length, replicate}
use Rattle.std.specs.Prelude.{Option, None, Some}
use Rattle.ledger.specs.Settings.{Settings, row, size}
use Rattle.ledger.proofs.Tests.{true≢false}
use Rattle.ledger.proofs.Places.{row_lt, row_div, row_mod}
use Rattle.layout.specs.declared.shape.Shape.{Shape}
use Rattle.layout.specs.declared.Table.TheVariants.{Count}
use Rattle.layout.specs.Tables.{cells, lists, all, get}
use Rattle.layout.specs.Shapes.{settings_of}
use Rattle.layout.specs.Picture.{nodes_of}
use Rattle.once.specs.Bits.{marks_in}
use Rattle.once.specs.Once.{mark_all, right, once_found}
use Rattle.once.proofs.Walk.{scan_start, scan_no, scan_yes, scan_end}
use Rattle.once.proofs.Means.{found_tidy}
use Rattle.fits.specs.declared.NodeRule.{NodeRule}
use Rattle.fits.specs.declared.NodeRule.TheVariants.{Record}
use Rattle.fits.specs.Fits.{list_found, fits_found}
use Rattle.fits.proofs.Walk.{fits_start, fits_end, fits_stop, fits_next}
use Rattle.fits.proofs.Means.{none, fits_means}
use Rattle.paid.specs.Paid.{add_list, add_from, sums_of}
use Rattle.paid.specs.Passes.{Sums, Payable}
use Rattle.paid.proofs.Adding.{sums_more, zero_sums}
use Rattle.paid.proofs.Passing.{none_added}
use Rattle.ranges.specs.Ranges.{few_in}
use Rattle.whole.specs.Whole.{ListKept, Listed}
use Rattle.whole.specs.Walks.{count_most, set_marks, AtList, AllLent, ListPassed}
use Rattle.whole.proofs.SetMarks.{set_none, set_all, all_set, list_more}

pub lists_start : {s : Shape} {m bs sums : List ℕ} {l : ℕ} → AllLent s m bs sums → l ≡ 0
    → AtList (settings_of s) m (marks_in (settings_of s) bs) sums l 0
lists_start {s} {m} {bs} {sums} a e =
    let S = settings_of s in
    rw e (record {
      scan = scan_start S m (marks_in S bs) a.blank.clear;
      met = ap set_marks a.blank.clear ∙ set_none (all S);
      slots = λ i h. absurd (omega arith);
      fits = λ rule. fits_start rule S m;
      add = none_added S m sums a.zeros;
      held = rw a.zeros (sums_more S (replicate (cells S) 0) 0 (count_most * 0) (omega arith) (zero_sums S));
    })

-- ---- the place of a list, which is port p's column c, where a port has r lists

module _ (S : Settings) (p c : ℕ) {r : ℕ} (is : r ≡ row S) (hc : c < r) where
  pub list_in_lem : p < S.ports → p * r + c < lists S
  list_in_lem hp = rw (← is) (row_lt r S.ports p c hp hc)

  pub port_is : p ≡ (p * r + c) / row S
  port_is = rw (← is) (sym (row_div r p c hc))

  pub column_is : c ≡ (p * r + c) % row S
  column_is = rw (← is) (sym (row_mod r p c hc))

module _ {S : Settings} {m ms sums : List ℕ} {l n : ℕ} (W : AtList S m ms sums l n) where
  module _ (some : l < lists S) where
    -- where a list is not kept, nor is the whole
    pub lists_no : (ListKept S m ms l → ⊥) → Listed S m → ⊥
    lists_no n k = n (record { once = once (right S m ms l) refl; fits = λ rule. fits rule (list_found rule S m l) refl })
      where
        once : (b : Bool) → right S m ms l ≡ b → right S m ms l ≡ true
        once true e = e
        once false e = absurd (none l (sym (scan_no W.scan some e) ∙ k.once))

        fits : (rule : NodeRule) (f : Option ℕ) → list_found rule S m l ≡ f → list_found rule S m l ≡ None
        fits rule None e = e
        fits rule (Some x) e = absurd (none x (sym (fits_stop rule S m l some x e) ∙ W.fits rule ∙ k.fits rule))

    -- nor where it has too many nodes
    pub lists_many : few_in S m l ≡ false → Listed S m → ⊥
    lists_many e k = true≢false (sym (k.slots l some) ∙ e)

    next : few_in S m l ≡ true → ListKept S m ms l → (ms' sums' : List ℕ) → length ms' ≡ length ms
        → ms' ≡ mark_all S ms (nodes_of S m l) → sums' ≡ add_list S m sums l → Sums S sums' (count_most * (l + 1))
        → AtList S m ms' sums' (l + 1) (n + get S m Count l)
    unfolding add_from
    next f k ms' sums' long e a h =
        let one : lists S - l ≡ suc (lists S - suc l) = omega arith in
        record {
          scan = scan_yes W.scan some k.once ms' long e;
          met = ap set_marks e ∙ list_more S m ms l W.scan.fits k.once ∙ ap (λ (j : ℕ). j + get S m Count l) W.met;
          slots = below_more (λ i. few_in S m i ≡ true) l W.slots f;
          fits = λ rule. sym (fits_next rule S m l some (k.fits rule)) ∙ W.fits rule;
          add = rw (a, add-one l) (rw one at W.add);
          held = h;
        }

    -- where it is kept, the walk stands at the next
    pub lists_next : {ms' sums' : List ℕ} {r : Bool} {l' k : ℕ} → few_in S m l ≡ true → length ms' ≡ length ms
        → ListPassed S m l ms sums ms' sums' r → r ≡ true → l' ≡ l + 1 → k ≡ get S m Count l → AtList S m ms' sums' l' (n + k)
    lists_next f long t y at count = rw (at, count) (next f (t.answer.yes y) _ _ long (t.marks y) (t.added y) (t.held y))

  -- where all are kept, the marks and the sums tell the rest
  module _ (past : lists S ≤ l) where
    pub end_fits : (rule : NodeRule) → fits_found rule S m ≡ None
    end_fits rule = sym (W.fits rule) ∙ fits_end rule S m l (lists S - l) (omega arith)

    pub end_sums : sums ≡ sums_of S m
    unfolding add_from
    end_sums = let none : lists S - l ≡ 0 = omega arith in rw none at W.add

    pub end_slots : (i : ℕ) → i < lists S → few_in S m i ≡ true
    end_slots i h = W.slots i (omega arith)

    pub end_once : n ≡ all S → once_found S m ≡ None
    end_once e = scan_end W.scan past ∙ set_all (lists S) ms (W.met ∙ e ∙ sym W.scan.fits)

    pub end_left : (n ≡ all S → ⊥) → Listed S m → ⊥
    end_left d k = d (sym W.met ∙ all_set (lists S) ms (sym (scan_end W.scan past) ∙ k.once) ∙ W.scan.fits)

-- rules (c) and (f) make the prices payable
pub payable : (S : Settings) (m : List ℕ) → size S ≤ length m → once_found S m ≡ None → fits_found Record S m ≡ None → Payable S m
payable S m long e f = record { tidy = found_tidy S m long e; proper = (fits_means Record S m).0 f }
