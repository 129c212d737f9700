-- The steps of the walks: what is found in the whole is what is found in what remains. Assumes nothing.
use mathlib.Core.Path.{◌≡◌, refl, sym, ap, ◌∙◌}
use mathlib.Core.Bool.{true, false}
use mathlib.Core.List.{List, [], ◌∷◌}
use Prim.Native.Nat.{ℕ, zero, suc, ◌+◌, ◌-◌, ◌≤◌, ◌<◌}
use native.Mathlib.Nat.{add-zero}
use native.Mathlib.Numerals.{add-one}
use native.Mathlib.Omega.{arith}
use lib.ListN.{length, get_or, replicate, length-replicate}
use lib.Dec.{eqb}
use Rattle.ledger.specs.Settings.{Settings}
use Rattle.std.specs.Prelude.{None, Some}
use Rattle.ledger.proofs.Tests.{ltb_is}
use Rattle.layout.specs.declared.Table.TheVariants.{Head, Tail, Count, Next}
use Rattle.layout.specs.Tables.{lists, all, get}
use Rattle.layout.specs.Picture.{slot, chain, nodes_of}
use Rattle.memory.proofs.Chains.{chain_more}
use Rattle.once.specs.Once.{is_new, mark, all_new, mark_all, ends, right, unmarked, scan, once_found}
use Rattle.once.specs.Bits.{mark_at, marks_in}
use Rattle.once.specs.Walks.{Scanning}
use Rattle.once.proofs.Bits.{marks_length, marks_at}
use Rattle.once.proofs.Marks.{length_mark}

-- ---- the nodes of a list

module _ (S : Settings) (m : List ℕ) where
  -- the walk of list l stands at node x, behind the node `last`, with `left` nodes to go
  pub record Walking (ms₀ : List ℕ) (l : ℕ) (ms : List ℕ) (left x last : ℕ) : Type 0 where
    pub fits : length ms ≡ all S
    pub answer : right S m ms₀ l ≡ ends S ms (chain S m left x) last (get S m Tail l)
    pub after : mark_all S ms₀ (nodes_of S m l) ≡ mark_all S ms (chain S m left x)

  pub walk_start : (ms : List ℕ) (l : ℕ) {left : ℕ} → length ms ≡ all S → left ≡ get S m Count l → Walking ms l ms left (get S m Head l) (get S m Tail l)
  unfolding right nodes_of
  walk_start ms l f e = rw e (record { fits = f; answer = refl; after = refl })

module _ {S : Settings} {m ms₀ : List ℕ} {l : ℕ} {ms : List ℕ} {left x last : ℕ} (W : Walking S m ms₀ l ms left x last) where
  pub walk_stuck : 0 < left → is_new S ms x ≡ false → right S m ms₀ l ≡ false
  unfolding ends all_new
  walk_stuck h e = W.answer ∙ rw (chain_more S m left x h, e)

  pub walk_step : {rest : ℕ} → left ≡ suc rest → is_new S ms x ≡ true → Walking S m ms₀ l (mark S ms x) rest (get S m Next (slot S x)) x
  unfolding ends all_new mark_all
  walk_step {rest} h e =
      let one : left - 1 ≡ rest = omega arith in
      let more : chain S m left x ≡ x ∷ chain S m rest (get S m Next (slot S x)) = chain_more S m left x (omega arith) ∙ rw one in
      record {
        fits = length_mark S ms x ∙ W.fits;
        answer = W.answer ∙ rw (more, e);
        after = W.after ∙ rw more;
      }

  pub walk_end : left ≤ 0 → (right S m ms₀ l ≡ eqb last (get S m Tail l)) × (ms ≡ mark_all S ms₀ (nodes_of S m l))
  unfolding ends all_new mark_all chain
  walk_end h = let e : left ≡ 0 = omega arith in (W.answer ∙ rw e, sym (W.after ∙ rw e))

-- ---- the lists

pub scan_start : (S : Settings) (m ms : List ℕ) → ms ≡ replicate (all S) 0 → Scanning S m ms 0
unfolding once_found
scan_start S m ms e =
    let n : lists S ≡ lists S - 0 = omega arith in
    record { most = omega arith; fits = ap length e ∙ length-replicate (all S) 0; answer = rw e (ap (scan S m (replicate (all S) 0) 0) n) }

module _ {S : Settings} {m ms : List ℕ} {l : ℕ} (W : Scanning S m ms l) where
  more : l < lists S → lists S - l ≡ suc (lists S - (l + 1))
  more h = omega arith

  pub scan_no : l < lists S → right S m ms l ≡ false → once_found S m ≡ Some l
  unfolding scan
  scan_no h e = W.answer ∙ ap (scan S m ms l) (more h) ∙ rw e

  pub scan_yes : l < lists S → right S m ms l ≡ true → (ms' : List ℕ) → length ms' ≡ length ms → ms' ≡ mark_all S ms (nodes_of S m l) → Scanning S m ms' (l + 1)
  unfolding scan
  scan_yes h e ms' f a = record { most = omega arith; fits = f ∙ W.fits; answer = W.answer ∙ ap (scan S m ms l) (more h) ∙ rw (e, a, add-one) }

  pub scan_end : lists S ≤ l → once_found S m ≡ unmarked (lists S) ms
  unfolding scan
  scan_end h =
      let n : lists S - l ≡ 0 = omega arith in
      let e : l ≡ lists S = omega (arith, W.most) in
      W.answer ∙ ap (scan S m ms l) n ∙ ap (λ (k : ℕ). unmarked k ms) e

-- ---- the marks

pub all_marked : (n : ℕ) (ms : List ℕ) → ((i : ℕ) → i < length ms → 1 ≤ get_or ms i 0) → unmarked n ms ≡ None
unfolding unmarked
all_marked n [] h = refl
all_marked n (k ∷ ms) h = rw (ltb_is 0 k (h 0 (omega arith))) (all_marked (suc n) ms (λ i l. h (suc i) (omega arith)))

unmarked_at : (n : ℕ) (ms : List ℕ) (x : ℕ) → x < length ms → get_or ms x 0 ≡ 0 → ((i : ℕ) → i < x → 1 ≤ get_or ms i 0)
    → unmarked n ms ≡ Some (n + x)
unfolding unmarked
unmarked_at n [] x l e h = absurd (omega arith)
unmarked_at n (k ∷ ms) zero l e h = rw (e, add-zero)
unmarked_at n (k ∷ ms) (suc x) l e h =
    let next : suc n + x ≡ n + suc x = omega arith in
    rw (ltb_is 0 k (h 0 (omega arith))) (unmarked_at (suc n) ms x (omega arith) e (λ i l. h (suc i) (omega arith)) ∙ ap Some next)

-- the first clear mark of a search is the first that is not set
module _ (S : Settings) (bs : List ℕ) (n : ℕ) where
  pub search_none : ((k : ℕ) → 0 ≤ k → k < all S → 1 ≤ mark_at bs k) → unmarked n (marks_in S bs) ≡ None
  search_none h =
      all_marked n (marks_in S bs) (λ i l.
      let low : i < all S = rw (marks_length S bs) at l in
      rw (marks_at S bs i low) (h i (omega arith) low))

  pub search_some : (i : ℕ) → i < all S → mark_at bs i ≡ 0 → ((k : ℕ) → 0 ≤ k → k < i → 1 ≤ mark_at bs k) → unmarked n (marks_in S bs) ≡ Some (n + i)
  search_some i low e h =
      unmarked_at n (marks_in S bs) i (rw (marks_length S bs) low) (marks_at S bs i low ∙ e)
      (λ k l. rw (marks_at S bs k (omega arith)) (h k (omega arith) l))
