-- What the walk finds is the first list that is not right or, numbered after the lists, the first node that stands in none. Assumes nothing.
use mathlib.Core.Path.{◌≡◌, refl, sym, ap, subst, ◌∙◌}
use mathlib.Core.Logic.{◌↔◌}
use mathlib.Core.Bool.{Bool, true, false, cond}
use mathlib.Core.List.{List, [], ◌∷◌}
use Prim.Native.Nat.{ℕ, zero, suc, ◌+◌, ◌-◌, ◌≤◌, ◌<◌}
use native.Mathlib.Nat.{le_of_suc-le-suc}
use native.Mathlib.Decide.{ℕ_discrete}
use native.Mathlib.Omega.{arith}
use lib.ListN.{length, get_or, take, replicate, length-replicate}
use lib.Dec.{ltb}
use Rattle.ledger.specs.Settings.{Settings}
use Rattle.ledger.specs.Ledger.{is_node}
use Rattle.ledger.specs.Ready.{bit}
use Rattle.ledger.specs.Sound.{weigh, one, Roomy}
use Rattle.ledger.specs.Audit.{node_at}
use Rattle.std.specs.Prelude.{Some}
use Rattle.ledger.proofs.Tests.{true≢false, ltb_yes, ltb_no}
use Rattle.layout.specs.Tables.{lists, all}
use Rattle.layout.specs.Picture.{nodes_of, tabulate, ledger_in, Hangs}
use Rattle.memory.proofs.Chains.{times, shown}
use Rattle.memory.proofs.Audit.{node_at_lem}
use Rattle.once.specs.Once.{mark_all, right, unmarked, scan, once_found}
use Rattle.once.proofs.Means.{length_all, seen, seen_node, all_adds, all_new_lem, stands, stands_more, right_says, right_is, clear, stands_all}

-- ---- the first mark that is not set

record Unset (ks : List ℕ) (n x : ℕ) : Type 0 where
  at : ℕ
  is : x ≡ n + at
  inside : at < length ks
  wrong : get_or ks at 0 ≡ 0
  before : (i : ℕ) → i < at → 1 ≤ get_or ks i 0

unset : (ks : List ℕ) (n x : ℕ) → unmarked n ks ≡ Some x → Unset ks n x
unfolding unmarked
unset [] n x e = absurd (let z : ◌≡◌ {A = ℕ} 0 1 = cc in omega arith)
unset (k ∷ ks) n x e = go (ltb 0 k) refl e (unset ks (suc n) x)
  where
    later : {j : ℕ} → 1 ≤ k → ((i : ℕ) → i < j → 1 ≤ get_or ks i 0) → (i : ℕ) → i < suc j → 1 ≤ get_or (k ∷ ks) i 0
    later p f zero h = p
    later p f (suc i) h = f i (le_of_suc-le-suc h)

    go : (b : Bool) → ltb 0 k ≡ b → cond b (unmarked (suc n) ks) (Some n) ≡ Some x → (unmarked (suc n) ks ≡ Some x → Unset ks (suc n) x) → Unset (k ∷ ks) n x
    go true p d f =
        let r = f d in
        record { at = suc r.at; is = omega arith; inside = omega arith; wrong = r.wrong; before = later (ltb_yes 0 k p) r.before }
    go false p d f =
        let q : n ≡ x = cc in
        record { at = 0; is = omega arith; inside = omega arith; wrong = omega (arith, ltb_no 0 k p); before = λ i h. absurd (omega arith) }

-- ---- how often a node stands in the first lists

take_tabulate : {A : Type 0} (f : ℕ → A) (k a n : ℕ) → k ≤ n → take k (tabulate f a n) ≡ tabulate f a k
take_tabulate f zero a n h = refl
take_tabulate f (suc k) a zero h = absurd (omega arith)
take_tabulate {A} f (suc k) a (suc n) h = ap (λ (l : List A). f a ∷ l) (take_tabulate f k (suc a) n (le_of_suc-le-suc h))

module _ (S : Settings) (m : List ℕ) where
  stands_last : (y n a : ℕ) → stands S m y a (suc n) ≡ stands S m y a n + times y (nodes_of S m (a + n))
  unfolding stands
  stands_last y zero a =
      let k : a + 0 ≡ a = omega arith in
      omega (arith, stands_more S m y a 0, ap (λ (l : ℕ). times y (nodes_of S m l)) k)
  stands_last y (suc n) a =
      let k : a + suc n ≡ suc a + n = omega arith in
      omega (arith, stands_more S m y a (suc n), stands_more S m y a n, stands_last y n (suc a), ap (λ (l : ℕ). times y (nodes_of S m l)) k)

  stands_first : (y l : ℕ) → l < lists S → weigh (one y) (take (suc l) (ledger_in S m).lists) ≡ stands S m y 0 l + times y (nodes_of S m l)
  unfolding stands ledger_in
  stands_first y l h =
      let k : 0 + l ≡ l = omega arith in
      ap (weigh (one y)) (take_tabulate (shown S m) (suc l) 0 (lists S) h)
      ∙ stands_last y l 0
      ∙ ap (λ (i : ℕ). stands S m y 0 l + times y (nodes_of S m i)) k

-- ---- the walk, where an item is right if it is as these say

module _
    (S : Settings) (m : List ℕ) (R : Roomy S) (Right : ℕ → Type 0)
    (list-means : (l : ℕ) → l < lists S
    → Right l ↔ (Hangs S m l × ((y : ℕ) → weigh (one y) (take (suc l) (ledger_in S m).lists) ≤ bit (is_node S y))))
    (slot-means : (j : ℕ) → j < all S → Right (lists S + j) ↔ (1 ≤ weigh (one (node_at S j)) (ledger_in S m).lists))
  where
    -- the marks after l lists, in which no node stands twice
    record Marked (l : ℕ) (ms : List ℕ) : Type 0 where
      fits : length ms ≡ all S
      count : (y : ℕ) → seen S ms y ≡ stands S m y 0 l
      most : (y : ℕ) → seen S ms y ≤ bit (is_node S y)

    test_means : (l : ℕ) (ms : List ℕ) → l < lists S → Marked l ms → (right S m ms l ≡ true) ↔ Right l
    test_means l ms h w = (
      λ e.
          let r = right_says S m ms l e in
          (list-means l h).1 (
            r.1,
            λ y.
                let a = all_adds S (nodes_of S m l) ms w.fits r.0 y in
                omega (arith, stands_first S m y l h, a.0, a.1 (w.most y), w.count y),
          ),
      λ t.
          let f = (list-means l h).0 t in
          right_is S m ms l (all_new_lem S (nodes_of S m l) ms w.fits (λ y. omega (arith, f.1 y, stands_first S m y l h, w.count y))) f.0,
    )

    marked_next : (l : ℕ) (ms : List ℕ) → Marked l ms → right S m ms l ≡ true → Marked (suc l) (mark_all S ms (nodes_of S m l))
    marked_next l ms w e =
        let a = all_adds S (nodes_of S m l) ms w.fits (right_says S m ms l e).0 in
        let k : 0 + l ≡ l = omega arith in
        record {
          fits = length_all S (nodes_of S m l) ms ∙ w.fits;
          count = λ y. omega (arith, (a y).0, w.count y, stands_last S m y l 0, ap (λ (i : ℕ). times y (nodes_of S m i)) k);
          most = λ y. (a y).1 (w.most y);
        }

    -- x is the first that is not right, of those from l on
    record Stops (l x : ℕ) : Type 0 where
      inside : x < lists S + all S
      wrong : Right x → ⊥
      before : (k : ℕ) → l ≤ k → k < x → Right k

    -- a mark says how often its node stands in all lists
    mark_is : (ms : List ℕ) → Marked (lists S) ms → (j : ℕ) → j < all S → get_or ms j 0 ≡ weigh (one (node_at S j)) (ledger_in S m).lists
    mark_is ms w j h =
        let n = node_at_lem S R j h in
        omega (
          arith,
          ap (λ (i : ℕ). get_or ms i 0) n.slot_is,
          seen_node S ms (node_at S j) n.node,
          w.count (node_at S j),
          stands_all S m (node_at S j),
        )

    nodes_stop : (ms : List ℕ) (x : ℕ) → Marked (lists S) ms → unmarked (lists S) ms ≡ Some x → Stops (lists S) x
    nodes_stop ms x w e =
        let u = unset ms (lists S) x e in
        let low : u.at < all S = omega (arith, u.inside, w.fits) in
        record {
          inside = omega arith;
          wrong = λ r. omega (arith, (slot-means u.at low).0 (subst Right u.is r), mark_is ms w u.at low, u.wrong);
          before = λ k below above.
              let j : ℕ = k - lists S in
              let under : j < u.at = omega arith in
              let inside : j < all S = omega arith in
              let back : lists S + j ≡ k = omega arith in
              subst Right back ((slot-means j inside).1 (omega (arith, mark_is ms w j inside, u.before j under)));
        }

    scan_stops : (n l : ℕ) (ms : List ℕ) (x : ℕ) → l + n ≡ lists S → Marked l ms → scan S m ms l n ≡ Some x → Stops l x
    unfolding scan
    scan_stops zero l ms x h w e =
        let p : l ≡ lists S = omega arith in
        subst (λ (k : ℕ). Stops k x) (sym p)
        (nodes_stop ms x (subst (λ (k : ℕ). Marked k ms) p w) (ap (λ (k : ℕ). unmarked k ms) (sym p) ∙ e))
    scan_stops (suc n) l ms x h w e = go (right S m ms l) refl e (scan_stops n (suc l) (mark_all S ms (nodes_of S m l)) x (omega arith))
      where
        inside : l < lists S
        inside = omega arith

        later : right S m ms l ≡ true → Stops (suc l) x → (k : ℕ) → l ≤ k → k < x → Dec (k ≡ l) → Right k
        later p s k low high (yes q) = subst Right (sym q) ((test_means l ms inside w).0 p)
        later p s k low high (no q) = s.before k (omega arith) high

        go : (b : Bool) → right S m ms l ≡ b → cond b (scan S m (mark_all S ms (nodes_of S m l)) (suc l) n) (Some l) ≡ Some x
            → (Marked (suc l) (mark_all S ms (nodes_of S m l)) → scan S m (mark_all S ms (nodes_of S m l)) (suc l) n ≡ Some x → Stops (suc l) x) → Stops l x
        go true p d f =
            let s = f (marked_next l ms w p) d in
            record { inside = s.inside; wrong = s.wrong; before = λ k low high. later p s k low high (ℕ_discrete k l) }
        go false p d f =
            let q : l ≡ x = cc in
            record {
              inside = omega (arith, inside);
              wrong = λ r. true≢false (sym ((test_means l ms inside w).1 (subst Right (sym q) r)) ∙ p);
              before = λ k low high. absurd (omega arith);
            }

    pub once_first : (x : ℕ) → once_found S m ≡ Some x → (x < lists S + all S) × (Right x → ⊥) × ((k : ℕ) → k < x → Right k)
    unfolding once_found stands
    once_first x e =
        let w : Marked 0 (replicate (all S) 0) = record { fits = length-replicate (all S) 0; count = clear S m; most = λ y. omega (arith, clear S m y) } in
        let s = scan_stops (lists S) 0 (replicate (all S) 0) x (omega arith) w e in
        (s.inside, s.wrong, λ k h. s.before k (omega arith) h)
