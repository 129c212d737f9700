-- The customer's night: a port that lies hurts only itself; pools neither leak nor mix. Assumes nothing.
use mathlib.Core.Path.{◌≡◌, refl, sym, ap, ◌∙◌, subst}
use mathlib.Core.Logic.{◌≢◌}
use mathlib.Core.Bool.{Bool, true, false, not, ◌&&◌}
use mathlib.Core.List.{List, [], ◌∷◌, map}
use Prim.Native.Nat.{ℕ, zero, suc, ◌+◌, ◌-◌, ◌≤◌, ◌<◌, zero-le}
use native.Mathlib.Omega.{arith}
use native.Mathlib.Decide.{ℕ_discrete, dec_le}
use lib.ListN.{length, get_or, length-map}
use lib.Dec.{eqb, ltb}
use Rattle.ledger.specs.Settings.{Settings}
use Rattle.ledger.specs.Header.{Load}
use Rattle.ledger.specs.Ledger.{owner, index, entry_id, is_node, Packet, recorded, Place, free, ingress, egress, prefetched, place#, place_of}
use Rattle.ledger.specs.Ledger.{Ledger, list_at, arrival_of, pop, move, put_credit, arrival, halted, change, set_credit, PlaceIn}
use Rattle.ledger.specs.Ready.{bit}
use Rattle.ledger.specs.Calls.{arrive, Reply, entry, first_of, arriving, arrived, step, run, marked_for, on_refusal}
use Rattle.ledger.specs.Desk.{Desk, has, Call, act, desk, SetupsRefused}
use Rattle.ledger.specs.Sound.{All, Everywhere, weigh, one, OwnPort, Proper, owes, Orderly, Roomy}
use Rattle.ledger.specs.Order.{is_free}
use Rattle.ledger.specs.Night.{TakenIn, Arrival, turned_away, taken, away, away_from, PoolKept}
use Rattle.ledger.proofs.Tests.{ltb_is, ltb_not, eqb_is, eqb_not}
use Rattle.ledger.proofs.Lists.{cons_form, sum_ones, weigh_only, weigh_plus, weigh_cong, weigh_none, All-map, All-of, everywhere_map}
use Rattle.ledger.proofs.Lists.{All-ids, at_push_other, at_pop_other}
use Rattle.ledger.proofs.Places.{place_of_lem, place_number, row_div, row_mod, Node, node_is}
use Rattle.ledger.proofs.Keep.{some_queue, nodes, first_fits, from_moved, to_moved, lowered}
use Rattle.ledger.proofs.Halt as halt
use Rattle.ledger.proofs.Passes.{Admits, admits}
use Rattle.ledger.proofs.Steps.{recorded_proper, keep_run, stepped}
use Rattle.ledger.proofs.Promises.{home_only}
use Rattle.ledger.proofs.Courses.{acts_in, Faithful, act_answer, act_shows, calls_show, desk_faithful}
use Rattle.ledger.proofs.Order.{keeps_order}
use Rattle.ledger.proofs.Columns.{change_other}

-- ---- an arrival at port p, whatever its bytes

module _ (S : Settings) (ok : Roomy S) (L : Ledger) (s : Orderly S L) (p : ℕ) (h : Load) where
  taken_in : Admits S L p h → TakenIn S L p h (first_of S L (free p)).node (arrived S L p (arriving S L p h))
  unfolding arrived change
  taken_in a =
      let k : Packet = arriving S L p h in
      let v_in : PlaceIn S (free p) = (a.port, some_queue S ok L s) in
      let same : k.node ≡ (first_of S L (free p)).node = unfold recorded in refl in
      let own : owner k.node ≡ p = ap owner same ∙ (first_fits S ok L s (free p) v_in a.some).0 in
      let apart : free p ≢ ingress p = λ i. let z : ◌≡◌ {A = ℕ} 0 1 = cc in omega arith in
      record {
        own = ap owner (sym same) ∙ own;
        from_pool = ap (map (λ (j : Packet). j.node))
            (cons_form (list_at S L (free p)) a.some
            ∙ ap (λ (l : List Packet). first_of S L (free p) ∷ l) (sym (from_moved S ok L s (free p) v_in a.some (ingress p) v_in k same apart)));
        to_ingress = to_moved S ok L s (free p) v_in a.some (ingress p) v_in k same apart;
        paid = λ q hq. credit own a p q hq;
        only = record {
          other_lists = λ l n m. unfold move in
              (at_push_other (place# S (ingress p)) k l (pop (place# S (free p)) L.lists) m ∙ at_pop_other (place# S (free p)) l L.lists n);
          other_credit = λ r q hq n. omega (arith, credit own a r q hq, nothing own r q n);
          other_numbers = λ c n.
              change_other arrival (λ xs. set_credit S xs p k.queue (arrival_of S L p k.queue - k.price)) (move S (free p) (ingress p) k L) c
              (λ e. n (sym e))
              ∙ unfold move in refl;
        };
      }
    where
      credit : owner (arriving S L p h).node ≡ p → Admits S L p h → (r q : ℕ) → q < S.queues
          → arrival_of S (arrived S L p (arriving S L p h)) r q + owes r q (arriving S L p h) ≡ arrival_of S L r q
      credit own a r q hq =
          let k : Packet = arriving S L p h in
          let good : Proper S k = recorded_proper S ok (first_of S L (free p)).node p h a.header in
          unfold arrived change move in
          subst (λ (o : ℕ). arrival_of S (put_credit arrival S o k.queue (arrival_of S L o k.queue - k.price) L) r q + owes r q k ≡ arrival_of S L r q) own
          (lowered S ok L s k good (omega (arith, a.port)) (rw own a.afford) r q hq)

      nothing : owner (arriving S L p h).node ≡ p → (r q : ℕ) → r ≢ p → owes r q (arriving S L p h) ≡ 0
      nothing own r q n = rw (eqb_not (owner (arriving S L p h).node) r (λ e. n (sym e ∙ own)))

  -- refused, and nothing differs but p's mark; or taken in, and nothing differs but at p
  pub hurts_only_itself : Arrival S L p h (step S L (arrive p h)).0 (step S L (arrive p h)).1
  hurts_only_itself =
      stepped S L (arrive p h) (λ out. Arrival S L p h out.0 out.1) (λ n.
      unfold on_refusal in (turned_away n (marked_for S p n L) (halt.turned_away S p n L (s.shaped.numbers_long halted))))
      (λ c. taken (first_of S L (free p)).node (arrived S L p (arriving S L p h)) (taken_in (admits S L p h c)))

-- no field of a header decides whose node is taken: any two headers that are taken in here take the same node
pub whose_node : (S : Settings) (L : Ledger) (p : ℕ) (h h' : Load) (x y : ℕ)
    → (step S L (arrive p h)).0 ≡ entry x → (step S L (arrive p h')).0 ≡ entry y → x ≡ y
whose_node S L p h h' x y d e = first h x d ∙ sym (first h' y e)
  where
    first : (g : Load) (z : ℕ) → (step S L (arrive p g)).0 ≡ entry z → z ≡ (first_of S L (free p)).node
    first g z =
        stepped S L (arrive p g) (λ out. out.0 ≡ entry z → z ≡ (first_of S L (free p)).node)
        (λ n i. absurd (let o : ◌≡◌ {A = ℕ} 0 1 = cc in omega arith))
        (λ c i. cc)

-- ---- free and not free together are N

module _ (S : Settings) (ok : Roomy S) (L : Ledger) (s : Orderly S L) (p : ℕ) (hp : p < S.ports) where
  -- port p's nodes whose index is below n
  mine : ℕ → ℕ → Packet → ℕ
  mine n l k = bit (eqb (owner k.node) p && ltb (index k.node) n)

  is_one_more : (n : ℕ) → n < 2048 → (l : ℕ) (k : Packet) → mine (suc n) l k ≡ mine n l k + one (entry_id p n) l k
  unfolding mine
  is_one_more n h l k = go (ℕ_discrete (owner k.node) p) (ℕ_discrete (index k.node) n) (dec_le (suc (index k.node)) n)
    where
      y : ℕ
      y = k.node

      other : index y ≢ n → eqb y (entry_id p n) ≡ false
      other i = eqb_not y (entry_id p n) (λ z. i (ap index z ∙ row_mod 2048 p n h))

      go : Dec (owner y ≡ p) → Dec (index y ≡ n) → Dec (index y < n)
          → bit (eqb (owner y) p && ltb (index y) (suc n)) ≡ bit (eqb (owner y) p && ltb (index y) n) + bit (eqb y (entry_id p n))
      go (no d) i j = rw (eqb_not (owner y) p d, eqb_not y (entry_id p n) (λ e. d (ap owner e ∙ row_div 2048 p n h)))
      go (yes e) (yes i) j =
          rw (eqb_is (owner y) p e, ltb_is (index y) (suc n) (omega arith), ltb_not (index y) n (omega arith), eqb_is y (entry_id p n) (omega arith))
      go (yes e) (no i) (yes j) = rw (eqb_is (owner y) p e, ltb_is (index y) (suc n) (omega arith), ltb_is (index y) n j, other i)
      go (yes e) (no i) (no j) = rw (eqb_is (owner y) p e, ltb_not (index y) (suc n) (omega arith), ltb_not (index y) n (omega arith), other i)

  none_below : (l : ℕ) (k : Packet) → mine 0 l k ≡ 0
  unfolding mine
  none_below l k = go (eqb (owner k.node) p)
    where
      go : (b : Bool) → bit (b && ltb (index k.node) 0) ≡ 0
      go true = ap bit (ltb_not (index k.node) 0 zero-le)
      go false = refl

  every : {P : ℕ → Packet → Type 0} → ((l : ℕ) (k : Packet) → P l k) → Everywhere P L.lists
  every f = record { holds = λ l h. All-of (get_or L.lists l []) (f l) }

  counted_up : (n : ℕ) → n ≤ S.nodes → weigh (mine n) L.lists ≡ n
  counted_up zero h = weigh_cong (mine 0) (λ l k. 0) L.lists (every none_below) ∙ weigh_none L.lists
  counted_up (suc n) h =
      let few : n < 2048 = omega (arith, ok.few_nodes) in
      let node : is_node S (entry_id p n) ≡ true =
      node_is S (entry_id p n) (record { home = rw (row_div 2048 p n few) hp; low = rw (row_mod 2048 p n few) h }) in
      omega (
        arith,
        weigh_cong (mine (suc n)) (λ l k. mine n l k + one (entry_id p n) l k) L.lists (every (is_one_more n few)),
        weigh_plus (mine n) (one (entry_id p n)) L.lists,
        counted_up n (omega arith),
        s.once (entry_id p n),
        ap bit node,
      )

  -- those of them that are free
  pooled : ℕ → Packet → ℕ
  pooled l k = bit (eqb (owner k.node) p && is_free (place_of S l))

  free_or_not : (l : ℕ) (k : Packet) → Node S k.node → mine S.nodes l k ≡ pooled l k + away S p l k
  unfolding mine pooled
  free_or_not l k n = rw (ltb_is (index k.node) S.nodes n.low) (go (eqb (owner k.node) p) (is_free (place_of S l)))
    where
      go : (a b : Bool) → bit (a && true) ≡ bit (a && b) + bit (a && not b)
      go true true = refl
      go true false = refl
      go false b = refl

  -- nobody's free list but its own holds one of them
  elsewhere : (l : ℕ) → l ≢ place# S (free p) → l < length L.lists → All (λ k. pooled l k ≡ 0) (get_or L.lists l [])
  unfolding pooled
  elsewhere l n h =
      let q = place_of_lem S l (some_queue S ok L s) (omega (arith, s.shaped.lists_long)) in
      go (place_of S l) q.1 (s.owned.holds l h)
    where
      none : (b : Bool) → bit (b && false) ≡ 0
      none true = refl
      none false = refl

      go : (v : Place) → place# S v ≡ l → All (λ k. OwnPort v k) (get_or L.lists l [])
          → All (λ k. bit (eqb (owner k.node) p && is_free v) ≡ 0) (get_or L.lists l [])
      go (free r) e a =
          All-map (get_or L.lists l [])
          (λ k o. rw (eqb_not (owner k.node) p (λ i. n (sym e ∙ ap (λ (j : ℕ). place# S (free j)) (sym o ∙ i)))))
          a
      go (ingress r) e a = All-of (get_or L.lists l []) (λ k. none (eqb (owner k.node) p))
      go (egress r t) e a = All-of (get_or L.lists l []) (λ k. none (eqb (owner k.node) p))
      go (prefetched r t) e a = All-of (get_or L.lists l []) (λ k. none (eqb (owner k.node) p))

  pool_counts : weigh pooled L.lists ≡ length (list_at S L (free p))
  unfolding pooled
  pool_counts =
      let v_in : PlaceIn S (free p) = (hp, some_queue S ok L s) in
      weigh_only pooled L.lists (place# S (free p)) elsewhere
      ∙ sum_ones (pooled (place# S (free p))) (list_at S L (free p))
      (All-map (list_at S L (free p)) (λ k o. rw (place_number S (free p) v_in, eqb_is (owner k.node) p o)) (home_only S ok L s p hp))

  free_and_away : length (list_at S L (free p)) + away_from S L p ≡ S.nodes
  free_and_away =
      omega (
        arith,
        counted_up S.nodes (omega arith),
        weigh_cong (mine S.nodes) (λ l k. pooled l k + away S p l k) L.lists (everywhere_map L.lists free_or_not (nodes S ok L s)),
        weigh_plus pooled (away S p) L.lists,
        pool_counts,
      )

-- ---- over calls, on whatever answers and shows as the desk does

module _ {X : Type 0} (call : X → Call → Reply × X) (shows : X → Desk) (long : X → ℕ) (faithful : Faithful call shows long) (S : Settings) (ok : Roomy S)
    (x : X) (L : Ledger) (e : shows x ≡ has S L) (s : Orderly S L) where
  pub arrival_shows : (p : ℕ) (h : Load)
      → (N : Ledger) × (shows (call x (act (arrive p h))).1 ≡ has S N) × Arrival S L p h (call x (act (arrive p h))).0 N
  arrival_shows p h = (
    (step S L (arrive p h)).1,
    act_shows call shows long faithful S x L e (arrive p h),
    subst (λ (r : Reply). Arrival S L p h r (step S L (arrive p h)).1) (sym (act_answer call shows long faithful S x L e (arrive p h)))
        (hurts_only_itself S ok L s p h),
  )

  pub pool_kept : (p : ℕ) → p < S.ports → (cs : List Call) → SetupsRefused call x cs → PoolKept call shows S L p x cs
  pool_kept p hp cs f =
      let o = keeps_order call shows long faithful S ok (free p) (hp, some_queue S ok L s) x L e s cs f in
      let c = calls_show call shows long faithful S x L e cs f in
      let d = o.shown in
      let same : run S L (acts_in cs) ≡ o.ledger = cc in
      let t : Orderly S o.ledger = subst (Orderly S) same (keep_run S ok L s (acts_in cs)) in
      record {
        ledger = o.ledger;
        shown = o.shown;
        is_in_order = o.is_in_order;
        own = All-ids (λ y. owner y ≡ p) (list_at S o.ledger (free p)) (home_only S ok o.ledger t p hp);
        whole = rw (length-map (list_at S o.ledger (free p)) (λ (k : Packet). k.node)) (free_and_away S ok o.ledger t p hp);
      }

pub desk_pool_kept : (n : ℕ) (S : Settings) → Roomy S → (L : Ledger) → Orderly S L → (p : ℕ) → p < S.ports
    → (cs : List Call) → SetupsRefused (desk n) (has S L) cs → PoolKept (desk n) (λ D. D) S L p (has S L) cs
desk_pool_kept n S ok L s = pool_kept (desk n) (λ D. D) (λ D. n) (desk_faithful n) S ok (has S L) L refl s
