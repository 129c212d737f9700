-- Every act keeps (b) to (g), and (i). Assumes nothing.
use mathlib.Core.Path.{◌≡◌, refl, sym, ap, ◌∙◌, subst}
use mathlib.Core.Logic.{◌≢◌}
use mathlib.Core.Bool.{Bool, true, false, cond}
use mathlib.Core.List.{List, [], ◌∷◌}
use Prim.Native.Nat.{ℕ, ◌+◌, ◌-◌, ◌<◌}
use native.Mathlib.Omega.{arith}
use lib.ListN.{length}
use lib.Dec.{eqb}
use Rattle.ledger.specs.Settings.{Settings}
use Rattle.ledger.specs.Rules.{Rule, refuse, guard, Clear}
use Rattle.ledger.specs.Header.{form, fields_of, Load, bytes_in}
use Rattle.ledger.specs.Ledger.{owner, Packet, bare, recorded, free, ingress, egress, prefetched, Ledger, list_at, arrival_of, outward_of, last_of}
use Rattle.ledger.specs.Ledger.{map_of, mark_of, move, change, put_credit, arrival, outward, last, mapped, halted, Column, PlaceIn}
use Rattle.ledger.specs.Buckets.{Clock}
use Rattle.ledger.specs.Ready.{covered, is_ready, word_of, ready_word, pick}
use Rattle.ledger.specs.Calls.{Act, arrive, stitch, prefetch, credit, map_to, turn, ready, where_is, refused, idle, is_empty, first_of, arriving}
use Rattle.ledger.specs.Calls.{clear, report, bucket, show, is_arrival}
use Rattle.ledger.specs.Calls.{arrived, served, serve, turned, rules, result, step, run, marked_for, on_refusal, Reply}
use Rattle.ledger.specs.Sound.{Proper, owes, Orderly, Marked, Roomy}
use Rattle.ledger.proofs.Tests.{leb_no, ltb_no}
use Rattle.ledger.proofs.Places.{credit_in}
use Rattle.ledger.proofs.Keep.{some_queue, first_fits, first_node, keep_moved, keep_traded, keep_outward, lowered, raised, keep_put}
use Rattle.ledger.proofs.Halt.{halts_mark, no_mark, marks_halts, marked_by, marked_lists, marked_numbers, marked_orderly, put_marked}
use Rattle.ledger.proofs.Buckets.{ticked_by, ticked_orderly}
use Rattle.ledger.proofs.Header.{fields_in, dest_mapped}
use Rattle.ledger.proofs.Passes.{Passes, Admits, admits}
use Rattle.ledger.proofs.Ready.{picked_ready}

-- what holds of each refusal, and of the outcome where none applies, holds of what the rules decide
pub guarded : {X : Type 0} (P : X → Type 0) (rs : List Rule) (no' : ℕ → X) (out : X)
    → ((n : ℕ) → P (no' n)) → (Clear rs → P out) → P (guard rs no' out)
guarded P [] no' out f g = g tt
guarded P (refuse n true ∷ rs) no' out f g = f n
guarded P (refuse n false ∷ rs) no' out f g = guarded P rs no' out f (λ c. g (refl, c))

-- what holds of each refusal by both, and of both outcomes, holds of what the same rules decide of both
pub guarded_both : {X : Type 0} (P : X → X → Type 0) (rs : List Rule) (no₁ no₂ : ℕ → X) (out₁ out₂ : X)
    → ((n : ℕ) → P (no₁ n) (no₂ n)) → (Clear rs → P out₁ out₂) → P (guard rs no₁ out₁) (guard rs no₂ out₂)
guarded_both P [] no₁ no₂ out₁ out₂ f g = g tt
guarded_both P (refuse n true ∷ rs) no₁ no₂ out₁ out₂ f g = f n
guarded_both P (refuse n false ∷ rs) no₁ no₂ out₁ out₂ f g = guarded_both P rs no₁ no₂ out₁ out₂ f (λ c. g (refl, c))

-- where no rule applies, the outcome
pub cleared : {X : Type 0} (rs : List Rule) (no' : ℕ → X) (out : X) → Clear rs → guard rs no' out ≡ out
cleared [] no' out c = refl
cleared (refuse n true ∷ rs) no' out c = absurd (Rattle.ledger.proofs.Tests.true≢false c.0)
cleared (refuse n false ∷ rs) no' out c = cleared rs no' out c.1

-- what a refusal leaves, a law each: nothing but these may be used of it
module _ (S : Settings) (n : ℕ) (a : Act) (L : Ledger) where
  -- it leaves the ledger as it was, or with the arriving port marked
  pub refused_by : (P : Ledger → Type 0) → P L → ((p : ℕ) → P (marked_for S p n L)) → P (on_refusal S n a L)
  unfolding on_refusal
  refused_by P f g = go a
    where
      go : (b : Act) → P (on_refusal S n b L)
      go (arrive p h) = g p
      go (stitch p) = f
      go (prefetch p q) = f
      go (credit p q v) = f
      go (map_to d p) = f
      go (turn c p) = f
      go (ready p) = f
      go (where_is y) = f
      go (clear p) = f
      go (report p) = f
      go (bucket p b) = f
      go (show ns p q) = f

  pub refused_lists : (on_refusal S n a L).lists ≡ L.lists
  refused_lists = refused_by (λ N. N.lists ≡ L.lists) refl (λ p. marked_lists S p n L)

  pub refused_numbers : (c : Column) → c ≢ halted → (on_refusal S n a L).numbers c ≡ L.numbers c
  refused_numbers c d = refused_by (λ N. N.numbers c ≡ L.numbers c) refl (λ p. marked_numbers S p n L c d)

  pub refused_orderly : Roomy S → Orderly S L → Orderly S (on_refusal S n a L)
  refused_orderly ok s = refused_by (Orderly S) s (λ p. marked_orderly S p n L ok s)

  -- only an arrival's changes anything
  pub refused_else : is_arrival a ≡ false → on_refusal S n a L ≡ L
  unfolding on_refusal
  refused_else other = go a other
    where
      go : (b : Act) → is_arrival b ≡ false → on_refusal S n b L ≡ L
      go (arrive p h) i = absurd (Rattle.ledger.proofs.Tests.true≢false i)
      go (stitch p) i = refl
      go (prefetch p q) i = refl
      go (credit p q v) i = refl
      go (map_to d p) i = refl
      go (turn c p) i = refl
      go (ready p) i = refl
      go (where_is y) i = refl
      go (clear p) i = refl
      go (report p) i = refl
      go (bucket p b) i = refl
      go (show ns p q) i = refl

  refused_marked : Orderly S L → Marked S L → Marked S (on_refusal S n a L)
  refused_marked s f =
      refused_by (Marked S) f
      (λ p.
      marked_by S p n L (Marked S)
      (λ e. put_marked S L p n (halts_mark n (marks_halts S p (mark_of L p) n e)) f (s.shaped.numbers_long halted))
      (λ e. f))

-- one act, by its refusals and its result
module _ (S : Settings) (L : Ledger) (a : Act) where
  pub stepped : (P : Reply × Ledger → Type 0) → ((n : ℕ) → P (refused n, on_refusal S n a L)) → (Clear (rules S L a) → P (result S L a)) → P (step S L a)
  stepped P = guarded P (rules S L a) (λ n. (refused n, on_refusal S n a L)) (result S L a)

  pub step_clear : Clear (rules S L a) → step S L a ≡ result S L a
  step_clear = cleared (rules S L a) (λ n. (refused n, on_refusal S n a L)) (result S L a)

covered_some : (q c : ℕ) (ks : List Packet) → covered q c ks ≡ true → is_empty ks ≡ false
covered_some q c [] e = sym e
covered_some q c (k ∷ ks) e = refl

module _ (S : Settings) (roomy : Roomy S) where
  -- what is recorded of a header with no fault is proper
  pub recorded_proper : (x p : ℕ) (h : Load) → Passes (form S) S.queues p h → Proper S (recorded S x (fields_of (form S) (bytes_in h)))
  unfolding recorded
  recorded_proper x p h good =
      let f = fields_in (form S) (bytes_in h) in
      record {
        len_low = good.long;
        len_high = f.len;
        queue_in_range = good.queue;
        dest_in = f.dest;
        stamp_in = f.stamp;
        poisoned_in = f.poisoned;
        transaction_in = f.transaction;
        price_is = refl;
      }

  pub ready_some : (L : Ledger) (p q : ℕ) → is_ready S L p q ≡ true → is_empty (list_at S L (prefetched p q)) ≡ false
  unfolding is_ready
  ready_some L p q e = covered_some q (outward_of S L p q) (list_at S L (prefetched p q)) e

  module _ (L : Ledger) (s : Orderly S L) where
    -- the queue that a turn serves, if the ready word isn't 0
    pub picked_some : (p : ℕ) → p < S.ports → eqb (ready_word S L p) 0 ≡ false
        → (pick (last_of L p) (ready_word S L p) < S.queues) × (is_empty (list_at S L (prefetched p (pick (last_of L p) (ready_word S L p)))) ≡ false)
    unfolding ready_word
    picked_some p hp e =
        let r = picked_ready (is_ready S L p) (last_of L p) S.queues roomy.few_queues e in
        (r.0, ready_some L p (pick (last_of L p) (word_of (is_ready S L p) S.queues)) r.1)

    -- arrive
    keep_arrived : (p : ℕ) (h : Load) → Admits S L p h → Orderly S (arrived S L p (arriving S L p h))
    unfolding arrived
    keep_arrived p h a =
        let k : Packet = arriving S L p h in
        let v_in : PlaceIn S (free p) = (a.port, some_queue S roomy L s) in
        let good : Proper S k = recorded_proper (first_of S L (free p)).node p h a.header in
        let same : k.node ≡ (first_of S L (free p)).node = unfold recorded in refl in
        let own : owner k.node ≡ p = ap owner same ∙ (first_fits S roomy L s (free p) v_in a.some).0 in
        keep_traded S roomy L s (free p) v_in a.some (ingress p) v_in k same
        (λ i. let z : ◌≡◌ {A = ℕ} 0 1 = cc in omega arith)
        (λ a b i. absurd (let z : ◌≡◌ {A = ℕ} 0 1 = cc in omega arith))
        (own, tt, good)
        p k.queue (arrival_of S L p k.queue - k.price)
        (λ r t ht. omega (arith, low_by r t ht own good a))
      where
        low_by : (r t : ℕ) → t < S.queues → owner (arriving S L p h).node ≡ p → Proper S (arriving S L p h) → Admits S L p h
            → arrival_of S (put_credit arrival S p (arriving S L p h).queue (arrival_of S L p (arriving S L p h).queue - (arriving S L p h).price) L) r t
            + owes r t (arriving S L p h) ≡ arrival_of S L r t
        low_by r t ht own good a =
            let k : Packet = arriving S L p h in
            subst (λ (a : ℕ). arrival_of S (put_credit arrival S a k.queue (arrival_of S L a k.queue - k.price) L) r t + owes r t k ≡ arrival_of S L r t) own
            (lowered S roomy L s k good (omega (arith, a.port)) (rw own a.afford) r t ht)

    -- stitch
    keep_stitched : (p : ℕ) → p < S.ports → is_empty (list_at S L (ingress p)) ≡ false
        → Orderly S (move S (ingress p) (egress (map_of L (first_of S L (ingress p)).dest) (first_of S L (ingress p)).queue) (first_of S L (ingress p)) L)
    keep_stitched p hp e =
        let k : Packet = first_of S L (ingress p) in
        let v_in : PlaceIn S (ingress p) = (hp, some_queue S roomy L s) in
        let f = first_fits S roomy L s (ingress p) v_in e in
        keep_moved S roomy L s (ingress p) v_in e (egress (map_of L k.dest) k.queue)
        (s.ranges.numbers_in mapped k.dest (dest_mapped S roomy k.dest f.2.dest_in), f.2.queue_in_range) k refl
        (λ i. let z : ◌≡◌ {A = ℕ} 0 1 = cc in omega arith)
        (λ a b i. absurd (let z : ◌≡◌ {A = ℕ} 0 1 = cc in omega arith))
        (tt, refl, f.2)
        (λ a b. refl)

    -- prefetch
    keep_prefetched : (p q : ℕ) → p < S.ports → q < S.queues → is_empty (list_at S L (egress p q)) ≡ false
        → length (list_at S L (prefetched p q)) < S.slots → Orderly S (move S (egress p q) (prefetched p q) (first_of S L (egress p q)) L)
    keep_prefetched p q hp hq e few =
        keep_moved S roomy L s (egress p q) (hp, hq) e (prefetched p q) (hp, hq) (first_of S L (egress p q)) refl
        (λ i. let z : ◌≡◌ {A = ℕ} 0 1 = cc in omega arith)
        (λ a b i. few)
        (first_fits S roomy L s (egress p q) (hp, hq) e)
        (λ a b. refl)

    -- a turn that serves queue q
    pub keep_served : (p q : ℕ) → p < S.ports → q < S.queues → is_empty (list_at S L (prefetched p q)) ≡ false
        → Orderly S (served S L p q (first_of S L (prefetched p q)))
    unfolding served
    keep_served p q hp hq e =
        let k : Packet = first_of S L (prefetched p q) in
        let f = first_fits S roomy L s (prefetched p q) (hp, hq) e in
        let n = first_node S roomy L s (prefetched p q) (hp, hq) e in
        let home : ℕ = owner k.node in
        let N : Ledger = put_credit arrival S home q (arrival_of S L home q + k.price) (move S (prefetched p q) (free home) (bare k.node) L) in
        let o : Orderly S N =
        keep_traded S roomy L s (prefetched p q) (hp, hq) e (free (owner k.node)) (n.home, some_queue S roomy L s) (bare k.node) refl
        (λ i. let z : ◌≡◌ {A = ℕ} 0 1 = cc in omega arith)
        (λ a b i. absurd (let z : ◌≡◌ {A = ℕ} 0 1 = cc in omega arith))
        (refl, tt, tt)
        (owner k.node) q (arrival_of S L (owner k.node) q + k.price)
        (λ r t ht. omega (arith, raised S roomy L s k f.2 n.home q f.1 r t ht)) in
        let u : Orderly S (put_credit outward S p q (outward_of S L p q - k.price) N) =
        keep_outward S roomy _ o p q (outward_of S L p q - k.price)
        (omega (arith, credit_in S (L.numbers outward) 65535 (s.ranges.numbers_in outward) p q hp hq)) in
        keep_put S roomy _ u last (λ i. let z : ◌≡◌ {A = ℕ} 0 1 = cc in omega arith) p q hq

    keep_turned : (t : Clock) (p w : ℕ) → p < S.ports
        → (eqb w 0 ≡ false → (pick (last_of L p) w < S.queues) × (is_empty (list_at S L (prefetched p (pick (last_of L p) w))) ≡ false))
        → Orderly S (turned S L t p w).1
    keep_turned t p w hp some = go (eqb w 0) some
      where
        go : (b : Bool) → (b ≡ false → (pick (last_of L p) w < S.queues) × (is_empty (list_at S L (prefetched p (pick (last_of L p) w))) ≡ false))
            → Orderly S (cond b (idle, L) (serve S L t p (pick (last_of L p) w))).1
        go true f = s
        go false f =
            let q = pick (last_of L p) w in
            ticked_orderly t p (first_of S L (prefetched p q)) (served S L p q (first_of S L (prefetched p q))) S roomy
            (keep_served p q hp (f refl).0 (f refl).1) hp

    keep_result : (a : Act) → Clear (rules S L a) → Orderly S (result S L a).1
    keep_result (arrive p h) c = keep_arrived p h (admits S L p h c)
    keep_result (stitch p) c = keep_stitched p (leb_no S.ports p c.0) c.1.0
    keep_result (prefetch p q) c =
        keep_prefetched p q (leb_no S.ports p c.0) (leb_no S.queues q c.1.0) c.1.1.0
        (leb_no S.slots (length (list_at S L (prefetched p q))) c.1.1.1.0)
    keep_result (credit p q n) c = keep_outward S roomy L s p q (outward_of S L p q + n) (ltb_no 65535 (outward_of S L p q + n) c.1.1.0)
    keep_result (map_to d p) c = keep_put S roomy L s mapped (λ i. let z : ◌≡◌ {A = ℕ} 0 1 = cc in omega arith) d p (leb_no S.ports p c.1.0)
    keep_result (turn t p) c =
        let hp : p < S.ports = leb_no S.ports p c.0 in
        keep_turned t p (ready_word S L p) hp (picked_some p hp)
    keep_result (ready p) c = s
    keep_result (where_is y) c = s
    keep_result (clear p) c = keep_put S roomy L s halted (λ i. let z : ◌≡◌ {A = ℕ} 0 1 = cc in omega arith) p 0 (omega arith)
    keep_result (report p) c = s
    keep_result (bucket p b) c = s
    keep_result (show ns p q) c = s

    pub keep_step : (a : Act) → Orderly S (step S L a).1
    keep_step a = stepped S L a (λ out. Orderly S out.1) (λ n. refused_orderly S n a L roomy s) (keep_result a)

    -- (i): none but a refused arrival and a clear changes a mark
    result_marked : (a : Act) → Marked S L → Marked S (result S L a).1
    result_marked (arrive p h) f = unfold arrived change move in f
    result_marked (stitch p) f = unfold move in f
    result_marked (prefetch p q) f = unfold move in f
    result_marked (credit p q n) f = unfold change in f
    result_marked (map_to d p) f = unfold change in f
    result_marked (turn t p) f = go (eqb (ready_word S L p) 0)
      where
        q : ℕ
        q = pick (last_of L p) (ready_word S L p)

        go : (b : Bool) → Marked S (cond b (idle, L) (serve S L t p q)).1
        go true = f
        go false =
            ticked_by t p (first_of S L (prefetched p q)) (served S L p q (first_of S L (prefetched p q))) (Marked S)
            (unfold served change move in f)
            (λ i v. unfold served change move in f)
    result_marked (ready p) f = f
    result_marked (where_is y) f = f
    result_marked (clear p) f = put_marked S L p 0 no_mark f (s.shaped.numbers_long halted)
    result_marked (report p) f = f
    result_marked (bucket p b) f = f
    result_marked (show ns p q) f = f

    pub keep_marked : (a : Act) → Marked S L → Marked S (step S L a).1
    keep_marked a f = stepped S L a (λ out. Marked S out.1) (λ n. refused_marked S n a L s f) (λ c. result_marked a f)

  pub keep_run : (L : Ledger) → Orderly S L → (acts : List Act) → Orderly S (run S L acts)
  keep_run L s [] = s
  keep_run L s (a ∷ acts) = keep_run (step S L a).1 (keep_step L s a) acts
