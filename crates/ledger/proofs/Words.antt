-- Ready words from call to call: which queues an act may make ready or not, and what of a port's word it leaves. Assumes nothing.
use mathlib.Core.Path.{◌≡◌, refl, ap₂, ◌∙◌}
use mathlib.Core.Logic.{◌≢◌}
use mathlib.Core.Bool.{Bool, true, false, cond, ◌&&◌}
use mathlib.Core.List.{List}
use Prim.Native.Nat.{ℕ, ◌+◌, ◌-◌, ◌*◌, ◌^◌, ◌<◌}
use native.Mathlib.Omega.{arith}
use lib.ListN.{length, set}
use lib.Dec.{eqb}
use Rattle.ledger.specs.Settings.{Settings}
use Rattle.ledger.specs.Rules.{Clear}
use Rattle.ledger.specs.Ledger.{owner, Packet, bare, recorded, Place, free, ingress, egress, prefetched, PlaceIn, Ledger, list_at}
use Rattle.ledger.specs.Ledger.{arrival_of, outward_of, last_of, map_of, set_credit, tall, move, change, put_credit}
use Rattle.ledger.specs.Ledger.{Column, arrival, outward, last, mapped, halted, buckets}
use Rattle.ledger.specs.Buckets.{Clock}
use Rattle.ledger.specs.Ready.{covered, is_ready, bit, ready_word, pick}
use Rattle.ledger.specs.Calls.{Act, arrive, stitch, prefetch, credit, map_to, turn, ready, where_is, clear, report, bucket, show, refused, idle}
use Rattle.ledger.specs.Calls.{is_empty, first_of, arriving, arrived, served, serve, turned, rules, result, step, on_refusal}
use Rattle.ledger.specs.Sound.{Orderly, Roomy}
use Rattle.ledger.proofs.Tests.{true≢false, leb_no, eqb_is, or_left}
use Rattle.ledger.proofs.Places.{credit_other}
use Rattle.ledger.proofs.Columns.{change_here, change_other, other_column}
use Rattle.ledger.proofs.Ready.{word_same, word_but}
use Rattle.ledger.proofs.Keep.{some_queue, first_node, else_moved}
use Rattle.ledger.proofs.Buckets.{ticked_by}
use Rattle.ledger.proofs.Passes.{admits}
use Rattle.ledger.proofs.Steps.{stepped, picked_some, refused_lists, refused_numbers}
use Rattle.ledger.proofs.Promises.{refusal_leaves}
use Rattle.ledger.proofs.Line.{stitch_in}

-- where an act may change who is ready: the queue that it prefetches into, gives credit to, or serves
abbrev pub touches : Settings → Ledger → Act → ℕ → ℕ → Bool
touches S L (arrive p h) r t = false
touches S L (stitch p) r t = false
touches S L (prefetch p q) r t = eqb p r && eqb q t
touches S L (credit p q n) r t = eqb p r && eqb q t
touches S L (map_to d p) r t = false
touches S L (turn c p) r t = eqb p r && eqb (pick (last_of L p) (ready_word S L p)) t
touches S L (ready p) r t = false
touches S L (where_is y) r t = false
touches S L (clear p) r t = false
touches S L (report p) r t = false
touches S L (bucket p b) r t = false
touches S L (show ns p q) r t = false

-- a queue that is not touched is another port's, or another
apart : (p q r t : ℕ) → (eqb p r && eqb q t) ≡ false → p ≡ r → q ≡ t → ⊥
apart p q r t e i j = true≢false (rw (eqb_is p r i, eqb_is q t j) at e)

-- ---- what readiness reads

module _ (S : Settings) (r t : ℕ) where
  -- the slots of a queue and its outward credit, and nothing else
  ready_same : (L M : Ledger) → list_at S M (prefetched r t) ≡ list_at S L (prefetched r t) → outward_of S M r t ≡ outward_of S L r t
      → is_ready S M r t ≡ is_ready S L r t
  unfolding is_ready
  ready_same L M slots funds = ap₂ (covered t) funds slots

  -- so no column but outward credit
  ready_changed : (L : Ledger) (c : Column) → c ≢ outward → (f : List ℕ → List ℕ) → is_ready S (change c f L) r t ≡ is_ready S L r t
  ready_changed L c other f = ready_same L (change c f L) (unfold change in refl) (rw (change_other c f L outward other))

  -- and of that no other queue's
  ready_credited : (L : Ledger) → length (L.numbers outward) ≡ tall S outward → (p q v : ℕ) → p < S.ports → q < S.queues → t < S.queues
      → (p ≡ r → q ≡ t → ⊥) → is_ready S (put_credit outward S p q v L) r t ≡ is_ready S L r t
  ready_credited L long p q v hp hq ht other =
      ready_same L (put_credit outward S p q v L) (unfold change in refl)
      (rw (change_here outward (λ xs. set_credit S xs p q v) L) (credit_other S (L.numbers outward) p q v long hp hq r t ht other))

-- ---- a refusal touches nothing

ready_refused : (S : Settings) (n : ℕ) (a : Act) (L : Ledger) (r t : ℕ) → is_ready S (on_refusal S n a L) r t ≡ is_ready S L r t
ready_refused S n a L r t =
    ready_same S r t L (on_refusal S n a L) (rw (refused_lists S n a L)) (rw (refused_numbers S n a L outward (other_column outward halted (omega arith))))

-- a refused act changes no word
pub word_refused : (S : Settings) (L : Ledger) (a : Act) (n r : ℕ) → (step S L a).0 ≡ refused n → ready_word S (step S L a).1 r ≡ ready_word S L r
unfolding ready_word
word_refused S L a n r e =
    rw (refusal_leaves S L a n e) (word_same (is_ready S (on_refusal S n a L) r) (is_ready S L r) S.queues (λ t h. ready_refused S n a L r t))

-- ---- nor does an act, but where it says so

module _ (S : Settings) (ok : Roomy S) (L : Ledger) (s : Orderly S L) where
  module _ (r t : ℕ) (hr : r < S.ports) (ht : t < S.queues) where
    abbrev ours : Place
    ours = prefetched r t

    -- readiness after a change is as it was
    abbrev Stays : Ledger → Type 0
    Stays M = is_ready S M r t ≡ is_ready S L r t

    -- a movement neither out of our slots nor into them
    ready_moved : (v w : Place) → PlaceIn S v → is_empty (list_at S L v) ≡ false → PlaceIn S w → (k : Packet) → k.node ≡ (first_of S L v).node
        → v ≢ w → ours ≢ v → ours ≢ w → Stays (move S v w k L)
    ready_moved v w hv e hw k same d n₁ n₂ =
        ready_same S r t L (move S v w k L) (else_moved S ok L s v hv e w hw k same d ours (hr, ht) n₁ n₂) (unfold move in refl)

    ready_served : (p q : ℕ) → p < S.ports → q < S.queues → is_empty (list_at S L (prefetched p q)) ≡ false → (p ≡ r → q ≡ t → ⊥)
        → Stays (served S L p q (first_of S L (prefetched p q)))
    unfolding served
    ready_served p q hp hq e other =
        let k : Packet = first_of S L (prefetched p q) in
        let home : ℕ = owner k.node in
        let M : Ledger = move S (prefetched p q) (free home) (bare k.node) L in
        let N : Ledger = put_credit arrival S home q (arrival_of S L home q + k.price) M in
        let O : Ledger = put_credit outward S p q (outward_of S L p q - k.price) N in
        ready_changed S r t O last (other_column last outward (omega arith)) (λ xs. set xs p q)
        ∙ ready_credited S r t N (unfold change move in (s.shaped.numbers_long outward)) p q (outward_of S L p q - k.price) hp hq ht other
        ∙ ready_changed S r t M arrival (other_column arrival outward (omega arith)) (λ xs. set_credit S xs home q (arrival_of S L home q + k.price))
        ∙ ready_moved (prefetched p q) (free home) (hp, hq) e ((first_node S ok L s (prefetched p q) (hp, hq) e).home, some_queue S ok L s) (bare k.node) refl
        (λ i. let z : ◌≡◌ {A = ℕ} 0 1 = cc in omega arith)
        (λ i. other (cc) (cc))
        (λ i. let z : ◌≡◌ {A = ℕ} 0 1 = cc in omega arith)

    -- timed or not
    ready_turned : (c : Clock) (p w : ℕ) → p < S.ports
        → (eqb w 0 ≡ false → (pick (last_of L p) w < S.queues) × (is_empty (list_at S L (prefetched p (pick (last_of L p) w))) ≡ false))
        → (p ≡ r → pick (last_of L p) w ≡ t → ⊥) → Stays (turned S L c p w).1
    ready_turned c p w hp some other = go (eqb w 0) some
      where
        q : ℕ
        q = pick (last_of L p) w

        go : (b : Bool) → (b ≡ false → (q < S.queues) × (is_empty (list_at S L (prefetched p q)) ≡ false))
            → Stays (cond b (idle, L) (serve S L c p q)).1
        go true f = refl
        go false f =
            let k : Packet = first_of S L (prefetched p q) in
            let M : Ledger = served S L p q k in
            let stays = ready_served p q hp (f refl).0 (f refl).1 other in
            ticked_by c p k M Stays stays
            (λ i v. ready_changed S r t M buckets (other_column buckets outward (omega arith)) (λ xs. set xs i v) ∙ stays)

    ready_result : (a : Act) → Clear (rules S L a) → touches S L a r t ≡ false → Stays (result S L a).1
    unfolding arrived
    ready_result (arrive p h) c u =
        let a = admits S L p h c in
        let k : Packet = arriving S L p h in
        let v_in : PlaceIn S (free p) = (a.port, some_queue S ok L s) in
        ready_changed S r t (move S (free p) (ingress p) k L) arrival (other_column arrival outward (omega arith))
        (λ xs. set_credit S xs p k.queue (arrival_of S L p k.queue - k.price))
        ∙ ready_moved (free p) (ingress p) v_in a.some v_in k (unfold recorded in refl)
        (λ i. let z : ◌≡◌ {A = ℕ} 0 1 = cc in omega arith)
        (λ i. let z : ◌≡◌ {A = ℕ} 0 1 = cc in omega arith)
        (λ i. let z : ◌≡◌ {A = ℕ} 0 1 = cc in omega arith)
    ready_result (stitch p) c u =
        let hp : p < S.ports = leb_no S.ports p c.0 in
        let k : Packet = first_of S L (ingress p) in
        ready_moved (ingress p) (egress (map_of L k.dest) k.queue) (hp, some_queue S ok L s) c.1.0 (stitch_in S ok L s p hp c.1.0 k refl) k refl
        (λ i. let z : ◌≡◌ {A = ℕ} 0 1 = cc in omega arith)
        (λ i. let z : ◌≡◌ {A = ℕ} 0 1 = cc in omega arith)
        (λ i. let z : ◌≡◌ {A = ℕ} 0 1 = cc in omega arith)
    ready_result (prefetch p q) c u =
        let in' : PlaceIn S (egress p q) = (leb_no S.ports p c.0, leb_no S.queues q c.1.0) in
        ready_moved (egress p q) (prefetched p q) in' c.1.1.0 in' (first_of S L (egress p q)) refl
        (λ i. let z : ◌≡◌ {A = ℕ} 0 1 = cc in omega arith)
        (λ i. let z : ◌≡◌ {A = ℕ} 0 1 = cc in omega arith)
        (λ i. apart p q r t u (cc) (cc))
    ready_result (credit p q n) c u =
        ready_credited S r t L (s.shaped.numbers_long outward) p q (outward_of S L p q + n)
        (leb_no S.ports p c.0) (leb_no S.queues q (or_left _ _ c.1.0)) ht (apart p q r t u)
    ready_result (map_to d p) c u = ready_changed S r t L mapped (other_column mapped outward (omega arith)) (λ xs. set xs d p)
    ready_result (turn k p) c u =
        let hp : p < S.ports = leb_no S.ports p c.0 in
        let w : ℕ = ready_word S L p in
        ready_turned k p w hp (picked_some S ok L s p hp) (apart p (pick (last_of L p) w) r t u)
    ready_result (ready p) c u = refl
    ready_result (where_is y) c u = refl
    ready_result (clear p) c u = ready_changed S r t L halted (other_column halted outward (omega arith)) (λ xs. set xs p 0)
    ready_result (report p) c u = refl
    ready_result (bucket p b) c u = refl
    ready_result (show ns p q) c u = refl

  -- elsewhere, and by every refused act, readiness stays
  pub ready_kept : (a : Act) (r t : ℕ) → r < S.ports → t < S.queues → touches S L a r t ≡ false → is_ready S (step S L a).1 r t ≡ is_ready S L r t
  ready_kept a r t hr ht u =
      stepped S L a (λ out. is_ready S out.1 r t ≡ is_ready S L r t) (λ n. ready_refused S n a L r t) (λ c. ready_result r t hr ht a c u)

  -- so a port's word stays where no queue of it is touched
  pub word_kept : (a : Act) (r : ℕ) → r < S.ports → ((t : ℕ) → touches S L a r t ≡ false) → ready_word S (step S L a).1 r ≡ ready_word S L r
  unfolding ready_word
  word_kept a r hr u = word_same (is_ready S (step S L a).1 r) (is_ready S L r) S.queues (λ t ht. ready_kept a r t hr ht (u t))

  -- and where one queue is touched, one bit of it changes
  pub word_but_one : (a : Act) (r q : ℕ) → r < S.ports → q < S.queues → ((t : ℕ) → t ≢ q → touches S L a r t ≡ false)
      → ready_word S (step S L a).1 r + bit (is_ready S L r q) * 2 ^ q ≡ ready_word S L r + bit (is_ready S (step S L a).1 r q) * 2 ^ q
  unfolding ready_word
  word_but_one a r q hr hq u =
      word_but (is_ready S (step S L a).1 r) (is_ready S L r) S.queues q hq (λ t ht d. ready_kept a r t hr ht (u t d))
