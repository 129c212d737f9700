-- The square: for every memory and every call, what the memory pictures after the call is what the desk has after it, and the replies agree.
-- Assumes nothing.
use mathlib.Core.Path.{◌≡◌, refl, sym, ap, ap₂, ◌∙◌, subst}
use mathlib.Core.Logic.{◌≢◌}
use mathlib.Core.Bool.{Bool, true, false, cond}
use mathlib.Core.List.{List, [], ◌∷◌}
use Prim.Native.Nat.{ℕ, zero, suc, ◌+◌, ◌-◌, ◌≤◌, ◌<◌}
use native.Mathlib.Omega.{arith}
use native.Mathlib.Decide.{dec_lt}
use lib.ListN.{length, drop}
use lib.Dec.{eqb}
use Rattle.ledger.specs.Settings.{Settings, in_rows, ids, row, size}
use Rattle.ledger.specs.Rules.{Rule, refuse, guard, Clear}
use Rattle.ledger.specs.Header.{form, fields_of, price, Load, bytes_in}
use Rattle.ledger.specs.Ledger.{owner, is_node, Packet, bare, recorded, Place, free, ingress, egress, prefetched, place#, column, port_of, Ledger}
use Rattle.ledger.specs.Ledger.{list_at, arrival_of, outward_of, last_of, map_of, mark_of, push, move, put_credit, put_in, start, arrival, outward, last}
use Rattle.ledger.specs.Ledger.{mapped}
use Rattle.ledger.specs.Ledger.{halted, buckets, bucket_at, tall, change}
use Rattle.ledger.specs.Halt.{halts, marks}
use Rattle.ledger.specs.Ready.{ready_word, pick}
use Rattle.ledger.specs.Calls.{Act, arrive, stitch, prefetch, credit, map_to, turn, ready, where_is, Reply, refused, done, idle, is_refused, is_empty}
use Rattle.ledger.specs.Buckets.{Clock, untimed, at, wait_of, bucket_of, one_more, bucket#}
use Rattle.ledger.specs.Calls.{clear, report, bucket, show, first_of, arriving, arrived, served, ticked}
use Rattle.ledger.specs.Calls.{serve, turned, rules, result, marked_for, on_refusal, step}
use Rattle.ledger.specs.Desk.{Desk, has, Call, setup, act, is_arrival_call, setup_rules, desk}
use Rattle.ledger.specs.Sound.{weigh, one, Proper, Orderly, Marked, Roomy}
use Rattle.ledger.specs.Ledger.{PlaceIn}
use Rattle.ledger.proofs.Promises.{result_given}
use Rattle.ledger.proofs.Tests.{true≢false, leb_no, ltb_no, eqb_not, or_left, not_yes}
use Rattle.ledger.proofs.Places.{place#_lt, row_mod, column_lt, credit_none, credit_same, credit_in}
use Rattle.ledger.proofs.Header.{dest_mapped, price_free}
use Rattle.ledger.proofs.Keep.{some_queue, first_fits, first_node}
use Rattle.ledger.proofs.Rows.{roomy}
use Rattle.ledger.proofs.Passes.{Admits, admits}
use Rattle.ledger.proofs.Halt.{halts_low, marks_port, marks_halts, marks_not, marks_in_lem}
use Rattle.ledger.proofs.Steps.{guarded, recorded_proper, picked_some, keep_served, keep_step, keep_marked}
use Rattle.layout.specs.declared.Table.TheVariants.{Arrival, Outward, Halted, Buckets}
use Rattle.ledger.proofs.Buckets.{bucket_in, bucket_lt, one_more_in}
use Rattle.layout.specs.Tables.{get, put}
use Rattle.layout.proofs.Tables.{get_lt}
use Rattle.layout.specs.Picture.{settings_in, packet_at, node_in, ledger_in, StateOf, State}
use Rattle.memory.specs.Ends.{pop_mem, push_mem, Tidy, with_lists}
use Rattle.memory.specs.Writes.{head_of, move_mem, record_mem, credit_mem, arrive_mem, serve_mem, tick_mem, turn_mem, write, mark_mem, refused_mem}
use Rattle.memory.specs.Image.{setup_mem}
use Rattle.memory.specs.Memory.{state_dec, picture, acted, tested, M}
use Rattle.memory.proofs.Judged.{kept_else}
use Rattle.memory.proofs.Chains.{get_d_table}
use Rattle.memory.proofs.Picture.{picture_is, picture_none, picture_state}
use Rattle.memory.proofs.Image.{setup_picture}
use Rattle.memory.proofs.Paint.{Kept, kept_then, pop_paint, pop_kept, pop_item, pop_node, pop_gone, pop_packet, push_paint, push_kept}
use Rattle.memory.proofs.Paint.{record_paint, record_kept, record_packet}
use Rattle.memory.proofs.Paint.{credit_paint, credit_kept, column_paint, column_kept}

-- ---- how a list shows a node: a free list shows it bare, any other with its record

module _ (S : Settings) (m : List ℕ) where
  held_in : (v : Place) → PlaceIn S v → column S v ≢ 0 → (x : ℕ) → node_in S m (place# S v) x ≡ packet_at S m x
  unfolding node_in place#
  held_in v h n x = rw (row_mod (row S) (port_of v) (column S v) (column_lt S v h), eqb_not (column S v) 0 n)

  free_in : (p : ℕ) → PlaceIn S (free p) → (x : ℕ) → node_in S m (place# S (free p)) x ≡ bare x
  unfolding node_in place#
  free_in p h x = rw (row_mod (row S) p 0 (column_lt S (free p) h))

module _ (S : Settings) (ok : Roomy S) (m : List ℕ) (s : StateOf S m) where
  abbrev pub L : Ledger
  L = ledger_in S m

  o : Orderly S L
  o = s.sound.orderly

  pub tidy_of : Tidy S m
  tidy_of = record { long = s.long; hangs = s.hangs; once = λ y. omega (arith, o.once y) }

  -- the first node of a place that holds packets
  pub first_held : (v : Place) → PlaceIn S v → column S v ≢ 0 → is_empty (list_at S L v) ≡ false → first_of S L v ≡ packet_at S m (head_of S m v)
  first_held v h n e = pop_item S ok m tidy_of (place# S v) (place#_lt S v h) e ∙ held_in S m v h n (head_of S m v)

  first_free : (p : ℕ) → PlaceIn S (free p) → is_empty (list_at S L (free p)) ≡ false → (first_of S L (free p)).node ≡ head_of S m (free p)
  first_free p h e =
      ap (λ (k : Packet). k.node) (pop_item S ok m tidy_of (place# S (free p)) (place#_lt S (free p) h) e ∙ free_in S m p h (head_of S m (free p)))

  -- a movement
  module _ (v w : Place) (hv : PlaceIn S v) (hw : PlaceIn S w) (e : is_empty (list_at S L v) ≡ false) where
    abbrev m₁ : List ℕ
    m₁ = pop_mem S (place# S v) m

    t₁ : Tidy S m₁
    t₁ = (pop_kept S ok m tidy_of (place# S v) (place#_lt S v hv) e).tidy

    x_node : is_node S (head_of S m v) ≡ true
    x_node = pop_node S ok m tidy_of (place# S v) (place#_lt S v hv) e

    x_gone : weigh (one (head_of S m v)) (ledger_in S m₁).lists ≡ 0
    x_gone = pop_gone S ok m tidy_of (place# S v) (place#_lt S v hv) e

    move_paint : (k : Packet) → node_in S m₁ (place# S w) (head_of S m v) ≡ k → ledger_in S (move_mem S v w m) ≡ move S v w k L
    unfolding move move_mem
    move_paint k i =
        push_paint S ok m₁ t₁ (head_of S m v) x_node x_gone (place# S w) (place#_lt S w hw)
        ∙ ap (λ (j : Packet). with_lists (push (place# S w) j (ledger_in S m₁).lists) (ledger_in S m₁)) i
        ∙ ap (λ (N : Ledger). with_lists (push (place# S w) k N.lists) N) (pop_paint S ok m tidy_of (place# S v) (place#_lt S v hv) e)

    move_kept : Kept S m (move_mem S v w m)
    unfolding move_mem
    move_kept =
        kept_then S m m₁ _ (pop_kept S ok m tidy_of (place# S v) (place#_lt S v hv) e)
        (push_kept S ok m₁ t₁ (head_of S m v) x_node x_gone (place# S w) (place#_lt S w hw))

    -- between places that hold packets, the packet as it was
    held_paint : column S v ≢ 0 → column S w ≢ 0 → ledger_in S (move_mem S v w m) ≡ move S v w (first_of S L v) L
    held_paint nv nw =
        move_paint (first_of S L v)
        (held_in S m₁ w hw nw (head_of S m v)
        ∙ pop_packet S ok m tidy_of (place# S v) (place#_lt S v hv) e (head_of S m v) x_node
        ∙ sym (first_held v hv nv e))

  -- ---- arrive

  module _ (p : ℕ) (h : Load) (a : Admits S L p h) where
    hp : p < S.ports
    hp = a.port

    e : is_empty (list_at S L (free p)) ≡ false
    e = a.some

    v_in : PlaceIn S (free p)
    v_in = (hp, some_queue S ok L o)

    abbrev k : Packet
    k = recorded S (head_of S m (free p)) (fields_of (form S) (bytes_in h))

    k_is : arriving S L p h ≡ k
    k_is = ap (λ (x : ℕ). recorded S x (fields_of (form S) (bytes_in h))) (first_free p v_in e)

    k_node : k.node ≡ head_of S m (free p)
    unfolding recorded
    k_node = refl

    good : Proper S k
    good = recorded_proper S ok (head_of S m (free p)) p h a.header

    abbrev n₁ : List ℕ
    n₁ = pop_mem S (place# S (free p)) m

    abbrev n₂ : List ℕ
    n₂ = record_mem S k n₁

    abbrev n₃ : List ℕ
    n₃ = push_mem S (place# S (ingress p)) k.node n₂

    k_on : is_node S k.node ≡ true
    k_on = rw k_node (x_node (free p) (ingress p) v_in v_in e)

    k_gone : weigh (one k.node) (ledger_in S n₁).lists ≡ 0
    k_gone = rw k_node (x_gone (free p) (ingress p) v_in v_in e)

    s₁ : Tidy S n₁
    s₁ = t₁ (free p) (ingress p) v_in v_in e

    s₂ : Kept S n₁ n₂
    s₂ = record_kept S ok n₁ s₁ k.node k_on k_gone k refl

    same₂ : ledger_in S n₂ ≡ ledger_in S n₁
    same₂ = record_paint S ok n₁ s₁ k.node k_on k_gone k refl

    gone₂ : weigh (one k.node) (ledger_in S n₂).lists ≡ 0
    gone₂ = rw same₂ k_gone

    s₃ : Kept S n₂ n₃
    s₃ = push_kept S ok n₂ s₂.tidy k.node k_on gone₂ (place# S (ingress p)) (place#_lt S (ingress p) v_in)

    lists₃ : ledger_in S n₃ ≡ move S (free p) (ingress p) k L
    unfolding move
    lists₃ =
        push_paint S ok n₂ s₂.tidy k.node k_on gone₂ (place# S (ingress p)) (place#_lt S (ingress p) v_in)
        ∙ ap (λ (j : Packet). with_lists (push (place# S (ingress p)) j (ledger_in S n₂).lists) (ledger_in S n₂))
        (held_in S n₂ (ingress p) v_in (omega arith) k.node ∙ record_packet S ok n₁ s₁ k k_on good)
        ∙ ap (λ (N : Ledger). with_lists (push (place# S (ingress p)) k N.lists) N)
        (same₂ ∙ pop_paint S ok m tidy_of (place# S (free p)) (place#_lt S (free p) v_in) e)

    few : arrival_of S L p k.queue - k.price < 65536
    few = omega (arith, credit_in S (L.numbers arrival) 65535 (o.ranges.numbers_in arrival) p k.queue hp good.queue_in_range)

    arrive_paint : ledger_in S (arrive_mem S p k m) ≡ arrived S L p (arriving S L p h)
    unfolding arrive_mem arrived
    arrive_paint =
        credit_paint S ok n₃ s₃.tidy arrival refl p hp k.queue (arrival_of S L p k.queue - k.price) good.queue_in_range few
        ∙ ap (put_credit arrival S p k.queue (arrival_of S L p k.queue - k.price)) lists₃
        ∙ ap (λ (j : Packet). arrived S L p j) (sym k_is)

    arrive_kept : Kept S m (arrive_mem S p k m)
    unfolding arrive_mem
    arrive_kept =
        kept_then S m n₁ _ (pop_kept S ok m tidy_of (place# S (free p)) (place#_lt S (free p) v_in) e)
        (kept_then S n₁ n₂ _ s₂ (kept_then S n₂ n₃ _ s₃
        (credit_kept S ok n₃ s₃.tidy arrival refl p hp k.queue (arrival_of S L p k.queue - k.price) good.queue_in_range)))

  -- ---- a turn that serves queue q

  module _ (p q : ℕ) (hp : p < S.ports) (hq : q < S.queues) (e : is_empty (list_at S L (prefetched p q)) ≡ false) where
    abbrev pub j : Packet
    j = first_of S L (prefetched p q)

    home : PlaceIn S (free (owner j.node))
    home = ((first_node S ok L o (prefetched p q) (hp, hq) e).home, some_queue S ok L o)

    pub j_is : j ≡ packet_at S m (head_of S m (prefetched p q))
    j_is = first_held (prefetched p q) (hp, hq) (omega arith) e

    j_node : j.node ≡ head_of S m (prefetched p q)
    j_node = ap (λ (k : Packet). k.node) j_is ∙ (unfold packet_at in refl)

    fits : (j.queue ≡ q) × Proper S j
    fits = let f = first_fits S ok L o (prefetched p q) (hp, hq) e in (f.1, f.2)

    abbrev pub given : ℕ
    given = arrival_of S L (owner j.node) q + j.price

    -- the credit that goes back fits: it stands in a sound ledger afterwards
    pub given_fits : given < 65536
    given_fits = go q hq fits.0 (λ h. after_in h)
      where
        after_in : 0 < q → arrival_of S L (owner j.node) q + j.price ≤ 65535
        after_in h =
            let N : Ledger = served S L p q j in
            let k = credit_in S (N.numbers arrival) 65535 ((keep_served S ok L o p q hp hq e).ranges.numbers_in arrival) (owner j.node) q home.0 hq in
            let c = credit_same S (L.numbers arrival) (owner j.node) q given (o.shaped.numbers_long arrival) home.0 hq h in
            unfold served change move in omega (arith, k, c)

        go : (t : ℕ) → t < S.queues → j.queue ≡ t → (0 < t → arrival_of S L (owner j.node) t + j.price ≤ 65535)
            → arrival_of S L (owner j.node) t + j.price < 65536
        go zero h i f =
            omega (
              arith,
              credit_none S (L.numbers arrival) (owner j.node),
              fits.1.price_is ∙ ap (λ (t : ℕ). price S.beat t j.len) i ∙ price_free S.beat j.len,
            )
        go (suc t) h i f = omega (arith, f (omega arith))

    abbrev left : ℕ
    left = outward_of S L p q - j.price

    left_fits : left < 65536
    left_fits = omega (arith, credit_in S (L.numbers outward) 65535 (o.ranges.numbers_in outward) p q hp hq)

    abbrev q₁ : List ℕ
    q₁ = move_mem S (prefetched p q) (free (owner j.node)) m

    abbrev q₂ : List ℕ
    q₂ = credit_mem S Arrival (owner j.node) q given q₁

    abbrev q₃ : List ℕ
    q₃ = credit_mem S Outward p q left q₂

    k₁ : Kept S m q₁
    k₁ = move_kept (prefetched p q) (free (owner j.node)) (hp, hq) home e

    k₂ : Kept S q₁ q₂
    k₂ = credit_kept S ok q₁ k₁.tidy arrival refl (owner j.node) home.0 q given hq

    k₃ : Kept S q₂ q₃
    k₃ = credit_kept S ok q₂ k₂.tidy outward refl p hp q left hq

    lists₁ : ledger_in S q₁ ≡ move S (prefetched p q) (free (owner j.node)) (bare j.node) L
    lists₁ =
        move_paint (prefetched p q) (free (owner j.node)) (hp, hq) home e (bare j.node)
        (free_in S (pop_mem S (place# S (prefetched p q)) m) (owner j.node) home (head_of S m (prefetched p q)) ∙ ap bare (sym j_node))

    serve_paint : ledger_in S (serve_mem S p q j m) ≡ served S L p q j
    unfolding serve_mem served
    serve_paint =
        column_paint S ok q₃ k₃.tidy last p q hp (omega (arith, ok.few_queues))
        ∙ ap (put_in last p q)
        (credit_paint S ok q₂ k₂.tidy outward refl p hp q left hq left_fits
        ∙ ap (put_credit outward S p q left)
        (credit_paint S ok q₁ k₁.tidy arrival refl (owner j.node) home.0 q given hq given_fits
        ∙ ap (put_credit arrival S (owner j.node) q given) lists₁))

    serve_kept : Kept S m (serve_mem S p q j m)
    unfolding serve_mem
    serve_kept = kept_then S m q₁ _ k₁ (kept_then S q₁ q₂ _ k₂ (kept_then S q₂ q₃ _ k₃ (column_kept S ok q₃ k₃.tidy last p q hp)))

  -- ---- every act

  record Painted (m' : List ℕ) (L' : Ledger) : Type 0 where
    kept : Kept S m m'
    shows : ledger_in S m' ≡ L'

  same : Painted m L
  same = record { kept = record { settings = refl; same_length = refl; past = refl; tidy = tidy_of }; shows = refl }

  -- a tick writes what it changes of the ledger
  tick_painted : (c : Clock) (p : ℕ) (k : Packet) (m' : List ℕ) (N : Ledger) → p < S.ports → Painted m' N → Painted (tick_mem S c p k m') (ticked c p k N)
  unfolding tick_mem ticked
  tick_painted untimed p k m' N has_port f = f
  tick_painted (at time) p k m' N has_port f =
      let b : ℕ = bucket_of (wait_of time k.stamp) in
      let i : ℕ = bucket# p b in
      let h : i < tall S buckets = bucket_lt S p b has_port (bucket_in (wait_of time k.stamp)) in
      let v : get S m' Buckets i ≡ bucket_at N p b =
      unfold ledger_in in
      (sym (get_d_table (get S m' Buckets) (tall S buckets) i 0 h) ∙ ap (λ (L' : Ledger). bucket_at L' p b) f.shows) in
      record {
        kept = kept_then S m m' _ f.kept (column_kept S ok m' f.kept.tidy buckets i (one_more (get S m' Buckets i)) h);
        shows =
            column_paint S ok m' f.kept.tidy buckets i (one_more (get S m' Buckets i)) h (one_more_in _ (get_lt S m' Buckets i))
            ∙ ap₂ (λ (n : ℕ) (L' : Ledger). put_in buckets i (one_more n) L') v f.shows;
      }

  turn_painted : (c : Clock) (p w : ℕ) → p < S.ports
      → (eqb w 0 ≡ false → (pick (last_of L p) w < S.queues) × (is_empty (list_at S L (prefetched p (pick (last_of L p) w))) ≡ false))
      → Painted (turn_mem S c p w m) (turned S L c p w).1
  turn_painted c p w hp some = go (eqb w 0) some
    where
      t : ℕ
      t = pick (last_of L p) w

      sent : Packet
      sent = packet_at S m (head_of S m (prefetched p t))

      serves : t < S.queues → is_empty (list_at S L (prefetched p t)) ≡ false
          → Painted (tick_mem S c p sent (serve_mem S p t sent m)) (serve S L c p t).1
      serves h e =
          subst (λ (k : Packet). Painted (tick_mem S c p k (serve_mem S p t k m)) (serve S L c p t).1) (j_is p t hp h e)
          (tick_painted c p (first_of S L (prefetched p t)) _ _ hp (record { kept = serve_kept p t hp h e; shows = serve_paint p t hp h e }))

      go : (b : Bool) → (b ≡ false → (t < S.queues) × (is_empty (list_at S L (prefetched p t)) ≡ false))
          → Painted (cond b m (tick_mem S c p sent (serve_mem S p t sent m))) (cond b (idle, L) (serve S L c p t)).1
      go true f = same
      go false f = serves (f refl).0 (f refl).1

  painted : (a : Act) → Clear (rules S L a) → Painted (write S m a) (result S L a).1
  painted (arrive p h) c =
      let a = admits S L p h c in
      record { kept = arrive_kept p h a; shows = arrive_paint p h a }
  painted (stitch p) c =
      let hp = leb_no S.ports p c.0 in
      let v_in : PlaceIn S (ingress p) = (hp, some_queue S ok L o) in
      let f = first_fits S ok L o (ingress p) v_in c.1.0 in
      let w_in : (k : Packet) → first_of S L (ingress p) ≡ k → PlaceIn S (egress (map_of L k.dest) k.queue) =
      λ k i. subst (λ (k : Packet). PlaceIn S (egress (map_of L k.dest) k.queue)) i
      (o.ranges.numbers_in mapped (first_of S L (ingress p)).dest (dest_mapped S ok (first_of S L (ingress p)).dest f.2.dest_in), f.2.queue_in_range) in
      let k_is = first_held (ingress p) v_in (omega arith) c.1.0 in
      subst (λ (k : Packet). Painted (move_mem S (ingress p) (egress (map_of L k.dest) k.queue) m) (result S L (stitch p)).1) k_is
      (record {
        kept =
            move_kept (ingress p) (egress (map_of L (first_of S L (ingress p)).dest) (first_of S L (ingress p)).queue) v_in
            (w_in (first_of S L (ingress p)) refl) c.1.0;
        shows =
            held_paint (ingress p) (egress (map_of L (first_of S L (ingress p)).dest) (first_of S L (ingress p)).queue) v_in
            (w_in (first_of S L (ingress p)) refl) c.1.0 (omega arith) (omega arith);
      })
  painted (prefetch p q) c =
      let hp = leb_no S.ports p c.0 in
      let hq = leb_no S.queues q c.1.0 in
      record {
        kept = move_kept (egress p q) (prefetched p q) (hp, hq) (hp, hq) c.1.1.0;
        shows = held_paint (egress p q) (prefetched p q) (hp, hq) (hp, hq) c.1.1.0 (omega arith) (omega arith);
      }
  painted (credit p q n) c =
      let hp = leb_no S.ports p c.0 in
      let hq = leb_no S.queues q (or_left (lib.Dec.leb S.queues q) (eqb q 0) c.1.0) in
      let v : outward_of S L p q + n < 65536 = omega (arith, ltb_no 65535 (outward_of S L p q + n) c.1.1.0) in
      record {
        kept = credit_kept S ok m tidy_of outward refl p hp q (outward_of S L p q + n) hq;
        shows = credit_paint S ok m tidy_of outward refl p hp q (outward_of S L p q + n) hq v;
      }
  painted (map_to d p) c =
      let hd = leb_no ids d c.0 in
      let hp = leb_no S.ports p c.1.0 in
      record {
        kept = column_kept S ok m tidy_of mapped d p hd;
        shows = column_paint S ok m tidy_of mapped d p hd (omega (arith, ok.few_ports));
      }
  painted (turn t p) c =
      let hp = leb_no S.ports p c.0 in
      turn_painted t p (ready_word S L p) hp (picked_some S ok L o p hp)
  painted (ready p) c = same
  painted (where_is y) c = same
  painted (clear p) c =
      let hp = leb_no S.ports p c.0 in
      record { kept = column_kept S ok m tidy_of halted p 0 hp; shows = column_paint S ok m tidy_of halted p 0 hp (omega arith) }
  painted (report p) c = same
  painted (bucket p b) c = same
  painted (show ns p q) c = same

  -- a refusal writes what it changes of the ledger
  mark_painted : (p n : ℕ) → Painted (mark_mem S p n m) (marked_for S p n L)
  unfolding mark_mem marked_for ledger_in
  mark_painted p n = go (marks S p (mark_of L p) n) refl (dec_lt p S.ports)
    where
      go : (b : Bool) → marks S p (mark_of L p) n ≡ b → Dec (p < S.ports)
          → Painted (cond (marks S p (get S m Halted p) n) (put S Halted p n m) m) (cond b (put_in halted p n L) L)
      go true e h =
          let hp = marks_port S p (mark_of L p) n e in
          let v : get S m Halted p ≡ mark_of L p = sym (get_d_table (get S m Halted) S.ports p 0 hp) in
          rw (v, e)
          (record {
            kept = column_kept S ok m tidy_of halted p n hp;
            shows = column_paint S ok m tidy_of halted p n hp (halts_low n (marks_halts S p (mark_of L p) n e));
          })
      go false e (yes hp) =
          let v : get S m Halted p ≡ mark_of L p = sym (get_d_table (get S m Halted) S.ports p 0 hp) in
          rw (v, e) same
      go false e (no h) = rw (marks_in_lem S p (get S m Halted p) n h) same

  refused_painted : (n : ℕ) (a : Act) → Painted (refused_mem S n a m) (on_refusal S n a L)
  unfolding refused_mem on_refusal
  refused_painted n (arrive p h) = mark_painted p n
  refused_painted n (stitch p) = same
  refused_painted n (prefetch p q) = same
  refused_painted n (credit p q v) = same
  refused_painted n (map_to d p) = same
  refused_painted n (turn c p) = same
  refused_painted n (ready p) = same
  refused_painted n (where_is y) = same
  refused_painted n (clear p) = same
  refused_painted n (report p) = same
  refused_painted n (bucket p b) = same
  refused_painted n (show ns p q) = same

  -- so an act leaves what the desk's step leaves
  act_painted : (a : Act) → ((acted S m a).0 ≡ (step S L a).0) × Painted (acted S m a).1 (step S L a).1
  unfolding acted
  act_painted a = go (rules S L a) (painted a)
    where
      bytes : List Rule → Reply × List ℕ
      bytes rs = guard rs (λ n. (refused n, refused_mem S n a m)) ((result S L a).0, write S m a)

      ledger : List Rule → Reply × Ledger
      ledger rs = guard rs (λ n. (refused n, on_refusal S n a L)) (result S L a)

      go : (rs : List Rule) → (Clear rs → Painted (write S m a) (result S L a).1) → ((bytes rs).0 ≡ (ledger rs).0) × Painted (bytes rs).1 (ledger rs).1
      go [] f = (refl, f tt)
      go (refuse n true ∷ rs) f = (refl, refused_painted n a)
      go (refuse n false ∷ rs) f = go rs (λ c. f (refl, c))

  -- and memory is a state again
  act_state : (a : Act) → StateOf S (acted S m a).1
  act_state a =
      let w = (act_painted a).1 in
      record {
        long = omega (arith, s.long, w.kept.same_length);
        hangs = w.kept.tidy.hangs;
        sound = record {
          rows = s.sound.rows;
          orderly = subst (Orderly S) (sym w.shows) (keep_step S ok L o a);
          marked = subst (Marked S) (sym w.shows) (keep_marked S ok L o a s.sound.marked);
        };
      }

-- ---- every call, on every memory

guard_map : {X Y : Type 0} (f : X → Y) (rs : List Rule) (no' : ℕ → X) (out : X) → f (guard rs no' out) ≡ guard rs (λ n. f (no' n)) (f out)
guard_map f [] no' out = refl
guard_map f (refuse n true ∷ rs) no' out = refl
guard_map f (refuse n false ∷ rs) no' out = guard_map f rs no' out

-- two guards with the same rules agree where their outcomes do
guard_same : {X : Type 0} (rs : List Rule) (no₁ no₂ : ℕ → X) (out₁ out₂ : X) → ((n : ℕ) → no₁ n ≡ no₂ n) → (Clear rs → out₁ ≡ out₂)
    → guard rs no₁ out₁ ≡ guard rs no₂ out₂
guard_same [] no₁ no₂ out₁ out₂ f g = g tt
guard_same (refuse n true ∷ rs) no₁ no₂ out₁ out₂ f g = f n
guard_same (refuse n false ∷ rs) no₁ no₂ out₁ out₂ f g = guard_same rs no₁ no₂ out₁ out₂ f (λ c. g (refl, c))

-- a reply and a memory, as a reply and a desk
abbrev pub pictured : Reply × List ℕ → Reply × Desk
pictured out = (out.0, picture out.1)

acted_square : (m : List ℕ) → State m → (a : Act) → pictured (acted (settings_in m) m a) ≡ desk (length m) (picture m) (act a)
acted_square m s a =
    let S : Settings = settings_in m in
    let ok : Roomy S = roomy S s.sound.rows in
    let w = act_painted S ok m s a in
    rw (picture_state m s, w.0)
    (ap (λ (E : Desk). ((step S (ledger_in S m) a).0, E))
    (picture_is S (acted S m a).1 (step S (ledger_in S m) a).1 w.1.kept.settings (act_state S ok m s a) w.1.shows))

pub square : (c : Call) (m : List ℕ) → pictured (M c m) ≡ desk (length m) (picture m) c
unfolding M
square (setup T) m =
    guard_map pictured (setup_rules (length m) T) (λ r. (refused r, m)) (done, setup_mem T m)
    ∙ guard_same (setup_rules (length m) T) (λ r. pictured (refused r, m)) (λ r. (refused r, picture m)) (pictured (done, setup_mem T m))
    (done, has T (start T))
    (λ r. refl)
    (λ c. ap (λ (E : Desk). (done, E)) (setup_picture T (not_yes (in_rows T) c.0) m))
square (act a) m = go (state_dec m)
  where
    go : (d : Dec (State m)) → pictured (tested m d a) ≡ desk (length m) (picture m) (act a)
    go (yes s) = acted_square m s a
    go (no n) = rw (picture_none m n)

-- ---- what no call touches

-- a refusal of anything but an arrival changes no byte
pub refusal_keeps_bytes : (c : Call) (m : List ℕ) → is_arrival_call c ≡ false → is_refused (M c m).0 ≡ true → (M c m).1 ≡ m
unfolding M acted
refusal_keeps_bytes (setup T) m other =
    guarded {X = Reply × List ℕ} (λ out. is_refused out.0 ≡ true → out.1 ≡ m) (setup_rules (length m) T) (λ r. (refused r, m))
    (done, setup_mem T m) (λ r e. refl) (λ c e. absurd (true≢false (sym e)))
refusal_keeps_bytes (act a) m other = go (state_dec m)
  where
    go : (d : Dec (State m)) → is_refused (tested m d a).0 ≡ true → (tested m d a).1 ≡ m
    go (yes s) =
        guarded {X = Reply × List ℕ} (λ out. is_refused out.0 ≡ true → out.1 ≡ m)
        (rules (settings_in m) (ledger_in (settings_in m) m) a) (λ n. (refused n, refused_mem (settings_in m) n a m))
        ((result (settings_in m) (ledger_in (settings_in m) m) a).0, write (settings_in m) m a) (λ n e. kept_else (settings_in m) n a m other)
        (λ c e. absurd (true≢false (sym e ∙ result_given (settings_in m) (ledger_in (settings_in m) m) a)))
    go (no n) = λ e. refl

-- an arrival's writes the arriving port's mark, if it halts the port, and nothing else: on any memory, since what is no state is refused 3
pub refusal_marks_bytes : (p : ℕ) (h : Load) (m : List ℕ) (n : ℕ) → (M (act (arrive p h)) m).0 ≡ refused n
    → (M (act (arrive p h)) m).1 ≡ mark_mem (settings_in m) p n m
unfolding M acted
refusal_marks_bytes p h m n = go (state_dec m)
  where
    S : Settings
    S = settings_in m

    go : (d : Dec (State m)) → (tested m d (arrive p h)).0 ≡ refused n → (tested m d (arrive p h)).1 ≡ mark_mem S p n m
    go (yes s) =
        guarded {X = Reply × List ℕ} (λ out. out.0 ≡ refused n → out.1 ≡ mark_mem S p n m)
        (rules S (ledger_in S m) (arrive p h)) (λ i. (refused i, refused_mem S i (arrive p h) m))
        ((result S (ledger_in S m) (arrive p h)).0, write S m (arrive p h))
        (λ i e. unfold refused_mem in (ap (λ (j : ℕ). mark_mem S p j m) (let z : i ≡ n = cc in z)))
        (λ c e. absurd (let z : ◌≡◌ {A = ℕ} 0 1 = cc in omega arith))
    go (no f) = λ e.
        let z : n ≡ 3 = cc in
        sym (ap (λ (j : ℕ). mark_mem S p j m) z ∙ unfold mark_mem in (rw (marks_not S p (get S m Halted p) 3 (unfold halts in refl))))

-- bytes from the size on are never changed, nor is the length
pub past_kept : (a : Act) (m : List ℕ) → (drop (size (settings_in m)) (M (act a) m).1 ≡ drop (size (settings_in m)) m) × (length (M (act a) m).1 ≡ length m)
unfolding M acted
past_kept a m = go (state_dec m)
  where
    S : Settings
    S = settings_in m

    go : (d : Dec (State m)) → (drop (size S) (tested m d a).1 ≡ drop (size S) m) × (length (tested m d a).1 ≡ length m)
    go (yes s) = let w = (act_painted S (roomy S s.sound.rows) m s a).1 in (w.kept.past, w.kept.same_length)
    go (no n) = (refl, refl)

-- an act on a state leaves a state of the same settings
pub record StillOf (S : Settings) (m' : List ℕ) : Type 0 where
  pub settings : settings_in m' ≡ S
  pub state : StateOf S m'

pub act_keeps : (S : Settings) (m : List ℕ) → settings_in m ≡ S → StateOf S m → (a : Act) → StillOf S (acted S m a).1
act_keeps S m e s a =
    let ok = roomy S s.sound.rows in
    record { settings = (act_painted S ok m s a).1.kept.settings ∙ e; state = act_state S ok m s a }
