-- Each way in which a call changes the ledger keeps (b) to (g). Assumes nothing.
use mathlib.Core.Path.{◌≡◌, refl, sym, ap, ◌∙◌, subst}
use mathlib.Core.Logic.{◌≢◌, ◌⊎◌, inl, inr, ⊎_elim}
use mathlib.Core.Bool.{Bool, true, false, cond, ◌&&◌}
use mathlib.Core.List.{List, [], ◌∷◌}
use Prim.Native.Nat.{ℕ, zero, suc, ◌+◌, ◌-◌, ◌*◌, ◌≤◌, ◌<◌, zero-le, suc-le-suc}
use native.Mathlib.Omega.{arith}
use native.Mathlib.Decide.{ℕ_discrete}
use lib.ListN.{length, get_or, set, drop, length-set, length-append}
use lib.Dec.{eqb}
use Rattle.ledger.specs.Settings.{Settings, row}
use Rattle.ledger.specs.Header.{price}
use Rattle.ledger.specs.Ledger.{owner, Packet, Place, prefetched, place#, place_of, Ledger, list_at, arrival_of, behind, pop, push, move, PlaceIn}
use Rattle.ledger.specs.Ledger.{put_credit, put_in, set_credit, arrival, outward, Column, tall, bound, change, credit_at, cell}
use Rattle.ledger.specs.Ready.{bit}
use Rattle.ledger.specs.Calls.{is_empty, first_of}
use Rattle.ledger.specs.Sound.{Everywhere, weigh, one, Once, OwnPort, OwnQueue, Proper, WellRecorded, owes, due, owed, Orderly, Roomy}
use Rattle.ledger.proofs.Tests.{eqb_yes, eqb_no}
use Rattle.ledger.proofs.Lists.{drop_le, weigh_pop, weigh_push, length_pop, length_push, at_push_other, at_push, at_pop_other, at_pop}
use Rattle.ledger.proofs.Lists.{All-front, everywhere_map, everywhere_both, everywhere_pop, everywhere_push, counted}
use Rattle.ledger.proofs.Header.{price_free}
use Rattle.ledger.proofs.Places.{place#_lt, place_number, place#_inj, place#_other, Node, node_of, length_credit, credit_none}
use Rattle.ledger.proofs.Places.{credit_at_lem, credit_other, cells_all, set_lt, credit_lt}
use Rattle.ledger.proofs.Columns.{changed, change_other}

-- a node owes its price to its owner's queue, and nothing to any other
pub owes_cases : (k : Packet) (p q : ℕ)
    → ((owner k.node ≡ p) × (k.queue ≡ q) × (owes p q k ≡ k.price)) ⊎ (((owner k.node ≡ p) → (k.queue ≡ q) → ⊥) × (owes p q k ≡ 0))
owes_cases k p q = go (eqb (owner k.node) p) refl (eqb k.queue q) refl
  where
    go : (a : Bool) → eqb (owner k.node) p ≡ a → (b : Bool) → eqb k.queue q ≡ b
        → ((owner k.node ≡ p) × (k.queue ≡ q) × (cond (a && b) k.price 0 ≡ k.price)) ⊎
        (((owner k.node ≡ p) → (k.queue ≡ q) → ⊥) × (cond (a && b) k.price 0 ≡ 0))
    go true d true e = inl (eqb_yes (owner k.node) p d, eqb_yes k.queue q e, refl)
    go true d false e = inr ((λ h i. eqb_no k.queue q e i), refl)
    go false d b e = inr ((λ h i. eqb_no (owner k.node) p d h), refl)

-- (d), (e) and (f) together: what a place asks of a node in it
abbrev pub Fits : Settings → Place → Packet → Type 0
Fits S v k = OwnPort v k × OwnQueue v k × WellRecorded S v k

module _ (S : Settings) (roomy : Roomy S) (L : Ledger) (s : Orderly S L) where
  pub some_queue : 0 < S.queues
  some_queue = omega (arith, roomy.some_queues)

  pub len : (v : Place) → PlaceIn S v → place# S v < length L.lists
  len v h = omega (arith, place#_lt S v h, s.shaped.lists_long)

  pub nodes : Everywhere (λ l k. Node S k.node) L.lists
  nodes = everywhere_map L.lists (λ l k j. node_of S k.node (omega (arith, s.once k.node))) (counted L.lists)

  pub fits : Everywhere (λ l k. Fits S (place_of S l) k) L.lists
  fits =
      everywhere_both L.lists (λ l k a b. (a, b.0, b.1)) s.owned
      (everywhere_both {W = λ l k. OwnQueue (place_of S l) k × WellRecorded S (place_of S l) k} L.lists (λ l k a b. (a, b)) s.queued s.proper)

  -- what is known of the oldest node of a place
  module _ (v : Place) (h : PlaceIn S v) (e : is_empty (list_at S L v) ≡ false) where
    pub first_fits : Fits S v (first_of S L v)
    first_fits =
        subst (λ (u : Place). Fits S u (first_of S L v)) (place_number S v h)
        (All-front (λ k. Fits S (place_of S (place# S v)) k) (list_at S L v) e (fits.holds (place# S v) (len v h)))

    pub first_node : Node S (first_of S L v).node
    first_node = All-front (λ k. Node S k.node) (list_at S L v) e (nodes.holds (place# S v) (len v h))

    -- it goes to the end of place w, as k, which is the same node
    module _ (w : Place) (h' : PlaceIn S w) (k : Packet) (same : k.node ≡ (first_of S L v).node) where
      abbrev moved : List (List Packet)
      moved = push (place# S w) k (pop (place# S v) L.lists)

      to_len : place# S w < length (pop (place# S v) L.lists)
      to_len = omega (arith, length_pop (place# S v) L.lists, len w h')

      weigh_moved : (f : ℕ → Packet → ℕ) → weigh f moved + f (place# S v) (first_of S L v) ≡ weigh f L.lists + f (place# S w) k
      weigh_moved f =
          omega (arith, weigh_push f (place# S w) k (pop (place# S v) L.lists) to_len, weigh_pop f (place# S v) L.lists (len v h) e)

      pub once_moved : Once S moved
      once_moved y = omega (arith, weigh_moved (one y), s.once y, ap (λ (x : ℕ). bit (eqb x y)) same)

      long_moved : length moved ≡ S.ports * row S
      long_moved = length_push (place# S w) k (pop (place# S v) L.lists) ∙ length_pop (place# S v) L.lists ∙ s.shaped.lists_long

      everywhere_moved : (P : ℕ → Packet → Type 0) → Everywhere P L.lists → P (place# S w) k → Everywhere P moved
      everywhere_moved P a b = everywhere_push (place# S w) k (pop (place# S v) L.lists) to_len (everywhere_pop (place# S v) L.lists (len v h) a) b

      at_w : (P : Place → Packet → Type 0) → P w k → P (place_of S (place# S w)) k
      at_w P a = rw (place_number S w h') a

      -- what is owed changes by what the node owes there and owed here
      pub owed_moved : (p q : ℕ) → weigh (owed S p q) moved + due p q v (first_of S L v) ≡ weigh (owed S p q) L.lists + due p q w k
      owed_moved p q =
          let e₁ = weigh_moved (owed S p q) in
          rw (place_number S v h, place_number S w h') at e₁

      -- where the lists stand afterwards
      module _ (apart : v ≢ w) where
        pub from_moved : list_at S (move S v w k L) v ≡ drop 1 (list_at S L v)
        unfolding move
        from_moved =
            at_push_other (place# S w) k (place# S v) (pop (place# S v) L.lists) (place#_other S v w h h' apart)
            ∙ at_pop (place# S v) L.lists (len v h)

        pub to_moved : list_at S (move S v w k L) w ≡ behind k (list_at S L w)
        unfolding move
        to_moved =
            at_push (place# S w) k (pop (place# S v) L.lists) to_len
            ∙ ap (behind k) (at_pop_other (place# S v) (place# S w) L.lists (place#_other S w v h' h (λ i. apart (sym i))))

        pub else_moved : (u : Place) → PlaceIn S u → u ≢ v → u ≢ w → list_at S (move S v w k L) u ≡ list_at S L u
        unfolding move
        else_moved u hu n m =
            at_push_other (place# S w) k (place# S u) (pop (place# S v) L.lists) (place#_other S u w hu h' m)
            ∙ at_pop_other (place# S v) (place# S u) L.lists (place#_other S u v hu h n)

        -- the prefetch lists stay within their slots
        pub slots_moved : ((p q : ℕ) → prefetched p q ≡ w → length (list_at S L w) < S.slots)
            → (p q : ℕ) → p < S.ports → q < S.queues → length (list_at S (move S v w k L) (prefetched p q)) ≤ S.slots
        slots_moved f p q hp hq = go (ℕ_discrete (place# S (prefetched p q)) (place# S w)) (ℕ_discrete (place# S (prefetched p q)) (place# S v))
          where
            same_place_lem : (u : Place) → PlaceIn S u → place# S (prefetched p q) ≡ place# S u → prefetched p q ≡ u
            same_place_lem u hu i = place#_inj S (prefetched p q) u (hp, hq) hu i

            go : Dec (place# S (prefetched p q) ≡ place# S w) → Dec (place# S (prefetched p q) ≡ place# S v)
                → length (list_at S (move S v w k L) (prefetched p q)) ≤ S.slots
            go (yes i) d =
                rw (i, to_moved) (omega (arith, f p q (same_place_lem w h' i), length-append (list_at S L w) (k ∷ [])))
            go (no i) (yes j) =
                rw (j, from_moved)
                (let a : length (list_at S L v) ≤ S.slots = rw j at (s.ranges.slots_in p q hp hq) in
                omega (arith, drop_le (list_at S L v), a))
            go (no i) (no j) =
                rw (else_moved (prefetched p q) (hp, hq) (λ z. j (ap (place# S) z)) (λ z. i (ap (place# S) z))) (s.ranges.slots_in p q hp hq)

        -- a movement that changes nothing else, between places where the node owes the same
        pub keep_moved : ((p q : ℕ) → prefetched p q ≡ w → length (list_at S L w) < S.slots) → Fits S w k
            → ((p q : ℕ) → due p q v (first_of S L v) ≡ due p q w k) → Orderly S (move S v w k L)
        unfolding move
        keep_moved f ok same-due = record {
          shaped = record { lists_long = long_moved; numbers_long = s.shaped.numbers_long };
          ranges = record { numbers_in = s.ranges.numbers_in; slots_in = slots_moved f };
          once = once_moved;
          owned = everywhere_moved (λ l j. OwnPort (place_of S l) j) s.owned (at_w OwnPort ok.0);
          queued = everywhere_moved (λ l j. OwnQueue (place_of S l) j) s.queued (at_w OwnQueue ok.1);
          proper = everywhere_moved (λ l j. WellRecorded S (place_of S l) j) s.proper (at_w (WellRecorded S) ok.2);
          paid = λ p q hp h0 hq. omega (arith, owed_moved p q, same-due p q, s.paid p q hp h0 hq);
        }

        -- a movement with which the arrival credit of one port and queue changes by as much as is owed
        pub keep_traded : ((p q : ℕ) → prefetched p q ≡ w → length (list_at S L w) < S.slots) → Fits S w k
            → (a t c : ℕ)
            → ((p q : ℕ) → q < S.queues → arrival_of S (put_credit arrival S a t c L) p q + due p q w k ≡ arrival_of S L p q + due p q v (first_of S L v))
            → Orderly S (put_credit arrival S a t c (move S v w k L))
        keep_traded f ok a t c traded = record {
          shaped = record {
            lists_long = unfold move change in long_moved;
            numbers_long = changed arrival give N (λ d xs. length xs ≡ tall S d)
                (length_credit S (N.numbers arrival) a t c ∙ unfold move in (s.shaped.numbers_long arrival))
                (unfold move in s.shaped.numbers_long);
          };
          ranges = record {
            numbers_in = changed arrival give N (λ d xs. (i : ℕ) → i < tall S d → get_or xs i 0 < bound S d)
                (cells_all S roomy.some_queues (λ i. get_or (give (N.numbers arrival)) i 0 < 65536) in_cell)
                (unfold move in s.ranges.numbers_in);
            slots_in = unfold change in (slots_moved f);
          };
          once = unfold move change in once_moved;
          owned = unfold move change in (everywhere_moved (λ l j. OwnPort (place_of S l) j) s.owned (at_w OwnPort ok.0));
          queued = unfold move change in (everywhere_moved (λ l j. OwnQueue (place_of S l) j) s.queued (at_w OwnQueue ok.1));
          proper = unfold move change in (everywhere_moved (λ l j. WellRecorded S (place_of S l) j) s.proper (at_w (WellRecorded S) ok.2));
          paid = unfold move change in paid_traded;
        }
          where
            N : Ledger
            N = move S v w k L

            give : List ℕ → List ℕ
            give xs = set_credit S xs a t c

            paid_traded : (p q : ℕ) → p < S.ports → 0 < q → q < S.queues
                → arrival_of S (put_credit arrival S a t c L) p q + weigh (owed S p q) moved ≡ S.credit
            paid_traded p q hp h0 hq = omega (arith, owed_moved p q, traded p q hq, s.paid p q hp h0 hq)

            in_cell : (p r : ℕ) → p < S.ports → suc r < S.queues → get_or (give (N.numbers arrival)) (cell S p r) 0 < 65536
            in_cell p r hp hr =
                let e = paid_traded p (suc r) hp (suc-le-suc zero-le) hr in
                unfold move change credit_at in omega (arith, e, roomy.low_credit)

  -- ---- a column that is no arrival credit

  pub keep_changed : (c : Column) → c ≢ arrival → (f : List ℕ → List ℕ) → length (f (L.numbers c)) ≡ length (L.numbers c)
      → ((i : ℕ) → i < tall S c → get_or (f (L.numbers c)) i 0 < bound S c) → Orderly S (change c f L)
  keep_changed c other f same low = record {
    shaped = record {
      lists_long = unfold change in s.shaped.lists_long;
      numbers_long = changed c f L (λ d xs. length xs ≡ tall S d) (same ∙ s.shaped.numbers_long c) s.shaped.numbers_long;
    };
    ranges = record {
      numbers_in = changed c f L (λ d xs. (i : ℕ) → i < tall S d → get_or xs i 0 < bound S d) low s.ranges.numbers_in;
      slots_in = unfold change in s.ranges.slots_in;
    };
    once = unfold change in s.once;
    owned = unfold change in s.owned;
    queued = unfold change in s.queued;
    proper = unfold change in s.proper;
    paid = λ p q hp h0 hq.
        ap (λ (xs : List ℕ). credit_at S xs p q + weigh (owed S p q) (change c f L).lists) (change_other c f L arrival other)
        ∙ unfold change in (s.paid p q hp h0 hq);
  }

  pub keep_put : (c : Column) → c ≢ arrival → (i v : ℕ) → v < bound S c → Orderly S (put_in c i v L)
  keep_put c other i v h =
      keep_changed c other (λ xs. set xs i v) (length-set (L.numbers c) i v)
      (λ j k. set_lt (L.numbers c) i v j (bound S c) h (s.ranges.numbers_in c j k))

  pub keep_outward : (p q v : ℕ) → v ≤ 65535 → Orderly S (put_credit outward S p q v L)
  keep_outward p q v h =
      keep_changed outward (λ e. let z : ◌≡◌ {A = ℕ} 0 1 = cc in omega arith) (λ xs. set_credit S xs p q v) (length_credit S (L.numbers outward) p q v)
      (λ i k. credit_lt S (L.numbers outward) p q v i 65536 (omega arith) (s.ranges.numbers_in outward i k))

  -- ---- arrival credit trades with what is owed

  price_zero : (k : Packet) → Proper S k → k.queue ≡ 0 → k.price ≡ 0
  price_zero k h e = h.price_is ∙ ap (λ (q : ℕ). price S.beat q k.len) e ∙ price_free S.beat k.len

  -- node k comes to owe, or owes no more, what the credit of its port and queue falls, or rises, by
  module _ (k : Packet) (good : Proper S k) (home : owner k.node < S.ports) where
    abbrev own : ℕ
    own = owner k.node

    -- queue 0 has no credit, and owes none
    nothing_owed : (r : ℕ) → owes r 0 k ≡ 0
    nothing_owed r = go (owes_cases k r 0)
      where
        go : ((own ≡ r) × (k.queue ≡ 0) × (owes r 0 k ≡ k.price)) ⊎ (((own ≡ r) → (k.queue ≡ 0) → ⊥) × (owes r 0 k ≡ 0)) → owes r 0 k ≡ 0
        go (inl h) = h.2 ∙ price_zero k good h.1
        go (inr h) = h.1

    -- after the credit of k's port and queue has become v: it is v where k owes, and as it was where k owes nothing
    credited : (q v : ℕ) → k.queue ≡ q → (r t : ℕ) → t < S.queues
        → ((arrival_of S (put_credit arrival S own q v L) r t ≡ v) × (owes r t k ≡ k.price) × (arrival_of S L r t ≡ arrival_of S L own q))
        ⊎ ((arrival_of S (put_credit arrival S own q v L) r t ≡ arrival_of S L r t) × (owes r t k ≡ 0))
    unfolding change
    credited q v kq r zero ht =
        inr (credit_none S (set_credit S (L.numbers arrival) own q v) r ∙ sym (credit_none S (L.numbers arrival) r), nothing_owed r)
    credited q v kq r (suc t) ht = ⊎_elim (λ h. inl (owing h)) (λ h. inr (clear h)) (owes_cases k r (suc t))
      where
        hq : q < S.queues
        hq = omega (arith, good.queue_in_range)

        owing : (own ≡ r) × (k.queue ≡ suc t) × (owes r (suc t) k ≡ k.price)
            → (arrival_of S (put_credit arrival S own q v L) r (suc t) ≡ v) × (owes r (suc t) k ≡ k.price) × (arrival_of S L r (suc t) ≡ arrival_of S L own q)
        owing h =
            let qt : q ≡ suc t = sym kq ∙ h.1 in (
              credit_at_lem S (L.numbers arrival) own q v (s.shaped.numbers_long arrival) home hq r (suc t) h.0 qt (suc-le-suc zero-le),
              h.2,
              ap (λ (a : ℕ). arrival_of S L a (suc t)) (sym h.0) ∙ ap (λ (b : ℕ). arrival_of S L own b) (sym qt),
            )

        clear : ((own ≡ r) → (k.queue ≡ suc t) → ⊥) × (owes r (suc t) k ≡ 0)
            → (arrival_of S (put_credit arrival S own q v L) r (suc t) ≡ arrival_of S L r (suc t)) × (owes r (suc t) k ≡ 0)
        clear h = (
          credit_other S (L.numbers arrival) own q v (s.shaped.numbers_long arrival) home hq r (suc t) ht (λ a b. h.0 a (kq ∙ b)),
          h.1,
        )

    pub lowered : k.price ≤ arrival_of S L own k.queue → (r t : ℕ) → t < S.queues
        → arrival_of S (put_credit arrival S own k.queue (arrival_of S L own k.queue - k.price) L) r t + owes r t k ≡ arrival_of S L r t
    lowered afford r t ht =
        ⊎_elim (λ h. omega arith) (λ h. omega arith) (credited k.queue (arrival_of S L own k.queue - k.price) refl r t ht)

    pub raised : (q : ℕ) → k.queue ≡ q → (r t : ℕ) → t < S.queues
        → arrival_of S (put_credit arrival S own q (arrival_of S L own q + k.price) L) r t ≡ arrival_of S L r t + owes r t k
    raised q kq r t ht = ⊎_elim (λ h. omega arith) (λ h. omega arith) (credited q (arrival_of S L own q + k.price) kq r t ht)
