-- The line of a port and queue: it moves on at every chance, so who stands in it with credit in hand leaves soon. Assumes nothing.
use mathlib.Core.Path.{◌≡◌, refl, sym, ap, ap₂, ◌∙◌, subst}
use mathlib.Core.Logic.{◌≢◌, ◌⊎◌, inl, inr}
use mathlib.Core.Bool.{Bool, true, false, cond, not, ◌&&◌, ◌||◌}
use mathlib.Core.List.{List, [], ◌∷◌, ◌++◌, append_assoc, append-nil}
use Prim.Native.Nat.{ℕ, zero, suc, ◌+◌, ◌-◌, ◌*◌, ◌≤◌, ◌<◌, zero-le}
use native.Mathlib.Omega.{arith}
use native.Mathlib.Decide.{ℕ_discrete}
use lib.ListN.{length, get_or, set, drop, length-append}
use lib.Seq.{get_or-set_same, get_or-set_other}
use lib.Dec.{eqb, leb}
use Rattle.ledger.specs.Settings.{Settings}
use Rattle.ledger.specs.Header.{Load}
use Rattle.ledger.specs.Rules.{Clear}
use Rattle.ledger.specs.Ledger.{owner, Packet, bare, recorded, Place, free, ingress, egress, prefetched, place#, Ledger, list_at, outward_of}
use Rattle.ledger.specs.Ledger.{last_of, map_of, credit_at, set_credit, cell, move, outward, last, mapped, change, PlaceIn}
use Rattle.ledger.specs.Ready.{bit, covered, is_ready, ready_word, pick}
use Rattle.ledger.specs.Calls.{Act, arrive, stitch, prefetch, credit, map_to, turn, ready, where_is, Reply, idle, leaves, side_of}
use Rattle.ledger.specs.Calls.{clear, report, bucket, show, is_empty, first_of, arriving, arrived, served}
use Rattle.ledger.specs.Calls.{ticked, serve, turned, rules, result, step, on_refusal}
use Rattle.ledger.specs.Buckets.{Clock}
use Rattle.ledger.specs.Sound.{sum, Orderly, Roomy}
use Rattle.ledger.specs.Demand.{is_turn, InHand}
use Rattle.ledger.specs.Door.{line_of}
use Rattle.ledger.proofs.Header.{dest_mapped}
use Rattle.ledger.proofs.Tests.{true≢false, leb_is, leb_no, leb_not, eqb_is, eqb_yes, eqb_no, or_is, or_is_right}
use Rattle.ledger.proofs.Lists.{cons_form}
use Rattle.ledger.proofs.Places.{credit_same, credit_other}
use Rattle.ledger.proofs.Keep.{some_queue, first_fits, first_node, from_moved, to_moved, else_moved}
use Rattle.ledger.proofs.Ready.{gap, gap_pos, gap_le, word_some, picked_nearer}
use Rattle.ledger.proofs.Passes.{Admits, admits}
use Rattle.ledger.proofs.Buckets.{ticked_lists, ticked_numbers}
use Rattle.ledger.proofs.Steps.{picked_some, stepped, refused_lists, refused_numbers}
use Rattle.ledger.proofs.Walk.{Does, ends, nears, Course}

-- a chance for queue q of port p: a turn of p that finds the slots of q not empty
abbrev pub is_chance : Settings → ℕ → ℕ → Ledger → Act → Bool
is_chance S p q L a = is_turn p a && not (is_empty (list_at S L (prefetched p q)))

-- the act is a turn of port p, timed or not, at which packet k leaves by queue q
pub record Leaving (S : Settings) (p q : ℕ) (k : Packet) (L : Ledger) (a : Act) : Type 0 where
  pub clock : Clock
  pub a_turn : a ≡ turn clock p
  pub it_leaves : (step S L a).0 ≡ leaves k (side_of q)

-- adding to one credit lowers none
raise_ge : (S : Settings) (xs : List ℕ) (p q n p' q' : ℕ)
    → credit_at S xs p' q' ≤ credit_at S (set_credit S xs p q (credit_at S xs p q + n)) p' q'
unfolding credit_at set_credit
raise_ge S xs p zero n p' q' = omega arith
raise_ge S xs p (suc r) n p' zero = zero-le
raise_ge S xs p (suc r) n p' (suc s) = go xs (cell S p r) (cell S p' s)
  where
    go : (ys : List ℕ) (i j : ℕ) → get_or ys j 0 ≤ get_or (set ys i (get_or ys i 0 + n)) j 0
    go [] i j = zero-le
    go (y ∷ ys) zero zero = omega arith
    go (y ∷ ys) zero (suc j) = omega arith
    go (y ∷ ys) (suc i) zero = omega arith
    go (y ∷ ys) (suc i) (suc j) = go ys i j

-- a list with more behind it is no emptier
still_some : (xs ys : List Packet) → is_empty xs ≡ false → is_empty (xs ++ ys) ≡ false
still_some [] ys e = absurd (true≢false e)
still_some (x ∷ xs) ys e = refl

-- a movement from another list lets a list be, or puts one behind it
pub grown_moved : (S : Settings) (ok : Roomy S) (L : Ledger) → Orderly S L → (v w : Place) → PlaceIn S v → PlaceIn S w
    → is_empty (list_at S L v) ≡ false → v ≢ w
    → (k : Packet) → k.node ≡ (first_of S L v).node → (u : Place) → PlaceIn S u → v ≢ u
    → (more : List Packet) × (list_at S (move S v w k L) u ≡ list_at S L u ++ more)
grown_moved S ok L s v w hv hw e d k same u hu n = go (ℕ_discrete (place# S u) (place# S w))
  where
    go : Dec (place# S u ≡ place# S w) → (more : List Packet) × (list_at S (move S v w k L) u ≡ list_at S L u ++ more)
    go (yes i) = (k ∷ [], rw i (to_moved S ok L s v hv e w hw k same d))
    go (no i) =
        let o = else_moved S ok L s v hv e w hw k same d u hu (λ z. n (sym z)) (λ z. i (ap (place# S) z)) in
        ([], o ∙ sym (append-nil (list_at S L u)))

-- where a stitch takes the oldest of an ingress list is a place of the switch
pub stitch_in : (S : Settings) (ok : Roomy S) (L : Ledger) → Orderly S L → (r : ℕ) → r < S.ports → is_empty (list_at S L (ingress r)) ≡ false
    → (k : Packet) → k ≡ first_of S L (ingress r) → PlaceIn S (egress (map_of L k.dest) k.queue)
stitch_in S ok L s r hr e k first =
    let f = rw (← first) at (first_fits S ok L s (ingress r) (hr, some_queue S ok L s) e).2 in
    (s.ranges.numbers_in mapped k.dest (dest_mapped S ok k.dest f.dest_in), f.queue_in_range)

module _ (S : Settings) (ok : Roomy S) (p q : ℕ) (hp : p < S.ports) (hq : q < S.queues) where
  -- the slots of our queue, and its egress list
  abbrev ours : Place
  ours = prefetched p q

  abbrev back : Place
  back = egress p q

  abbrev list_in : List (List Packet) → Place → List Packet
  list_in ls v = get_or ls (place# S v) []

  -- more come into the slots, and more behind the line
  record Grown (ls ms : List (List Packet)) : Type 0 where
    fetched : List Packet
    more : List Packet
    slots_are : list_in ms ours ≡ list_in ls ours ++ fetched
    line_is : list_in ms ours ++ list_in ms back ≡ (list_in ls ours ++ list_in ls back) ++ more

  grown_refl : (ls : List (List Packet)) → Grown ls ls
  grown_refl ls = record { fetched = []; more = []; slots_are = sym (append-nil _); line_is = sym (append-nil _) }

  -- what an act leaves to those who stand in the line: their order and their credit
  record Spared (L M : Ledger) : Type 0 where
    lists : Grown L.lists M.lists
    funded : outward_of S L p q ≤ outward_of S M p q

  spared_refl : (L : Ledger) → Spared L L
  spared_refl L = record { lists = grown_refl L.lists; funded = omega arith }

  -- a movement that takes nothing out of the line, and puts nothing into the slots
  grown_else : (L : Ledger) → Orderly S L → (v w : Place) → PlaceIn S v → PlaceIn S w → is_empty (list_at S L v) ≡ false → v ≢ w
      → (k : Packet) → k.node ≡ (first_of S L v).node → v ≢ ours → v ≢ back → w ≢ ours → Grown L.lists (move S v w k L).lists
  grown_else L s v w hv hw e d k same n₁ n₂ n₃ =
      let a = else_moved S ok L s v hv e w hw k same d ours (hp, hq) (λ z. n₁ (sym z)) (λ z. n₃ (sym z)) in
      let g = grown_moved S ok L s v w hv hw e d k same back (hp, hq) n₂ in
      record {
        fetched = [];
        more = g.0;
        slots_are = a ∙ sym (append-nil (list_at S L ours));
        line_is = ap₂ (λ (xs ys : List Packet). xs ++ ys) a g.1 ∙ sym (append_assoc (list_at S L ours) (list_at S L back) g.0);
      }

  -- our own prefetch: the line stays as it is
  grown_fetched : (L : Ledger) → Orderly S L → is_empty (list_at S L back) ≡ false
      → Grown L.lists (move S back ours (first_of S L back) L).lists
  grown_fetched L s e =
      let k : Packet = first_of S L back in
      let d : back ≢ ours = λ j. let o : ◌≡◌ {A = ℕ} 0 1 = cc in omega arith in
      let to = to_moved S ok L s back (hp, hq) e ours (hp, hq) k refl d in
      record {
        fetched = k ∷ [];
        more = [];
        slots_are = to;
        line_is =
            ap₂ (λ (xs ys : List Packet). xs ++ ys) to (from_moved S ok L s back (hp, hq) e ours (hp, hq) k refl d)
            ∙ append_assoc (list_at S L ours) (k ∷ []) (drop 1 (list_at S L back))
            ∙ ap (λ (ys : List Packet). list_at S L ours ++ ys) (sym (cons_form (list_at S L back) e))
            ∙ sym (append-nil (line_of S L p q));
      }

  spared_arrived : (L : Ledger) → Orderly S L → (r : ℕ) (h : Load) → Admits S L r h → Spared L (arrived S L r (arriving S L r h))
  unfolding arrived change
  spared_arrived L s r h a =
      let v_in : PlaceIn S (free r) = (a.port, some_queue S ok L s) in
      record {
        lists = grown_else L s (free r) (ingress r) v_in v_in a.some (λ i. let z : ◌≡◌ {A = ℕ} 0 1 = cc in omega arith)
            (arriving S L r h) (unfold recorded in refl)
            (λ i. let z : ◌≡◌ {A = ℕ} 0 1 = cc in omega arith) (λ i. let z : ◌≡◌ {A = ℕ} 0 1 = cc in omega arith)
            (λ i. let z : ◌≡◌ {A = ℕ} 0 1 = cc in omega arith);
        funded = unfold move in omega arith;
      }

  spared_stitched : (L : Ledger) → Orderly S L → (r : ℕ) → r < S.ports → is_empty (list_at S L (ingress r)) ≡ false
      → (k : Packet) → k ≡ first_of S L (ingress r) → Spared L (move S (ingress r) (egress (map_of L k.dest) k.queue) k L)
  spared_stitched L s r hr e k first =
      let v_in : PlaceIn S (ingress r) = (hr, some_queue S ok L s) in
      let w_in = stitch_in S ok L s r hr e k first in
      record {
        lists = grown_else L s (ingress r) (egress (map_of L k.dest) k.queue) v_in w_in e
            (λ i. let z : ◌≡◌ {A = ℕ} 0 1 = cc in omega arith) k (ap (λ (j : Packet). j.node) first)
            (λ i. let z : ◌≡◌ {A = ℕ} 0 1 = cc in omega arith) (λ i. let z : ◌≡◌ {A = ℕ} 0 1 = cc in omega arith)
            (λ i. let z : ◌≡◌ {A = ℕ} 0 1 = cc in omega arith);
        funded = unfold move in omega arith;
      }

  spared_fetched : (L : Ledger) → Orderly S L → (r t : ℕ) → r < S.ports → t < S.queues → is_empty (list_at S L (egress r t)) ≡ false
      → Spared L (move S (egress r t) (prefetched r t) (first_of S L (egress r t)) L)
  spared_fetched L s r t hr ht e = record { lists = go (ℕ_discrete r p) (ℕ_discrete t q); funded = unfold move in omega arith }
    where
      other : ((r ≡ p) → (t ≡ q) → ⊥) → Grown L.lists (move S (egress r t) (prefetched r t) (first_of S L (egress r t)) L).lists
      other n =
          grown_else L s (egress r t) (prefetched r t) (hr, ht) (hr, ht) e
          (λ i. let z : ◌≡◌ {A = ℕ} 0 1 = cc in omega arith) (first_of S L (egress r t)) refl
          (λ i. let z : ◌≡◌ {A = ℕ} 0 1 = cc in omega arith) (λ i. n (cc) (cc)) (λ i. n (cc) (cc))

      go : Dec (r ≡ p) → Dec (t ≡ q) → Grown L.lists (move S (egress r t) (prefetched r t) (first_of S L (egress r t)) L).lists
      go (yes i) (yes j) = rw (i, j) (grown_fetched L s (rw (i, j) at e))
      go (yes i) (no j) = other (λ a b. j b)
      go (no i) d = other (λ a b. i a)

  -- a turn that serves another queue
  spared_served : (L : Ledger) → Orderly S L → (r t : ℕ) → r < S.ports → t < S.queues → is_empty (list_at S L (prefetched r t)) ≡ false
      → ((r ≡ p) → (t ≡ q) → ⊥) → Spared L (served S L r t (first_of S L (prefetched r t)))
  unfolding served change
  spared_served L s r t hr ht e n =
      let k : Packet = first_of S L (prefetched r t) in
      record {
        lists = grown_else L s (prefetched r t) (free (owner k.node)) (hr, ht)
            ((first_node S ok L s (prefetched r t) (hr, ht) e).home, some_queue S ok L s) e
            (λ i. let z : ◌≡◌ {A = ℕ} 0 1 = cc in omega arith) (bare k.node) refl
            (λ i. n (cc) (cc)) (λ i. let z : ◌≡◌ {A = ℕ} 0 1 = cc in omega arith) (λ i. let z : ◌≡◌ {A = ℕ} 0 1 = cc in omega arith);
        funded =
            unfold move in
            omega (arith, credit_other S (L.numbers outward) r t (outward_of S L r t - k.price) (s.shaped.numbers_long outward) hr ht p q hq n);
      }

  -- buckets are neither lists nor credits
  spared_ticked : (L M : Ledger) → Spared L M → (c : Clock) (r : ℕ) (j : Packet) → Spared L (ticked c r j M)
  spared_ticked L M g c r j = record {
    lists = rw (ticked_lists c r j M) g.lists;
    funded = rw (ticked_numbers c r j M outward (λ e. let z : ◌≡◌ {A = ℕ} 0 1 = cc in omega arith)) g.funded;
  }

  mark_ticked : (M : Ledger) (c : Clock) (r : ℕ) (j : Packet) → last_of (ticked c r j M) p ≡ last_of M p
  mark_ticked M c r j = rw (ticked_numbers c r j M last (λ e. let z : ◌≡◌ {A = ℕ} 0 1 = cc in omega arith))

  -- ---- waiting: packet k leaves within n chances

  -- how many chances the first of the line has before it, that at which it leaves among them: a whole round of the mark, until it is in
  -- the slots
  abbrev wait : Ledger → ℕ
  wait L = cond (is_empty (list_at S L ours)) S.queues (gap (last_of L p) q S.queues)

  wait_le : (L : Ledger) → wait L ≤ S.queues
  wait_le L = go (is_empty (list_at S L ours))
    where
      go : (b : Bool) → cond b S.queues (gap (last_of L p) q S.queues) ≤ S.queues
      go true = omega arith
      go false = gap_le (last_of L p) q S.queues hq

  wait_pos : (L : Ledger) → Orderly S L → 1 ≤ wait L
  wait_pos L s = go (is_empty (list_at S L ours))
    where
      go : (b : Bool) → 1 ≤ cond b S.queues (gap (last_of L p) q S.queues)
      go true = omega arith
      go false = gap_pos (last_of L p) q S.queues (s.ranges.numbers_in last p hp)

  abbrev Afford : List Packet → Ledger → Type 0
  Afford ks L = InHand S L p q ks

  -- at most d up to k, k among them, stand behind the slots: with d = 0, k stands in the slots
  pub record Waits (d : ℕ) (k : Packet) (n : ℕ) (L : Ledger) : Type 0 where
    pub ahead : List Packet
    pub behind : List Packet
    pub stands : line_of S L p q ≡ ahead ++ (k ∷ behind)
    pub within : length ahead < length (list_at S L ours) + d
    pub affords : Afford (ahead ++ (k ∷ [])) L
    pub soon : length ahead * S.queues + wait L ≤ n

  -- who is spared goes on waiting
  go_on : (d : ℕ) (k : Packet) (n m : ℕ) (L M : Ledger) → Spared L M → Waits d k n L → wait M + n ≤ wait L + m → Waits d k m M
  go_on d k n m L M g w h = record {
    ahead = w.ahead;
    behind = w.behind ++ g.lists.more;
    stands =
        g.lists.line_is
        ∙ ap (λ (l : List Packet). l ++ g.lists.more) w.stands
        ∙ append_assoc w.ahead (k ∷ w.behind) g.lists.more;
    within = omega (arith, w.within, ap length g.lists.slots_are, length-append (list_at S L ours) g.lists.fetched);
    affords = afford w.affords;
    soon = omega (arith, w.soon);
  }
    where
      afford : Afford (w.ahead ++ (k ∷ [])) L → Afford (w.ahead ++ (k ∷ [])) M
      afford (inl e) = inl e
      afford (inr i) = inr (omega (arith, g.funded, i))

  waits_ticked : (d : ℕ) (k : Packet) (m : ℕ) (M : Ledger) (c : Clock) (r : ℕ) (j : Packet) → Waits d k m M → Waits d k m (ticked c r j M)
  waits_ticked d k m M c r j w =
      let same : wait (ticked c r j M) ≡ wait M = rw (ticked_lists c r j M, mark_ticked M c r j) in
      go_on d k m m M (ticked c r j M) (spared_ticked M M (spared_refl M) c r j) w (omega arith)

  -- slots that are not empty stay so
  some_spared : (L M : Ledger) → Spared L M → is_empty (list_at S L ours) ≡ false → is_empty (list_at S M ours) ≡ false
  some_spared L M g e = ap is_empty g.lists.slots_are ∙ still_some (list_at S L ours) g.lists.fetched e

  module _ (d : ℕ) (k : Packet) (n : ℕ) (L : Ledger) (s : Orderly S L) (w : Waits d k n L) where
    last_lt : last_of L p < S.queues
    last_lt = s.ranges.numbers_in last p hp

    -- with slots that are not empty, who waits makes the queue ready
    ready_now : is_empty (list_at S L ours) ≡ false → is_ready S L p q ≡ true
    unfolding is_ready
    ready_now some = go (list_at S L ours) some w.stands
      where
        c : ℕ
        c = outward_of S L p q

        pays : (j : Packet) (ks : List Packet) → Afford (j ∷ ks) L → (eqb q 0 || leb j.price c) ≡ true
        pays j ks (inl e) = or_is (eqb q 0) (leb j.price c) (eqb_is q 0 e)
        pays j ks (inr i) = or_is_right (eqb q 0) (leb j.price c) (leb_is j.price c (omega arith))

        -- the first of the line
        first : (x : Packet) (xs ys : List Packet) → x ∷ xs ≡ ys ++ (k ∷ w.behind) → Afford (ys ++ (k ∷ [])) L
            → (eqb q 0 || leb x.price c) ≡ true
        first x xs [] e a = let o : x ≡ k = cc in rw o (pays k [] a)
        first x xs (y ∷ ys) e a = let o : x ≡ y = cc in rw o (pays y (ys ++ (k ∷ [])) a)

        go : (zs : List Packet) → is_empty zs ≡ false → zs ++ list_at S L back ≡ w.ahead ++ (k ∷ w.behind) → covered q c zs ≡ true
        go [] f e = absurd (true≢false f)
        go (z ∷ zs) f e = first z (zs ++ list_at S L back) w.ahead e w.affords

    -- ---- a turn of our port: our packet leaves, or it waits, for fewer chances if this was one

    data After (r : Reply × Ledger) : Type 0 where
      left : r.0 ≡ leaves k (side_of q) → After r
      nearer : (m : ℕ) → bit (not (is_empty (list_at S L ours))) + m ≤ n → Waits d k m r.1 → After r

    -- be it timed or not
    after_ticked : (c : Clock) (j : Packet) (r : Reply) (M : Ledger) → After (r, M) → After (r, ticked c p j M)
    after_ticked c j r M (left e) = left e
    after_ticked c j r M (nearer m h v) = nearer m h (waits_ticked d k m M c p j v)

    -- the oldest of queue t's slots leaves
    abbrev sent : ℕ → Reply × Ledger
    sent t = (leaves (first_of S L (prefetched p t)) (side_of t), served S L p t (first_of S L (prefetched p t)))

    -- nothing in the slots: whatever the turn does, the first of the line still has a whole round before it
    no_chance : is_empty (list_at S L ours) ≡ true → (M : Ledger) → Spared L M → (r : Reply) → After (r, M)
    no_chance none M g r =
        let b : bit (not (is_empty (list_at S L ours))) ≡ 0 = rw none in
        let i : wait L ≡ S.queues = rw none in
        nearer n (omega arith) (go_on d k n n L M g w (omega (arith, wait_le M)))

    module _ (some : is_empty (list_at S L ours) ≡ false) where
      one_chance : bit (not (is_empty (list_at S L ours))) ≡ 1
      one_chance = rw some

      wait_is : wait L ≡ gap (last_of L p) q S.queues
      wait_is = rw some

      -- our queue is served, and y was first
      step_up : (y : Packet) (ys : List Packet) → line_of S L p q ≡ y ∷ (ys ++ (k ∷ w.behind))
          → length ys + 1 < length (list_at S L ours) + d
          → Afford (y ∷ (ys ++ (k ∷ []))) L → Waits d k (length ys * S.queues + S.queues) (served S L p q (first_of S L ours))
      unfolding served change
      step_up y ys e h c = record {
        ahead = ys;
        behind = w.behind;
        stands = ap₂ (λ (a b : List Packet). a ++ b) slots_after back_after ∙ ap (λ (l : List Packet). drop 1 l) split;
        within = omega (arith, ap length slots_after, ap length (cons_form (list_at S L ours) some));
        affords = unfold move in afford (ℕ_discrete q 0) c;
        soon = omega (arith, wait_le (served S L p q z));
      }
        where
          z : Packet
          z = first_of S L ours

          home : PlaceIn S (free (owner z.node))
          home = ((first_node S ok L s ours (hp, hq) some).home, some_queue S ok L s)

          away : ours ≢ free (owner z.node)
          away i = let o : ◌≡◌ {A = ℕ} 0 1 = cc in omega arith

          slots_after : list_at S (move S ours (free (owner z.node)) (bare z.node) L) ours ≡ drop 1 (list_at S L ours)
          slots_after = from_moved S ok L s ours (hp, hq) some (free (owner z.node)) home (bare z.node) refl away

          back_after : list_at S (move S ours (free (owner z.node)) (bare z.node) L) back ≡ list_at S L back
          back_after =
              else_moved S ok L s ours (hp, hq) some (free (owner z.node)) home (bare z.node) refl away back (hp, hq)
              (λ i. let o : ◌≡◌ {A = ℕ} 0 1 = cc in omega arith) (λ i. let o : ◌≡◌ {A = ℕ} 0 1 = cc in omega arith)

          split : z ∷ (drop 1 (list_at S L ours) ++ list_at S L back) ≡ y ∷ (ys ++ (k ∷ w.behind))
          split = ap (λ (l : List Packet). l ++ list_at S L back) (sym (cons_form (list_at S L ours) some)) ∙ e

          zy : z ≡ y
          zy = ap (λ (l : List Packet). get_or l 0 (bare 0)) split

          left_over : ℕ
          left_over = outward_of S L p q - z.price

          afford : Dec (q ≡ 0) → Afford (y ∷ (ys ++ (k ∷ []))) L
              → (q ≡ 0) ⊎ (sum (λ j. j.price) (ys ++ (k ∷ [])) ≤ credit_at S (set_credit S (L.numbers outward) p q left_over) p q)
          afford (yes i) a = inl i
          afford (no i) (inl a) = inl a
          afford (no i) (inr a) =
              let o = credit_same S (L.numbers outward) p q left_over (s.shaped.numbers_long outward) hp hq (omega arith) in
              inr (omega (arith, o, ap (λ (j : Packet). j.price) zy, a))

      ours_served : After (sent q)
      ours_served = go w.ahead w.stands w.within w.affords w.soon
        where
          front : first_of S L ours ∷ (drop 1 (list_at S L ours) ++ list_at S L back) ≡ line_of S L p q
          front = ap (λ (l : List Packet). l ++ list_at S L back) (sym (cons_form (list_at S L ours) some))

          go : (ys : List Packet) → line_of S L p q ≡ ys ++ (k ∷ w.behind) → length ys < length (list_at S L ours) + d
              → Afford (ys ++ (k ∷ [])) L
              → length ys * S.queues + wait L ≤ n → After (sent q)
          go [] e i c h =
              left (ap (λ (j : Packet). leaves j (side_of q)) (ap (λ (l : List Packet). get_or l 0 (bare 0)) (front ∙ e)))
          go (y ∷ ys) e i c h =
              nearer (length ys * S.queues + S.queues) (omega (arith, wait_pos L s, one_chance)) (step_up y ys e (omega arith) c)

      -- another queue of our port is served
      other_served : (t : ℕ) → t < S.queues → is_empty (list_at S L (prefetched p t)) ≡ false → t ≢ q
          → gap t q S.queues < gap (last_of L p) q S.queues → After (sent t)
      unfolding served change move
      other_served t ht e j h =
          let M : Ledger = served S L p t (first_of S L (prefetched p t)) in
          let g : Spared L M = spared_served L s p t hp ht e (λ a b. j b) in
          let marked : get_or (set (L.numbers last) p t) p 0 ≡ t = get_or-set_same (L.numbers last) p t 0 (omega (arith, s.shaped.numbers_long last)) in
          let v : wait M ≡ gap t q S.queues = rw (some_spared L M g some, marked) in
          let nn : wait L ≤ n = omega (arith, w.soon) in
          nearer (n - 1) (omega (arith, one_chance, wait_is)) (go_on d k n (n - 1) L M g w (omega (arith, v, wait_is)))

      turn_some : (c : Clock) → After (turned S L c p (ready_word S L p))
      unfolding ready_word
      turn_some c =
          let r = is_ready S L p in
          let e = ready_now some in
          let busy : eqb (ready_word S L p) 0 ≡ false = word_some r S.queues q hq e in
          rw busy
          (after_ticked c (first_of S L (prefetched p j)) (leaves (first_of S L (prefetched p j)) (side_of j)) (sent j).1
          (go (ℕ_discrete j q) (picked_some S ok L s p hp busy)
          (picked_nearer r (last_of L p) q S.queues hq last_lt ok.few_queues e)))
        where
          j : ℕ
          j = pick (last_of L p) (ready_word S L p)

          go : Dec (j ≡ q) → (j < S.queues) × (is_empty (list_at S L (prefetched p j)) ≡ false)
              → (j ≡ q) ⊎ (gap j q S.queues < gap (last_of L p) q S.queues) → After (sent j)
          go (yes e) hj c = rw e ours_served
          go (no i) hj (inl e) = absurd (i e)
          go (no i) hj (inr h) = other_served j hj.0 hj.1 i h

    -- with empty slots another queue is served, or none
    turn_none : (c : Clock) → is_empty (list_at S L ours) ≡ true → (u : ℕ)
        → (eqb u 0 ≡ false → (pick (last_of L p) u < S.queues) × (is_empty (list_at S L (prefetched p (pick (last_of L p) u))) ≡ false))
        → After (turned S L c p u)
    turn_none c none u some = go (eqb u 0) some
      where
        j : ℕ
        j = pick (last_of L p) u

        empty : ℕ → Bool
        empty t = is_empty (list_at S L (prefetched p t))

        go : (b : Bool) → (b ≡ false → (j < S.queues) × (is_empty (list_at S L (prefetched p j)) ≡ false))
            → After (cond b (idle, L) (serve S L c p j))
        go true f = no_chance none L (spared_refl L) idle
        go false f =
            after_ticked c (first_of S L (prefetched p j)) (leaves (first_of S L (prefetched p j)) (side_of j)) (sent j).1
            (no_chance none (sent j).1
            (spared_served L s p j hp (f refl).0 (f refl).1 (λ a b. true≢false (sym none ∙ ap empty (sym b) ∙ (f refl).1)))
            (leaves (first_of S L (prefetched p j)) (side_of j)))

    -- our port's turn is never refused
    our_turn : (c : Clock) → After (step S L (turn c p))
    our_turn c = rw (leb_not S.ports p hp) (go (is_empty (list_at S L ours)) refl)
      where
        go : (b : Bool) → is_empty (list_at S L ours) ≡ b → After (turned S L c p (ready_word S L p))
        go true e = turn_none c e (ready_word S L p) (picked_some S ok L s p hp)
        go false e = turn_some e c

  -- ---- any other act

  record Aside (L M : Ledger) : Type 0 where
    spared : Spared L M
    mark : last_of M p ≡ last_of L p

  aside_refl : (L : Ledger) → Aside L L
  aside_refl L = record { spared = spared_refl L; mark = refl }

  module _ (L : Ledger) (s : Orderly S L) where
    aside_turned : (c : Clock) (r u : ℕ) → r < S.ports → r ≢ p
        → (eqb u 0 ≡ false → (pick (last_of L r) u < S.queues) × (is_empty (list_at S L (prefetched r (pick (last_of L r) u))) ≡ false))
        → Aside L (turned S L c r u).1
    unfolding served change
    aside_turned c r u hr n some = go (eqb u 0) some
      where
        t : ℕ
        t = pick (last_of L r) u

        go : (b : Bool) → (b ≡ false → (t < S.queues) × (is_empty (list_at S L (prefetched r t)) ≡ false))
            → Aside L (cond b (idle, L) (serve S L c r t)).1
        go true f = aside_refl L
        go false f =
            let k : Packet = first_of S L (prefetched r t) in
            record {
              spared = spared_ticked L (served S L r t k) (spared_served L s r t hr (f refl).0 (f refl).1 (λ a b. n a)) c r k;
              mark = mark_ticked (served S L r t k) c r k
                  ∙ unfold move change in (get_or-set_other (L.numbers last) r p t 0 (λ i. n (sym i)));
            }

    aside_result : (a : Act) → is_turn p a ≡ false → Clear (rules S L a) → Aside L (result S L a).1
    aside_result (arrive r h) i c = record {
      spared = spared_arrived L s r h (admits S L r h c);
      mark = unfold arrived change move in refl;
    }
    aside_result (stitch r) i c = record {
      spared = spared_stitched L s r (leb_no S.ports r c.0) c.1.0 (first_of S L (ingress r)) refl;
      mark = unfold move in refl;
    }
    aside_result (prefetch r t) i c = record {
      spared = spared_fetched L s r t (leb_no S.ports r c.0) (leb_no S.queues t c.1.0) c.1.1.0;
      mark = unfold move in refl;
    }
    aside_result (credit r t n) i c = record {
      spared = record {
        lists = unfold change in (grown_refl L.lists);
        funded = unfold change in (raise_ge S (L.numbers outward) r t n p q);
      };
      mark = unfold change in refl;
    }
    aside_result (map_to d r) i c = record {
      spared = record { lists = unfold change in (grown_refl L.lists); funded = unfold change in omega arith };
      mark = unfold change in refl;
    }
    aside_result (turn t r) i c =
        let hr : r < S.ports = leb_no S.ports r c.0 in
        aside_turned t r (ready_word S L r) hr (eqb_no r p i) (picked_some S ok L s r hr)
    aside_result (ready r) i c = aside_refl L
    aside_result (where_is y) i c = aside_refl L
    aside_result (clear r) i c = record {
      spared = record { lists = unfold change in (grown_refl L.lists); funded = unfold change in omega arith };
      mark = unfold change in refl;
    }
    aside_result (report r) i c = aside_refl L
    aside_result (bucket r b) i c = aside_refl L
    aside_result (show ns r q) i c = aside_refl L

    aside_refused : (n : ℕ) (a : Act) → Aside L (on_refusal S n a L)
    aside_refused n a = record {
      spared = record {
        lists = rw (refused_lists S n a L) (grown_refl L.lists);
        funded = rw (refused_numbers S n a L outward (λ e. let z : ◌≡◌ {A = ℕ} 0 1 = cc in omega arith)) (omega arith);
      };
      mark = rw (refused_numbers S n a L last (λ e. let z : ◌≡◌ {A = ℕ} 0 1 = cc in omega arith));
    }

    aside_step : (a : Act) → is_turn p a ≡ false → Aside L (step S L a).1
    aside_step a i =
        stepped S L a (λ out. Aside L out.1) (λ n. aside_refused n a) (aside_result a i)

    -- slots that are not empty stay so, and so does the line
    pub some_slots_step : (a : Act) → is_turn p a ≡ false → is_empty (list_at S L ours) ≡ false
        → is_empty (list_at S (step S L a).1 ours) ≡ false
    some_slots_step a i e = some_spared L (step S L a).1 (aside_step a i).spared e

    pub some_line_step : (a : Act) → is_turn p a ≡ false → is_empty (line_of S L p q) ≡ false → is_empty (line_of S (step S L a).1 p q) ≡ false
    some_line_step a i e =
        let g = (aside_step a i).spared.lists in
        ap is_empty g.line_is ∙ still_some (line_of S L p q) g.more e

  -- with the mark where it was, the wait is no longer: empty slots may have been filled
  wait_aside : (L M : Ledger) → Aside L M → wait M ≤ wait L
  wait_aside L M a = go (is_empty (list_at S L ours)) refl
    where
      go : (b : Bool) → is_empty (list_at S L ours) ≡ b → wait M ≤ cond b S.queues (gap (last_of L p) q S.queues)
      go true e = wait_le M
      go false e = let v : wait M ≡ gap (last_of L p) q S.queues = rw (some_spared L M a.spared e, a.mark) in omega arith

  turn_is : (a : Act) → is_turn p a ≡ true → (c : Clock) × (a ≡ turn c p)
  turn_is (arrive r h) i = absurd (true≢false (sym i))
  turn_is (stitch r) i = absurd (true≢false (sym i))
  turn_is (prefetch r t) i = absurd (true≢false (sym i))
  turn_is (credit r t m) i = absurd (true≢false (sym i))
  turn_is (map_to d r) i = absurd (true≢false (sym i))
  turn_is (turn c r) i = (c, ap (turn c) (eqb_yes r p i))
  turn_is (ready r) i = absurd (true≢false (sym i))
  turn_is (where_is y) i = absurd (true≢false (sym i))
  turn_is (clear r) i = absurd (true≢false (sym i))
  turn_is (report r) i = absurd (true≢false (sym i))
  turn_is (bucket r b) i = absurd (true≢false (sym i))
  turn_is (show ns r q) i = absurd (true≢false (sym i))

  -- ---- the course of the wait

  pub waits_some : (d : ℕ) (k : Packet) (n : ℕ) (L : Ledger) → Orderly S L → Waits d k n L → 1 ≤ n
  waits_some d k n L s w = omega (arith, w.soon, wait_pos L s)

  pub waits_move : (d : ℕ) (k : Packet) (n : ℕ) (L : Ledger) → Orderly S L → Waits d k n L → (a : Act)
      → Does S (Waits d k) (is_chance S p q) (Leaving S p q k) n L a
  waits_move d k n L s w a = go (is_turn p a) refl
    where
      at_turn : is_turn p a ≡ true → After d k n L s w (step S L a) → Does S (Waits d k) (is_chance S p q) (Leaving S p q k) n L a
      at_turn i (left e) = ends (record { clock = (turn_is a i).0; a_turn = (turn_is a i).1; it_leaves = e })
      at_turn i (nearer m h v) = nears m (rw i h) v

      go : (b : Bool) → is_turn p a ≡ b → Does S (Waits d k) (is_chance S p q) (Leaving S p q k) n L a
      go true i = at_turn i (subst (λ (b : Act). After d k n L s w (step S L b)) (sym (turn_is a i).1) (our_turn d k n L s w (turn_is a i).0))
      go false i =
          let o = aside_step L s a i in
          nears n (rw i (omega arith)) (go_on d k n n L (step S L a).1 o.spared w (omega (arith, wait_aside L (step S L a).1 o)))

  pub line_course : (d : ℕ) (k : Packet) → Course S (Waits d k) (is_chance S p q) (Leaving S p q k)
  line_course d k = record { some = waits_some d k; moves = waits_move d k }

  -- who stands in the line waits for no more than a whole round of the mark for each up to it
  pub waits_from : (d : ℕ) (k : Packet) (L : Ledger) (ahead behind : List Packet) → line_of S L p q ≡ ahead ++ (k ∷ behind)
      → length ahead < length (list_at S L ours) + d → InHand S L p q (ahead ++ (k ∷ [])) → Waits d k (S.queues * (length ahead + 1)) L
  waits_from d k L ahead behind e h c = record {
    ahead = ahead;
    behind = behind;
    stands = e;
    within = h;
    affords = c;
    soon = omega (arith, wait_le L);
  }
