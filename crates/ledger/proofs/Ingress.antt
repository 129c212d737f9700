-- The ingress list of a port: its stitch takes the oldest from it and nothing else does, so who stands there is stitched soon; and a stitch
-- puts its packet behind the line that it joins, with that line's chance in the round still to come. Assumes nothing.
use mathlib.Core.Path.{◌≡◌, refl, sym, ap, ap₂, ◌∙◌}
use mathlib.Core.Logic.{◌≢◌, inl, inr}
use mathlib.Core.Bool.{Bool, true, false, cond}
use mathlib.Core.List.{List, [], ◌∷◌, ◌++◌, append_assoc, append-nil}
use Prim.Native.Nat.{ℕ, zero, suc, ◌+◌, ◌-◌, ◌≤◌, ◌<◌}
use native.Mathlib.Omega.{arith}
use native.Mathlib.Decide.{dec_le}
use lib.ListN.{length, get_or, drop, length-append}
use lib.Seq.{drop-append-le, get_or-append-add}
use lib.Dec.{eqb}
use Rattle.ledger.specs.Settings.{Settings}
use Rattle.ledger.specs.Header.{Load}
use Rattle.ledger.specs.Rules.{Clear}
use Rattle.ledger.specs.Ledger.{owner, Packet, bare, recorded, Place, free, ingress, egress, prefetched, Ledger, list_at, last_of, map_of, move}
use Rattle.ledger.specs.Ledger.{change, PlaceIn}
use Rattle.ledger.specs.Ready.{bit, ready_word, pick}
use Rattle.ledger.specs.Calls.{Act, arrive, stitch, prefetch, credit, map_to, turn, ready, where_is, Reply, stitched, idle, is_empty}
use Rattle.ledger.specs.Buckets.{Clock, untimed}
use Rattle.ledger.specs.Calls.{clear, report, bucket, show, first_of, stitch_record, arriving, arrived, served, serve, turned, rules, result, step}
use Rattle.ledger.specs.Sound.{All, Orderly, Roomy}
use Rattle.ledger.specs.Demand.{is_turn, InHand}
use Rattle.ledger.specs.Rounds.{each, stitches, prefetches, turns, round_acts}
use Rattle.ledger.specs.Door.{line_of, InIngress, line_for, CreditFor, rounds_for}
use Rattle.ledger.proofs.Tests.{true≢false, leb_no, leb_not, eqb_is, eqb_yes, eqb_no}
use Rattle.ledger.proofs.Lists.{All-append, All-at}
use Rattle.ledger.proofs.Keep.{some_queue, first_node, from_moved, to_moved, else_moved}
use Rattle.ledger.proofs.Passes.{Admits, admits}
use Rattle.ledger.proofs.Steps.{picked_some, stepped, step_clear, refused_lists}
use Rattle.ledger.proofs.Buckets.{ticked_lists}
use Rattle.ledger.proofs.Walk.{count_in, Does, ends, nears, Course}
use Rattle.ledger.proofs.Line.{grown_moved, stitch_in, Waits, waits_from}
use Rattle.ledger.proofs.Chances.{Among, among_left, among_each, all_each, Quiet, quiet_stitches, chances_of, chance_after}

abbrev pub is_stitch : ℕ → Act → Bool
is_stitch r (arrive p h) = false
is_stitch r (stitch p) = eqb p r
is_stitch r (prefetch p q) = false
is_stitch r (credit p q n) = false
is_stitch r (map_to d p) = false
is_stitch r (turn c p) = false
is_stitch r (ready p) = false
is_stitch r (where_is y) = false
is_stitch r (clear p) = false
is_stitch r (report p) = false
is_stitch r (bucket p b) = false
is_stitch r (show ns p q) = false

-- the act is a stitch that takes packet k, the oldest in ingress at port r, to the port that its destination is mapped to at that moment
pub record Stitching (S : Settings) (r : ℕ) (k : Packet) (L : Ledger) (a : Act) : Type 0 where
  pub a_stitch : a ≡ stitch r
  pub oldest : InIngress S r k [] L
  pub it_goes : step S L a ≡ (stitched (stitch_record k (map_of L k.dest)), move S (ingress r) (egress (map_of L k.dest) k.queue) k L)

-- ---- the ingress list of port r: only its stitch takes from it

module _ (S : Settings) (ok : Roomy S) (r : ℕ) (hr : r < S.ports) where
  module _ (L : Ledger) (s : Orderly S L) where
    door_in : PlaceIn S (ingress r)
    door_in = (hr, some_queue S ok L s)

    -- the list stays, with more behind it
    abbrev Longer : Ledger → Type 0
    Longer M = (more : List Packet) × (list_at S M (ingress r) ≡ list_at S L (ingress r) ++ more)

    longer_refl : Longer L
    longer_refl = ([], sym (append-nil (list_at S L (ingress r))))

    longer_moved : (v w : Place) → PlaceIn S v → PlaceIn S w → is_empty (list_at S L v) ≡ false → v ≢ w → (k : Packet)
        → k.node ≡ (first_of S L v).node
        → v ≢ ingress r → Longer (move S v w k L)
    longer_moved v w hv hw e d k same n = grown_moved S ok L s v w hv hw e d k same (ingress r) door_in n

    longer_arrived : (p : ℕ) (h : Load) → Admits S L p h → Longer (arrived S L p (arriving S L p h))
    unfolding arrived change
    longer_arrived p h a =
        let v_in : PlaceIn S (free p) = (a.port, some_queue S ok L s) in
        longer_moved (free p) (ingress p) v_in v_in a.some (λ i. let z : ◌≡◌ {A = ℕ} 0 1 = cc in omega arith)
        (arriving S L p h) (unfold recorded in refl) (λ i. let z : ◌≡◌ {A = ℕ} 0 1 = cc in omega arith)

    longer_served : (p q : ℕ) → p < S.ports → q < S.queues → is_empty (list_at S L (prefetched p q)) ≡ false
        → Longer (served S L p q (first_of S L (prefetched p q)))
    unfolding served change
    longer_served p q hp hq e =
        let k : Packet = first_of S L (prefetched p q) in
        let w_in : PlaceIn S (free (owner k.node)) = ((first_node S ok L s (prefetched p q) (hp, hq) e).home, some_queue S ok L s) in
        longer_moved (prefetched p q) (free (owner k.node)) (hp, hq) w_in e
        (λ i. let z : ◌≡◌ {A = ℕ} 0 1 = cc in omega arith) (bare k.node) refl (λ i. let z : ◌≡◌ {A = ℕ} 0 1 = cc in omega arith)

    longer_turned : (c : Clock) (p u : ℕ) → p < S.ports
        → (eqb u 0 ≡ false → (pick (last_of L p) u < S.queues) × (is_empty (list_at S L (prefetched p (pick (last_of L p) u))) ≡ false))
        → Longer (turned S L c p u).1
    longer_turned c p u hp some = go (eqb u 0) some
      where
        q : ℕ
        q = pick (last_of L p) u

        go : (b : Bool) → (b ≡ false → (q < S.queues) × (is_empty (list_at S L (prefetched p q)) ≡ false))
            → Longer (cond b (idle, L) (serve S L c p q)).1
        go true f = longer_refl
        go false f =
            let k : Packet = first_of S L (prefetched p q) in
            rw (ticked_lists c p k (served S L p q k)) (longer_served p q hp (f refl).0 (f refl).1)

    longer_result : (a : Act) → is_stitch r a ≡ false → Clear (rules S L a) → Longer (result S L a).1
    longer_result (arrive p h) i c = longer_arrived p h (admits S L p h c)
    longer_result (stitch p) i c =
        let k : Packet = first_of S L (ingress p) in
        let hp : p < S.ports = leb_no S.ports p c.0 in
        let w_in = stitch_in S ok L s p hp c.1.0 k refl in
        longer_moved (ingress p) (egress (map_of L k.dest) k.queue) (hp, some_queue S ok L s) w_in c.1.0
        (λ j. let z : ◌≡◌ {A = ℕ} 0 1 = cc in omega arith) k refl (λ j. eqb_no p r i (cc))
    longer_result (prefetch p q) i c =
        let hp : p < S.ports = leb_no S.ports p c.0 in
        let hq : q < S.queues = leb_no S.queues q c.1.0 in
        longer_moved (egress p q) (prefetched p q) (hp, hq) (hp, hq) c.1.1.0
        (λ j. let z : ◌≡◌ {A = ℕ} 0 1 = cc in omega arith) (first_of S L (egress p q)) refl
        (λ j. let z : ◌≡◌ {A = ℕ} 0 1 = cc in omega arith)
    longer_result (credit p q n) i c = unfold change in longer_refl
    longer_result (map_to d p) i c = unfold change in longer_refl
    longer_result (turn t p) i c =
        let hp : p < S.ports = leb_no S.ports p c.0 in
        longer_turned t p (ready_word S L p) hp (picked_some S ok L s p hp)
    longer_result (ready p) i c = longer_refl
    longer_result (where_is y) i c = longer_refl
    longer_result (clear p) i c = unfold change in longer_refl
    longer_result (report p) i c = longer_refl
    longer_result (bucket p b) i c = longer_refl
    longer_result (show ns p q) i c = longer_refl

    longer_step : (a : Act) → is_stitch r a ≡ false → Longer (step S L a).1
    longer_step a i =
        stepped S L a (λ out. Longer out.1) (λ n. rw (refused_lists S n a L) longer_refl) (longer_result a i)

    -- its own stitch is not refused while somebody stands there
    stitch_step : is_empty (list_at S L (ingress r)) ≡ false → step S L (stitch r) ≡ result S L (stitch r)
    stitch_step e = step_clear S L (stitch r) (leb_not S.ports r hr, (e, tt))

    shorter : is_empty (list_at S L (ingress r)) ≡ false → list_at S (step S L (stitch r)).1 (ingress r) ≡ drop 1 (list_at S L (ingress r))
    shorter e =
        let k : Packet = first_of S L (ingress r) in
        let w_in = stitch_in S ok L s r hr e k refl in
        ap (λ (o : Reply × Ledger). list_at S o.1 (ingress r)) (stitch_step e)
        ∙ from_moved S ok L s (ingress r) door_in e (egress (map_of L k.dest) k.queue) w_in k refl
        (λ j. let z : ◌≡◌ {A = ℕ} 0 1 = cc in omega arith)

    -- the oldest there goes to the port that its destination is mapped to
    pub stitching_now : (k : Packet) → InIngress S r k [] L → Stitching S r k L (stitch r)
    stitching_now k first =
        let goes : Packet → Reply × Ledger =
        λ j. (stitched (stitch_record j (map_of L j.dest)), move S (ingress r) (egress (map_of L j.dest) j.queue) j L) in
        record {
          a_stitch = refl;
          oldest = first;
          it_goes = stitch_step (ap is_empty first.there) ∙ ap goes (ap (λ (l : List Packet). get_or l 0 (bare 0)) first.there);
        }

  -- ---- packet k is stitched within n stitches of port r

  pub record Heads (k : Packet) (n : ℕ) (L : Ledger) : Type 0 where
    pub ahead : List Packet
    pub behind : List Packet
    pub stands : list_at S L (ingress r) ≡ ahead ++ (k ∷ behind)
    pub soon : length ahead + 1 ≤ n

  stitch_is : (a : Act) → is_stitch r a ≡ true → a ≡ stitch r
  stitch_is (arrive p h) i = absurd (true≢false (sym i))
  stitch_is (stitch p) i = ap stitch (eqb_yes p r i)
  stitch_is (prefetch p q) i = absurd (true≢false (sym i))
  stitch_is (credit p q m) i = absurd (true≢false (sym i))
  stitch_is (map_to d p) i = absurd (true≢false (sym i))
  stitch_is (turn c p) i = absurd (true≢false (sym i))
  stitch_is (ready p) i = absurd (true≢false (sym i))
  stitch_is (where_is y) i = absurd (true≢false (sym i))
  stitch_is (clear p) i = absurd (true≢false (sym i))
  stitch_is (report p) i = absurd (true≢false (sym i))
  stitch_is (bucket p b) i = absurd (true≢false (sym i))
  stitch_is (show ns p q) i = absurd (true≢false (sym i))

  module _ (k : Packet) (n : ℕ) (L : Ledger) (s : Orderly S L) (w : Heads k n L) where
    abbrev After : Act → Type 0
    After a = Does S (Heads k) (λ M b. is_stitch r b) (Stitching S r k) n L a

    our_stitch : After (stitch r)
    our_stitch = go w.ahead w.stands w.soon
      where
        go : (ys : List Packet) → list_at S L (ingress r) ≡ ys ++ (k ∷ w.behind) → length ys + 1 ≤ n → After (stitch r)
        go [] e h = ends (stitching_now L s k (record { behind = w.behind; there = e }))
        go (y ∷ ys) e h =
            nears (length ys + 1) (rw (eqb_is r r refl) (omega arith))
            (record {
              ahead = ys;
              behind = w.behind;
              stands = shorter L s (ap is_empty e) ∙ ap (λ (l : List Packet). drop 1 l) e;
              soon = omega arith;
            })

    heads_move : (a : Act) → After a
    heads_move a = go (is_stitch r a) refl
      where
        go : (b : Bool) → is_stitch r a ≡ b → After a
        go true i = rw (stitch_is a i) our_stitch
        go false i =
            let g = longer_step L s a i in
            nears n (rw i (omega arith))
            (record {
              ahead = w.ahead;
              behind = w.behind ++ g.0;
              stands = g.1 ∙ ap (λ (l : List Packet). l ++ g.0) w.stands ∙ append_assoc w.ahead (k ∷ w.behind) g.0;
              soon = w.soon;
            })

  pub door_course : (k : Packet) → Course S (Heads k) (λ L a. is_stitch r a) (Stitching S r k)
  door_course k = record { some = λ n L s w. omega (arith, w.soon); moves = heads_move k }

  -- a round has a stitch of port r
  one_stitch : (acts : List Act) → Among (stitch r) acts → (L : Ledger) → 1 ≤ count_in S (λ M a. is_stitch r a) L acts
  one_stitch [] o L = absurd o
  one_stitch (a ∷ acts) (inl e) L = let z : bit (is_stitch r a) ≡ 1 = rw (e, eqb_is r r refl) in omega arith
  one_stitch (a ∷ acts) (inr o) L = omega (arith, one_stitch acts o (step S L a).1)

  pub round_stitches : (L : Ledger) → 1 ≤ count_in S (λ M a. is_stitch r a) L (round_acts S)
  unfolding round_acts
  round_stitches L =
      let ours = among_each (stitch r) (λ p. stitch p ∷ []) S.ports r hr (inl refl) in
      one_stitch (stitches S ++ (prefetches S ++ turns S)) (among_left (stitch r) (stitches S) (prefetches S ++ turns S) ours) L

-- ---- a stitch puts packet k behind the line that it joins

module _ (S : Settings) (ok : Roomy S) (r : ℕ) (hr : r < S.ports) (k : Packet) (M : Ledger) (s : Orderly S M)
    (a : Act) (e : Stitching S r k M a) where
  abbrev to : ℕ
  to = map_of M k.dest

  abbrev after : Ledger
  after = (step S M a).1

  some_there : is_empty (list_at S M (ingress r)) ≡ false
  some_there = ap is_empty e.oldest.there

  is_first : first_of S M (ingress r) ≡ k
  is_first = ap (λ (l : List Packet). get_or l 0 (bare 0)) e.oldest.there

  pub to_in : (to < S.ports) × (k.queue < S.queues)
  to_in = stitch_in S ok M s r hr some_there k (sym is_first)

  after_is : after ≡ move S (ingress r) (egress to k.queue) k M
  after_is = ap (λ (o : Reply × Ledger). o.1) e.it_goes

  joined : line_of S after to k.queue ≡ line_for S M k ++ (k ∷ [])
  joined =
      let v_in : PlaceIn S (ingress r) = (hr, some_queue S ok M s) in
      let same = ap (λ (j : Packet). j.node) (sym is_first) in
      let apart : ingress r ≢ egress to k.queue = λ i. let z : ◌≡◌ {A = ℕ} 0 1 = cc in omega arith in
      ap (λ (N : Ledger). line_of S N to k.queue) after_is
      ∙ ap₂ (λ (xs ys : List Packet). xs ++ ys)
      (else_moved S ok M s (ingress r) v_in some_there (egress to k.queue) to_in k same apart (prefetched to k.queue) to_in
      (λ i. let z : ◌≡◌ {A = ℕ} 0 1 = cc in omega arith) (λ i. let z : ◌≡◌ {A = ℕ} 0 1 = cc in omega arith))
      (to_moved S ok M s (ingress r) v_in some_there (egress to k.queue) to_in k same apart)
      ∙ sym (append_assoc (list_at S M (prefetched to k.queue)) (list_at S M (egress to k.queue)) (k ∷ []))

  paid_after : CreditFor S M k → InHand S after to k.queue (line_for S M k ++ (k ∷ []))
  unfolding move
  paid_after c = rw after_is c

  pub waits_after : CreditFor S M k → Waits S ok to k.queue to_in.0 to_in.1 (length (line_for S M k) + 1) k (rounds_for S M k) after
  waits_after c =
      waits_from S ok to k.queue to_in.0 to_in.1 (length (line_for S M k) + 1) k after (line_for S M k) [] joined
      (omega arith) (paid_after c)

-- ---- the stitches of a round come before its prefetches and turns

All-from : {A : Type 0} (P : A → Type 0) (i : ℕ) (xs : List A) → All P xs → All P (drop i xs)
All-from P zero xs h = h
All-from P (suc i) [] h = tt
All-from P (suc i) (x ∷ xs) h = All-from P i xs h.1

module _ (S : Settings) where
  -- what a round does after its stitches
  abbrev others : List Act
  others = prefetches S ++ turns S

  no_stitch : (r : ℕ) → All (λ a. is_stitch r a ≡ false) others
  no_stitch r =
      All-append (λ a. is_stitch r a ≡ false) (prefetches S) (turns S)
      (all_each (λ a. is_stitch r a ≡ false) (λ p. each (λ q. prefetch p q ∷ []) S.queues) S.ports
      (λ p. all_each (λ a. is_stitch r a ≡ false) (λ q. prefetch p q ∷ []) S.queues (λ q. (refl, tt))))
      (all_each (λ a. is_stitch r a ≡ false) (λ p. turn untimed p ∷ []) S.ports (λ p. (refl, tt)))

  stitch_early : (r j : ℕ) → j < length (round_acts S) → get_or (round_acts S) j (ready 0) ≡ stitch r → suc j ≤ length (stitches S)
  unfolding round_acts
  stitch_early r j h e = go (dec_le (suc j) (length (stitches S)))
    where
      go : Dec (suc j ≤ length (stitches S)) → suc j ≤ length (stitches S)
      go (yes i) = i
      go (no i) =
          let m : ℕ = j - length (stitches S) in
          let jm : j ≡ length (stitches S) + m = omega arith in
          let f : get_or (stitches S ++ others) j (ready 0) ≡ get_or others m (ready 0) =
          ap (λ (n : ℕ). get_or (stitches S ++ others) n (ready 0)) jm ∙ get_or-append-add (stitches S) others m (ready 0) in
          let n : is_stitch r (get_or others m (ready 0)) ≡ false =
          All-at (λ a. is_stitch r a ≡ false) others (ready 0) (no_stitch r) m (omega (arith, length-append (stitches S) others)) in
          absurd (true≢false (sym (eqb_is r r refl) ∙ ap (is_stitch r) (sym e ∙ f) ∙ n))

  -- so a round still has its chance for a line after any of its stitches
  pub still_chance : (ok : Roomy S) (p q : ℕ) (hp : p < S.ports) (hq : q < S.queues) (r j : ℕ) → j < length (round_acts S)
      → get_or (round_acts S) j (ready 0) ≡ stitch r → (N : Ledger) → Orderly S N → is_empty (line_of S N p q) ≡ false
      → 1 ≤ chances_of S p q N (drop (suc j) (round_acts S))
  unfolding round_acts
  still_chance ok p q hp hq r j h e N s some =
      let quiet : Quiet p (drop (suc j) (stitches S)) = All-from (λ a. is_turn p a ≡ false) (suc j) (stitches S) (quiet_stitches S p) in
      rw (drop-append-le (suc j) (stitches S) others (stitch_early r j h e))
      (chance_after S ok p q hp hq (drop (suc j) (stitches S)) quiet N s some)
