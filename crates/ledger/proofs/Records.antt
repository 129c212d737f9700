-- Demand 2: what is recorded of a packet goes along with it, from its arrival to its turn, over any calls in which every setup is refused.
-- Assumes nothing.
use mathlib.Core.Path.{◌≡◌, refl, sym, ap, ◌∙◌, subst}
use mathlib.Core.Logic.{◌≢◌, inl, inr}
use mathlib.Core.Bool.{Bool, true, false, cond}
use mathlib.Core.List.{List, [], ◌∷◌, ◌++◌, append-nil, append_assoc}
use Prim.Native.Nat.{ℕ, zero, suc, ◌+◌, ◌*◌, ◌/◌, ◌%◌, ◌^◌, ◌≤◌, ◌<◌, zero-le, suc-le-suc}
use native.Mathlib.Nat.{add-zero, zero-add, not-suc-le-zero, le_of_suc-le-suc}
use native.Mathlib.Omega.{arith}
use lib.ListN.{length, get_or}
use lib.Dec.{eqb}
use Rattle.numbers.specs.Bytes.{number}
use Rattle.ledger.specs.Settings.{Settings}
use Rattle.ledger.specs.Rules.{Clear}
use Rattle.ledger.specs.Header.{Load}
use Rattle.ledger.specs.Ledger.{owner, is_node, Packet, bare, recorded, Place, free, ingress, egress, prefetched, place#, place_of, Ledger, list_at}
use Rattle.ledger.specs.Ledger.{last_of, map_of, pop, move, mapped, change, PlaceIn}
use Rattle.ledger.specs.Ready.{bit, ready_word, pick}
use Rattle.ledger.specs.Calls.{Act, arrive, stitch, prefetch, credit, map_to, turn, ready, where_is, Side, Reply, refused, idle, leaves}
use Rattle.ledger.specs.Buckets.{Clock}
use Rattle.ledger.specs.Calls.{clear, report, bucket, show, stitched, is_empty, first_of, stitch_record}
use Rattle.ledger.specs.Calls.{arriving, arrived, served, serve, rules, result, step}
use Rattle.ledger.specs.Calls.{run, on_refusal}
use Rattle.ledger.specs.Desk.{Desk, has, Call, setup, act, desk, after_calls, answers_of, SetupsRefused}
use Rattle.ledger.specs.Sound.{All, Everywhere, sum, weigh, one, Proper, Orderly, Roomy}
use Rattle.ledger.specs.Order.{is_free, gathered, held_from, held, brought_by, brought_in, Latest, Tells, GoesAlong}
use Rattle.ledger.proofs.Header.{dest_mapped}
use Rattle.ledger.proofs.Tests.{true≢false, leb_no, eqb_is}
use Rattle.ledger.proofs.Lists.{sum_append, weigh_pop, length_pop, nowhere, All-map, All-of, All-append, All-split, All-front, everywhere_map}
use Rattle.ledger.proofs.Lists.{everywhere_both, everywhere_pop, everywhere_push}
use Rattle.ledger.proofs.Places.{place_number, bit_le}
use Rattle.ledger.proofs.Keep.{some_queue, len, first_fits, first_node}
use Rattle.ledger.proofs.Passes.{Admits, admits}
use Rattle.ledger.proofs.Buckets.{ticked_lists}
use Rattle.ledger.proofs.Steps.{picked_some, keep_step, keep_run, stepped, refused_lists}
use Rattle.ledger.proofs.Order.{node_small}
use Rattle.ledger.proofs.Promises.{turn_sends}
use Rattle.ledger.proofs.Packets.{FromPool, from_pool}
use Rattle.ledger.proofs.Courses.{acts_in, Faithful, act_answer, act_shows, refused_shows, calls_show, desk_faithful}

-- ---- the latest of its node

latest_more : (k : Packet) (xs ys : List Packet) → All (λ i. i.node ≢ k.node) ys → Latest k xs → Latest k (xs ++ ys)
latest_more k [] ys n a = absurd a
latest_more k (x ∷ xs) ys n (inl a) = inl (a.0, All-append (λ i. i.node ≢ k.node) xs ys a.1 n)
latest_more k (x ∷ xs) ys n (inr a) = inr (latest_more k xs ys n a)

latest_last : (k : Packet) (xs : List Packet) → Latest k (xs ++ (k ∷ []))
latest_last k [] = inl (refl, tt)
latest_last k (x ∷ xs) = inr (latest_last k xs)

pub none_of : (y : ℕ) (xs : List Packet) → sum (one y 0) xs ≡ 0 → All (λ i. i.node ≢ y) xs
none_of y [] h = tt
none_of y (x ∷ xs) h = ((λ e. let o = ap bit (eqb_is x.node y e) in omega arith), none_of y xs (omega arith))

-- where no node is counted twice, each packet is the latest of its node
all_latest : (xs : List Packet) → ((y : ℕ) → sum (one y 0) xs ≤ 1) → All (λ k. Latest k xs) xs
all_latest [] f = tt
all_latest (x ∷ xs) f =
    let here = ap bit (eqb_is x.node x.node refl) in (
      inl (refl, none_of x.node xs (omega (arith, f x.node))),
      All-map xs (λ k a. inr a) (all_latest xs (λ y. omega (arith, f y))),
    )

-- ---- the record of a stitch

low_byte : (n : ℕ) → (n / 256 * 256 + n % 256 ≡ n) × (n % 256 % 256 ≡ n % 256)
low_byte n = (omega arith, omega arith)

joined : (t q r s x y z : ℕ) → q * 256 + x ≡ t → r * 256 + y ≡ q → s * 256 + z ≡ r → s * 16777216 + (z * 65536 + (y * 256 + (x * 1 + 0))) ≡ t
joined t q r s x y z a b c = omega arith

four_bytes : (t : ℕ) → t < 2 ^ 32
    → t / 2 ^ 24 % 256 * 256 ^ 3 + (t / 2 ^ 16 % 256 % 256 * 256 ^ 2 + (t / 2 ^ 8 % 256 % 256 * 256 ^ 1 + (t % 256 % 256 * 256 ^ 0 + 0))) ≡ t
four_bytes t h =
    let two : t / 256 / 256 ≡ t / 65536 = omega arith in
    let three : t / 65536 / 256 ≡ t / 16777216 = omega arith in
    let top : t / 16777216 % 256 ≡ t / 16777216 = omega arith in
    let a = low_byte t in
    let b = low_byte (t / 256) in
    let c = low_byte (t / 65536) in
    rw (top, c.1, b.1, a.1)
    (joined t (t / 256) (t / 65536) (t / 16777216) (t % 256) (t / 256 % 256) (t / 65536 % 256) a.0 (rw two at b.0) (rw three at c.0))

record_tells : {S : Settings} (k : Packet) (to : ℕ) → k.node < 65536 → Proper S k → Tells k (stitch_record k to)
unfolding stitch_record number
record_tells k to h good = record {
  ten = refl;
  id = omega arith;
  len = omega (arith, good.len_high);
  queue = refl;
  stamp = four_bytes k.stamp good.stamp_in;
}

-- ---- what is held, list by list

module _ (S : Settings) where
  held_once : (y l : ℕ) (ls : List (List Packet)) → sum (one y 0) (held_from S l ls) ≤ weigh (one y) ls
  held_once y l [] = zero-le
  held_once y l (ks ∷ ls) = go (is_free (place_of S l)) (held_once y (suc l) ls)
    where
      go : (b : Bool) → sum (one y 0) (held_from S (suc l) ls) ≤ weigh (one y) ls
          → sum (one y 0) (cond b [] ks ++ held_from S (suc l) ls) ≤ weigh (one y) (ks ∷ ls)
      go true h = omega arith
      go false h = omega (arith, sum_append (one y 0) ks (held_from S (suc l) ls))

  -- a fact about every packet of the lists, the first of which has number l, where the list isn't a free list
  abbrev Busy : (Packet → Type 0) → ℕ → List (List Packet) → Type 0
  Busy P l ls = (i : ℕ) → i < length ls → All (λ k. is_free (place_of S (l + i)) ≡ false → P k) (get_or ls i [])

  held_all : (P : Packet → Type 0) (l : ℕ) (ls : List (List Packet)) → Busy P l ls → All P (held_from S l ls)
  held_all P l [] f = tt
  held_all P l (ks ∷ ls) f =
      let here : All (λ k. is_free (place_of S l) ≡ false → P k) ks = rw (add-zero l) at (f 0 (suc-le-suc zero-le)) in
      All-append P (cond (is_free (place_of S l)) [] ks) (held_from S (suc l) ls) (go (is_free (place_of S l)) here) (held_all P (suc l) ls later)
    where
      later : Busy P (suc l) ls
      later i h =
          let e : l + suc i ≡ suc l + i = omega arith in
          subst (λ (n : ℕ). All (λ k. is_free (place_of S n) ≡ false → P k) (get_or ls i [])) e (f (suc i) (suc-le-suc h))

      go : (b : Bool) → All (λ k. b ≡ false → P k) ks → All P (cond b [] ks)
      go true a = tt
      go false a = All-map ks (λ k g. g refl) a

  all_held : (P : Packet → Type 0) (l : ℕ) (ls : List (List Packet)) → All P (held_from S l ls) → Busy P l ls
  all_held P l [] a i h = absurd (not-suc-le-zero h)
  all_held P l (ks ∷ ls) a zero h =
      rw (add-zero l) (go (is_free (place_of S l)) (All-split P (cond (is_free (place_of S l)) [] ks) (held_from S (suc l) ls) a).0)
    where
      go : (b : Bool) → All P (cond b [] ks) → All (λ k. b ≡ false → P k) ks
      go true c = All-of ks (λ k e. absurd (true≢false e))
      go false c = All-map ks (λ k p e. p) c
  all_held P l (ks ∷ ls) a (suc i) h =
      let e : suc l + i ≡ l + suc i = omega arith in
      subst (λ (n : ℕ). All (λ k. is_free (place_of S n) ≡ false → P k) (get_or ls i [])) e
      (all_held P (suc l) ls (All-split P (cond (is_free (place_of S l)) [] ks) (held_from S (suc l) ls) a).1 i (le_of_suc-le-suc h))

-- ---- one act: what holds of every packet that is held before it holds after it

abbrev pub Holds : Settings → (Packet → Type 0) → Ledger → Type 0
Holds S P L = Everywhere (λ l k. is_free (place_of S l) ≡ false → P k) L.lists

module _ (S : Settings) (ok : Roomy S) (P : Packet → Type 0) (L : Ledger) (s : Orderly S L) (e : Holds S P L) where
  pub first_holds : (v : Place) → PlaceIn S v → is_empty (list_at S L v) ≡ false → is_free v ≡ false → P (first_of S L v)
  first_holds v hv some busy =
      All-front (λ k. is_free (place_of S (place# S v)) ≡ false → P k) (list_at S L v) some (e.holds (place# S v) (len S ok L s v hv))
      (ap is_free (place_number S v hv) ∙ busy)

  -- Q holds after it: of a packet that P held of, if its node is none of those brought in; and of what is brought in, which was free
  module _ (Q : Packet → Type 0) where
    abbrev Carries : List Packet → Type 0
    Carries ks = (j : Packet) → All (λ i. i.node ≢ j.node) ks → P j → Q j

    abbrev TakesIn : List Packet → Type 0
    TakesIn ks = (k : Packet) → ks ≡ k ∷ [] → FromPool S L k.node → Q k

    module _ (v w : Place) (hv : PlaceIn S v) (hw : PlaceIn S w) (k : Packet) where
      abbrev taken : List (List Packet)
      taken = pop (place# S v) L.lists

      put_on : Everywhere (λ l j. is_free (place_of S l) ≡ false → Q j) taken → (is_free w ≡ false → Q k) → Holds S Q (move S v w k L)
      unfolding move
      put_on f good =
          everywhere_push (place# S w) k taken (omega (arith, length_pop (place# S v) L.lists, len S ok L s w hw)) f
          (λ b. good (ap is_free (sym (place_number S w hw)) ∙ b))

      -- a packet goes on
      moved : Carries [] → (is_free w ≡ false → Q k) → Holds S Q (move S v w k L)
      moved f good = put_on (everywhere_map taken (λ l j g b. f j tt (g b)) (everywhere_pop (place# S v) L.lists (len S ok L s v hv) e)) good

      -- a packet comes in, for a node that stands nowhere else
      brought : is_empty (list_at S L v) ≡ false → k.node ≡ (first_of S L v).node → Carries (k ∷ []) → Q k → Holds S Q (move S v w k L)
      brought some same f good =
          let gone : weigh (one k.node) taken ≡ 0 =
          omega (
            arith,
            weigh_pop (one k.node) (place# S v) L.lists (len S ok L s v hv) some,
            ap bit (eqb_is (first_of S L v).node k.node (sym same)),
            s.once k.node,
            bit_le (is_node S k.node),
          ) in
          put_on
          (everywhere_both taken (λ l j n g b. f j ((λ i. n (sym i)), tt) (g b)) (nowhere k.node taken gone)
          (everywhere_pop (place# S v) L.lists (len S ok L s v hv) e))
          (λ b. good)

    -- nothing moves
    same_lists : Carries [] → Holds S Q L
    same_lists f = everywhere_map L.lists (λ l j g b. f j tt (g b)) e

    served_holds : (c : Clock) (p q : ℕ) → p < S.ports → q < S.queues → is_empty (list_at S L (prefetched p q)) ≡ false → Carries []
        → Holds S Q (serve S L c p q).1
    unfolding served change
    served_holds c p q hp hq some f =
        let k : Packet = first_of S L (prefetched p q) in
        rw (ticked_lists c p k (served S L p q k))
        (moved (prefetched p q) (free (owner k.node)) (hp, hq) ((first_node S ok L s (prefetched p q) (hp, hq) some).home, some_queue S ok L s)
        (bare k.node) f (λ b. absurd (true≢false b)))

    arrived_holds : (p : ℕ) (h : Load) → Admits S L p h → Carries (arriving S L p h ∷ []) → (FromPool S L (arriving S L p h).node → Q (arriving S L p h))
        → Holds S Q (arrived S L p (arriving S L p h))
    unfolding arrived change
    arrived_holds p h a f good =
        let v_in : PlaceIn S (free p) = (a.port, some_queue S ok L s) in
        let same : (arriving S L p h).node ≡ (first_of S L (free p)).node = unfold recorded in refl in
        brought (free p) (ingress p) v_in v_in (arriving S L p h) a.some same f (good (rw same (from_pool S ok L s p h a)))

    result_holds : (a : Act) → Clear (rules S L a) → Carries (brought_by S a (result S L a).0) → TakesIn (brought_by S a (result S L a).0)
        → Holds S Q (result S L a).1
    result_holds (arrive p h) c f g = arrived_holds p h (admits S L p h c) f (g (arriving S L p h) refl)
    result_holds (stitch p) c f g =
        let v_in : PlaceIn S (ingress p) = (leb_no S.ports p c.0, some_queue S ok L s) in
        let k : Packet = first_of S L (ingress p) in
        let fits = first_fits S ok L s (ingress p) v_in c.1.0 in
        moved (ingress p) (egress (map_of L k.dest) k.queue) v_in (
          s.ranges.numbers_in mapped k.dest
              (dest_mapped S ok k.dest fits.2.dest_in),
          fits.2.queue_in_range,
        ) k f
        (λ z. f k tt (first_holds (ingress p) v_in c.1.0 refl))
    result_holds (prefetch p q) c f g =
        let v_in : PlaceIn S (egress p q) = (leb_no S.ports p c.0, leb_no S.queues q c.1.0) in
        let k : Packet = first_of S L (egress p q) in
        moved (egress p q) (prefetched p q) v_in v_in k f (λ z. f k tt (first_holds (egress p q) v_in c.1.1.0 refl))
    result_holds (credit p q n) c f g = unfold change in same_lists f
    result_holds (map_to d p) c f g = unfold change in same_lists f
    result_holds (turn c' p) c f g = go (eqb (ready_word S L p) 0) (picked_some S ok L s p (leb_no S.ports p c.0))
      where
        t : ℕ
        t = pick (last_of L p) (ready_word S L p)

        go : (z : Bool) → (z ≡ false → (t < S.queues) × (is_empty (list_at S L (prefetched p t)) ≡ false))
            → Holds S Q (cond z (idle, L) (serve S L c' p t)).1
        go true d = same_lists f
        go false d = served_holds c' p t (leb_no S.ports p c.0) (d refl).0 (d refl).1 f
    result_holds (ready p) c f g = same_lists f
    result_holds (where_is y) c f g = same_lists f
    result_holds (clear p) c f g = unfold change in same_lists f
    result_holds (report p) c f g = same_lists f
    result_holds (bucket p b) c f g = same_lists f
    result_holds (show ns p q) c f g = same_lists f

    -- a refusal brings nothing in
    refused_none : (a : Act) (n : ℕ) → brought_by S a (refused n) ≡ []
    refused_none (arrive p h) n = refl
    refused_none (stitch p) n = refl
    refused_none (prefetch p q) n = refl
    refused_none (credit p q m) n = refl
    refused_none (map_to d p) n = refl
    refused_none (turn c p) n = refl
    refused_none (ready p) n = refl
    refused_none (where_is y) n = refl
    refused_none (clear p) n = refl
    refused_none (report p) n = refl
    refused_none (bucket p b) n = refl
    refused_none (show ns p q) n = refl

    refused_holds : (a : Act) (n : ℕ) → Carries (brought_by S a (refused n)) → Holds S Q (on_refusal S n a L)
    refused_holds a n f = rw (refused_lists S n a L) (same_lists (rw (refused_none a n) at f))

    pub act_holds : (a : Act) → Carries (brought_by S a (step S L a).0) → TakesIn (brought_by S a (step S L a).0) → Holds S Q (step S L a).1
    act_holds a =
        stepped S L a (λ out. Carries (brought_by S a out.0) → TakesIn (brought_by S a out.0) → Holds S Q out.1)
        (λ n f g. refused_holds a n f)
        (result_holds a)

-- ---- where every packet that is held is the latest of its node in a list, it is so after the act, in that list and what was brought in

abbrev AllLatest : Settings → List Packet → Ledger → Type 0
AllLatest S known L = Holds S (λ k. Latest k known) L

module _ (S : Settings) (ok : Roomy S) (known : List Packet) (L : Ledger) (s : Orderly S L) (e : AllLatest S known L) where
  act_latest : (a : Act) → AllLatest S (known ++ brought_by S a (step S L a).0) (step S L a).1
  act_latest a =
      let ks : List Packet = brought_by S a (step S L a).0 in
      act_holds S ok (λ k. Latest k known) L s e (λ k. Latest k (known ++ ks)) a (λ j n g. latest_more j known ks n g)
      (λ k i was. rw i (latest_last k known))

  -- what a turn sends is the oldest of some slots, so the latest of its node
  sends_latest : (c : Clock) (p : ℕ) (k : Packet) (t : Side) → (step S L (turn c p)).0 ≡ leaves k t → Latest k known
  sends_latest c p k t i =
      let o = turn_sends S ok L s c p k t i in
      subst (λ (j : Packet). Latest j known) o.oldest (first_holds S ok (λ k. Latest k known) L s e (prefetched p o.queue) o.slots o.some refl)

  -- what a stitch tells of is the oldest in ingress
  stitch_tells : (p : ℕ) (b : List ℕ) → (step S L (stitch p)).0 ≡ stitched b → (k : Packet) × Latest k known × Tells k b
  stitch_tells p b =
      stepped S L (stitch p) (λ out. out.0 ≡ stitched b → (k : Packet) × Latest k known × Tells k b)
      (λ n i. absurd (let o : ◌≡◌ {A = ℕ} 0 1 = cc in omega arith))
      (λ c i.
      let v_in : PlaceIn S (ingress p) = (leb_no S.ports p c.0, some_queue S ok L s) in
      let k : Packet = first_of S L (ingress p) in
      let good : Proper S k = (first_fits S ok L s (ingress p) v_in c.1.0).2 in
      let node = node_small S ok k.node (first_node S ok L s (ingress p) v_in c.1.0) in
      let same : stitch_record k (map_of L k.dest) ≡ b = cc in
      (k, first_holds S ok (λ i. Latest i known) L s e (ingress p) v_in c.1.0 refl, subst (Tells k) same (record_tells k (map_of L k.dest) node good)))

-- ---- any calls

module _ {X : Type 0} (call : X → Call → Reply × X) (shows : X → Desk) (long : X → ℕ) (faithful : Faithful call shows long) (S : Settings) (ok : Roomy S) where
  still_latest : (known : List Packet) (x : X) (L : Ledger) → shows x ≡ has S L → Orderly S L → AllLatest S known L → (cs : List Call) → SetupsRefused call x cs
      → AllLatest S (known ++ gathered (brought_in S) cs (answers_of call x cs)) (run S L (acts_in cs))
  unfolding acts_in
  still_latest known x L e s h [] f = rw (append-nil known) h
  still_latest known x L e s h (setup T ∷ cs) f =
      still_latest known (call x (setup T)).1 L (refused_shows call shows long faithful S x (setup T) refl (f.0 refl) ∙ e) s h cs f.1
  still_latest known x L e s h (act a ∷ cs) f =
      let r : Reply = (call x (act a)).0 in
      let N : Ledger = (step S L a).1 in
      let same : (step S L a).0 ≡ r = sym (act_answer call shows long faithful S x L e a) in
      let here : AllLatest S (known ++ brought_by S a r) N =
      subst (λ (t : Reply). AllLatest S (known ++ brought_by S a t) N) same (act_latest S ok known L s h a) in
      let next = act_shows call shows long faithful S x L e a in
      rw (← append_assoc known (brought_by S a r) (gathered (brought_in S) cs (answers_of call (call x (act a)).1 cs)))
      (still_latest (known ++ brought_by S a r) (call x (act a)).1 N next (keep_step S ok L s a) here cs f.1)

  pub goes_along : (x : X) (L : Ledger) → shows x ≡ has S L → Orderly S L → (cs : List Call) → SetupsRefused call x cs → GoesAlong call shows S L x cs
  goes_along x L e s cs f =
      let known : List Packet = held S L ++ gathered (brought_in S) cs (answers_of call x cs) in
      let N : Ledger = run S L (acts_in cs) in
      let once : All (λ k. Latest k (held S L)) (held S L) =
      all_latest (held S L) (λ y. omega (arith, held_once S y 0 L.lists, s.once y, bit_le (is_node S y))) in
      let before : AllLatest S (held S L) L = record {
        holds = λ l h. rw (zero-add l) at (all_held S (λ k. Latest k (held S L)) 0 L.lists once l h);
      } in
      let later : AllLatest S known N = still_latest (held S L) x L e s before cs f in
      let shown = calls_show call shows long faithful S x L e cs f in
      record {
        ledger = N;
        shown = shown;
        holds = held_all S (λ k. Latest k known) 0 N.lists (λ i h. rw (zero-add i) (later.holds i h));
        sends = λ c p k t i.
            sends_latest S ok known N (keep_run S ok L s (acts_in cs)) later c p k t
            (sym (act_answer call shows long faithful S (after_calls call x cs) N shown (turn c p)) ∙ i);
        tells = λ p b i.
            stitch_tells S ok known N (keep_run S ok L s (acts_in cs)) later p b
            (sym (act_answer call shows long faithful S (after_calls call x cs) N shown (stitch p)) ∙ i);
      }

pub desk_goes_along : (n : ℕ) (S : Settings) → Roomy S → (L : Ledger) → Orderly S L → (cs : List Call) → SetupsRefused (desk n) (has S L) cs
    → GoesAlong (desk n) (λ D. D) S L (has S L) cs
desk_goes_along n S ok L s cs f = goes_along (desk n) (λ D. D) (λ D. n) (desk_faithful n) S ok (has S L) L refl s cs f
