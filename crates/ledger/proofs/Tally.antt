-- How long they wait (paper 02, Q-13), over any calls: sending is as before, the buckets count what timed turns sent, and no bucket is read but
-- by the reading call. Assumes nothing.
use mathlib.Core.Path.{◌≡◌, refl, sym, ap, ◌∙◌, subst}
use mathlib.Core.Logic.{◌≢◌}
use mathlib.Core.Bool.{Bool, true, false, cond}
use mathlib.Core.List.{List, [], ◌∷◌, ◌++◌}
use Prim.Native.Nat.{ℕ, zero, suc, ◌+◌, ◌<◌}
use native.Mathlib.Omega.{arith}
use native.Mathlib.Decide.{ℕ_discrete, dec_lt}
use lib.ListN.{length, get_or, set, get_or-replicate}
use lib.Seq.{get_or-set_same, get_or-set_other}
use lib.Dec.{eqb, ltb}
use Rattle.ledger.specs.Settings.{Settings, bucket_count}
use Rattle.ledger.specs.Ledger.{Packet, prefetched, halted}
use Rattle.ledger.specs.Ledger.{buckets, tall, Ledger, last_of, bucket_at}
use Rattle.ledger.specs.Ledger.{move, change, put_in, start}
use Rattle.ledger.specs.Buckets.{untimed, at, wait_of, bucket_of, stop, one_more, bucket#}
use Rattle.ledger.specs.Ready.{bit, ready_word, pick}
use Rattle.ledger.specs.Calls.{Act, arrive, stitch, prefetch, credit, map_to, turn, ready, where_is, clear, report, bucket, show, Side, Reply, refused}
use Rattle.ledger.specs.Calls.{idle, leaves, side_of, first_of, arrived, served, ticked, serve, rules, result, step, on_refusal}
use Rattle.ledger.specs.Desk.{Desk, has, Call, setup, act, desk, after_calls, answers_of, SetupsRefused}
use Rattle.ledger.specs.Sound.{Orderly, Roomy}
use Rattle.ledger.specs.Tally.{CountedOnce, TimedAsTurn, wait_by, waits_in, fallen, stopped, sum_to, bucket_sum, BucketsCount}
use Rattle.ledger.proofs.Tests.{leb_no, ltb_is, ltb_not, eqb_yes, eqb_no, eqb_is, eqb_not}
use Rattle.ledger.proofs.Columns.{other_column, change_here, change_other}
use Rattle.ledger.proofs.Buckets.{bucket_in, bucket_lt, bucket_apart}
use Rattle.ledger.proofs.Steps.{guarded_both, stepped, refused_numbers, keep_step}
use Rattle.ledger.proofs.Courses.{Faithful, act_answer, act_shows, refused_shows, desk_faithful}

-- ---- a tick

-- the bucket has one more, and nothing else differs
pub ticked_once : (S : Settings) (L : Ledger) → length (L.numbers buckets) ≡ tall S buckets → (time p : ℕ) → p < S.ports → (k : Packet)
    → CountedOnce p (bucket_of (wait_of time k.stamp)) L (ticked (at time) p k L)
unfolding ticked
ticked_once S L long time p hp k =
    let b : ℕ = bucket_of (wait_of time k.stamp) in
    let i : ℕ = bucket# p b in
    let v : ℕ = one_more (bucket_at L p b) in
    let here = change_here buckets (λ xs. set xs i v) L in
    record {
      same_lists = unfold change in refl;
      same_numbers = λ c n. change_other buckets (λ xs. set xs i v) L c (λ e. n (sym e));
      other_buckets = λ j n. rw here (get_or-set_other (L.numbers buckets) i j v 0 n);
      is_one_more = rw here (get_or-set_same (L.numbers buckets) i v 0 (omega (arith, long, bucket_lt S p b hp (bucket_in (wait_of time k.stamp)))));
    }

-- ---- sending is as before

-- what a turn and a timed turn of port p come to
record Timed (time p : ℕ) (turned timed : Reply × Ledger) : Type 0 where
  answer : timed.0 ≡ turned.0
  sent : (k : Packet) (t : Side) → timed.0 ≡ leaves k t → CountedOnce p (bucket_of (wait_of time k.stamp)) turned.1 timed.1
  unsent : ((k : Packet) (t : Side) → timed.0 ≢ leaves k t) → timed.1 ≡ turned.1

module _ (S : Settings) (L : Ledger) (s : Orderly S L) (time p : ℕ) where
  -- a packet that leaves is counted
  timed_sent : (q : ℕ) → p < S.ports → Timed time p (serve S L untimed p q) (serve S L (at time) p q)
  timed_sent q hp =
      let k : Packet = first_of S L (prefetched p q) in
      let N : Ledger = served S L p q k in
      let as_served : N ≡ ticked untimed p k N = unfold ticked in refl in
      let once : CountedOnce p (bucket_of (wait_of time k.stamp)) N (ticked (at time) p k N) =
      ticked_once S N (unfold served change move in (s.shaped.numbers_long buckets)) time p hp k in
      record {
        answer = refl;
        sent = λ j t e.
            let same : k ≡ j = cc in
            subst (λ (i : Packet). CountedOnce p (bucket_of (wait_of time i.stamp)) (ticked untimed p k N) (ticked (at time) p k N)) same
            (subst (λ (M : Ledger). CountedOnce p (bucket_of (wait_of time k.stamp)) M (ticked (at time) p k N)) as_served once);
        unsent = λ n. absurd (n k (side_of q) refl);
      }

  nothing_sent : (r : Reply) → ((k : Packet) (t : Side) → r ≢ leaves k t) → Timed time p (r, L) (r, L)
  nothing_sent r n = record { answer = refl; sent = λ k t e. absurd (n k t e); unsent = λ i. refl }

  timed_step : Timed time p (step S L (turn untimed p)) (step S L (turn (at time) p))
  timed_step =
      guarded_both (Timed time p) (rules S L (turn untimed p)) (λ n. (refused n, on_refusal S n (turn untimed p) L))
      (λ n. (refused n, on_refusal S n (turn (at time) p) L)) (result S L (turn untimed p)) (result S L (turn (at time) p))
      (λ n. unfold on_refusal in (nothing_sent (refused n) (λ k t e. let z : ◌≡◌ {A = ℕ} 0 1 = cc in omega arith)))
      (λ c. go (leb_no S.ports p c.0) (eqb (ready_word S L p) 0))
    where
      q : ℕ
      q = pick (last_of L p) (ready_word S L p)

      go : p < S.ports → (b : Bool) → Timed time p (cond b (idle, L) (serve S L untimed p q)) (cond b (idle, L) (serve S L (at time) p q))
      go hp true = nothing_sent idle (λ k t e. let z : ◌≡◌ {A = ℕ} 0 1 = cc in omega arith)
      go hp false = timed_sent q hp

-- ---- a bucket up to its stop

stopped_same : (n : ℕ) → n < suc stop → n ≡ stopped (n + 0)
stopped_same n h = go (dec_lt n stop)
  where
    go : Dec (n < stop) → n ≡ stopped (n + 0)
    go (yes l) = rw (ltb_is (n + 0) stop (omega arith)) (omega arith)
    go (no l) = rw (ltb_not (n + 0) stop (omega arith)) (omega arith)

stopped_more : (n : ℕ) → n < suc stop → one_more n ≡ stopped (n + 1)
unfolding one_more
stopped_more n h = go (dec_lt n stop) (dec_lt (n + 1) stop)
  where
    go : Dec (n < stop) → Dec (n + 1 < stop) → cond (ltb n stop) (suc n) n ≡ stopped (n + 1)
    go (yes l) (yes k) = rw (ltb_is n stop l, ltb_is (n + 1) stop k) (omega arith)
    go (yes l) (no k) = rw (ltb_is n stop l, ltb_not (n + 1) stop (omega arith)) (omega arith)
    go (no l) k = rw (ltb_not n stop (omega arith), ltb_not (n + 1) stop (omega arith)) (omega arith)

-- what is counted up to the stop, and then further, is counted up to the stop
stopped_on : (x y z : ℕ) → stopped (stopped (x + y) + z) ≡ stopped (x + (y + z))
stopped_on x y z = go (dec_lt (x + y) stop)
  where
    go : Dec (x + y < stop) → stopped (stopped (x + y) + z) ≡ stopped (x + (y + z))
    go (yes l) = rw (ltb_is (x + y) stop l) (ap stopped (let e : x + y + z ≡ x + (y + z) = omega arith in e))
    go (no l) = rw (ltb_not (x + y) stop (omega arith), ltb_not (stop + z) stop (omega arith), ltb_not (x + (y + z)) stop (omega arith))

below_stop : (n : ℕ) → stopped n < stop → stopped n ≡ n
below_stop n h = go (ltb n stop) h
  where
    go : (b : Bool) → cond b n stop < stop → cond b n stop ≡ n
    go true l = refl
    go false l = absurd (omega arith)

-- ---- one act

fallen_append : (b : ℕ) (xs ys : List ℕ) → fallen b (xs ++ ys) ≡ fallen b xs + fallen b ys
fallen_append b [] ys = omega arith
fallen_append b (x ∷ xs) ys = omega (arith, fallen_append b xs ys)

-- a refusal sends nothing
no_wait : (p : ℕ) (a : Act) (n : ℕ) → wait_by p a (refused n) ≡ []
no_wait p (arrive r h) n = refl
no_wait p (stitch r) n = refl
no_wait p (prefetch r q) n = refl
no_wait p (credit r q m) n = refl
no_wait p (map_to d r) n = refl
no_wait p (turn untimed r) n = refl
no_wait p (turn (at time) r) n = go (eqb r p)
  where
    go : (m : Bool) → ◌≡◌ {A = List ℕ} (cond m [] []) []
    go true = refl
    go false = refl
no_wait p (ready r) n = refl
no_wait p (where_is y) n = refl
no_wait p (clear r) n = refl
no_wait p (report r) n = refl
no_wait p (bucket r b) n = refl
no_wait p (show ns r q) n = refl

module _ (S : Settings) (L : Ledger) (s : Orderly S L) (p : ℕ) (hp : p < S.ports) (b : ℕ) (hb : b < bucket_count) where
  -- bucket b of port p, after act a
  abbrev Grown : Act → Reply × Ledger → Type 0
  Grown a out = bucket_at out.1 p b ≡ stopped (bucket_at L p b + fallen b (wait_by p a out.0))

  here_in : bucket_at L p b < suc stop
  here_in = s.ranges.numbers_in buckets (bucket# p b) (bucket_lt S p b hp hb)

  ungrown : bucket_at L p b ≡ stopped (bucket_at L p b + 0)
  ungrown = stopped_same (bucket_at L p b) here_in

  -- a timed turn of port r that sends packet k
  sent_grown : (time r : ℕ) (k : Packet) (N : Ledger) → N.numbers buckets ≡ L.numbers buckets
      → (m : Bool) → eqb r p ≡ m
      → bucket_at (ticked (at time) r k N) p b ≡ stopped (bucket_at L p b + fallen b (cond m (wait_of time k.stamp ∷ []) []))
  unfolding ticked
  sent_grown time r k N same m e =
      change_here_then (ap (λ (xs : List ℕ). get_or (set xs i (one_more (get_or xs i 0))) (bucket# p b) 0) same ∙ go m e (ℕ_discrete d b))
    where
      d : ℕ
      d = bucket_of (wait_of time k.stamp)

      i : ℕ
      i = bucket# r d

      xs : List ℕ
      xs = L.numbers buckets

      change_here_then : {v : ℕ} → get_or (set (N.numbers buckets) i (one_more (get_or (N.numbers buckets) i 0))) (bucket# p b) 0 ≡ v
          → bucket_at (put_in buckets i (one_more (bucket_at N r d)) N) p b ≡ v
      change_here_then f = rw (change_here buckets (λ xs. set xs i (one_more (bucket_at N r d))) N) f

      go : (m : Bool) → eqb r p ≡ m → Dec (d ≡ b)
          → get_or (set xs i (one_more (get_or xs i 0))) (bucket# p b) 0 ≡ stopped (bucket_at L p b + fallen b (cond m (wait_of time k.stamp ∷ []) []))
      go true o (yes f) =
          let at_it : i ≡ bucket# p b = ap (λ (n : ℕ). bucket# n d) (eqb_yes r p o) ∙ ap (bucket# p) f in
          rw (at_it, eqb_is d b f)
          (get_or-set_same xs (bucket# p b) (one_more (get_or xs (bucket# p b) 0)) 0 (omega (arith, s.shaped.numbers_long buckets, bucket_lt S p b hp hb))
          ∙ stopped_more (bucket_at L p b) here_in)
      go true o (no n) =
          rw (eqb_not d b n)
          (get_or-set_other xs i (bucket# p b) (one_more (get_or xs i 0)) 0
          (λ j. n (sym (bucket_apart p r b d hb (bucket_in (wait_of time k.stamp)) j).1)) ∙ ungrown)
      go false o f =
          get_or-set_other xs i (bucket# p b) (one_more (get_or xs i 0)) 0
          (λ j. eqb_no r p o (sym (bucket_apart p r b d hb (bucket_in (wait_of time k.stamp)) j).0))
          ∙ ungrown

  result_grown : (a : Act) → Grown a (result S L a)
  result_grown (arrive r h) = unfold arrived change move in ungrown
  result_grown (stitch r) = unfold move in ungrown
  result_grown (prefetch r q) = unfold move in ungrown
  result_grown (credit r q n) = unfold change in ungrown
  result_grown (map_to d r) = unfold change in ungrown
  result_grown (turn untimed r) = go (eqb (ready_word S L r) 0)
    where
      q : ℕ
      q = pick (last_of L r) (ready_word S L r)

      go : (z : Bool) → bucket_at (cond z (idle, L) (serve S L untimed r q)).1 p b ≡ stopped (bucket_at L p b + 0)
      go true = ungrown
      go false = unfold ticked served change move in ungrown
  result_grown (turn (at time) r) = go (eqb (ready_word S L r) 0) (eqb r p) refl
    where
      q : ℕ
      q = pick (last_of L r) (ready_word S L r)

      k : Packet
      k = first_of S L (prefetched r q)

      go : (z m : Bool) → eqb r p ≡ m
          → bucket_at (cond z (idle, L) (serve S L (at time) r q)).1 p b
          ≡ stopped (bucket_at L p b + fallen b (wait_by p (turn (at time) r) (cond z (idle, L) (serve S L (at time) r q)).0))
      go true true e = rw e ungrown
      go true false e = rw e ungrown
      go false m e = rw e (sent_grown time r k (served S L r q k) (unfold served change move in refl) m e)
  result_grown (ready r) = ungrown
  result_grown (where_is y) = ungrown
  result_grown (clear r) = unfold change in ungrown
  result_grown (report r) = ungrown
  result_grown (bucket r d) = ungrown
  result_grown (show ns r d) = ungrown

  step_grown : (a : Act) → Grown a (step S L a)
  step_grown a =
      stepped S L a (Grown a)
      (λ n. rw (no_wait p a n, refused_numbers S n a L buckets (other_column buckets halted (omega arith))) ungrown)
      (λ c. result_grown a)

-- ---- the sum

-- of so many first buckets, the waits that fall in one of them
fallen_to : List ℕ → ℕ → ℕ
fallen_to ws zero = 0
fallen_to ws (suc n) = fallen_to ws n + fallen n ws

fallen_one : (w : ℕ) (ws : List ℕ) (n : ℕ) → fallen_to (w ∷ ws) n ≡ bit (ltb (bucket_of w) n) + fallen_to ws n
unfolding fallen_to
fallen_one w ws zero = rw (ltb_not (bucket_of w) 0 (omega arith)) (omega arith)
fallen_one w ws (suc n) = go (ℕ_discrete (bucket_of w) n) (dec_lt (bucket_of w) n) (fallen_one w ws n)
  where
    go : Dec (bucket_of w ≡ n) → Dec (bucket_of w < n) → fallen_to (w ∷ ws) n ≡ bit (ltb (bucket_of w) n) + fallen_to ws n
        → fallen_to (w ∷ ws) n + (bit (eqb (bucket_of w) n) + fallen n ws) ≡ bit (ltb (bucket_of w) (suc n)) + (fallen_to ws n + fallen n ws)
    go (yes e) d rec = rw (rec, eqb_is (bucket_of w) n e, ltb_not (bucket_of w) n (omega arith), ltb_is (bucket_of w) (suc n) (omega arith)) (omega arith)
    go (no e) (yes l) rec = rw (rec, eqb_not (bucket_of w) n e, ltb_is (bucket_of w) n l, ltb_is (bucket_of w) (suc n) (omega arith)) (omega arith)
    go (no e) (no l) rec = rw (rec, eqb_not (bucket_of w) n e, ltb_not (bucket_of w) n (omega arith), ltb_not (bucket_of w) (suc n) (omega arith)) (omega arith)

none_fallen : (n : ℕ) → fallen_to [] n ≡ 0
unfolding fallen_to
none_fallen zero = refl
none_fallen (suc n) = omega (arith, none_fallen n)

-- each wait falls in one bucket
fallen_all : (ws : List ℕ) → fallen_to ws bucket_count ≡ length ws
fallen_all [] = none_fallen bucket_count
fallen_all (w ∷ ws) = fallen_one w ws bucket_count ∙ rw (ltb_is (bucket_of w) bucket_count (bucket_in w)) (omega (arith, fallen_all ws))

sum_grown : (L N : Ledger) (p : ℕ) (ws : List ℕ) (n : ℕ) → ((b : ℕ) → b < n → bucket_at N p b ≡ bucket_at L p b + fallen b ws)
    → sum_to N p n ≡ sum_to L p n + fallen_to ws n
unfolding fallen_to
sum_grown L N p ws zero f = refl
sum_grown L N p ws (suc n) f = omega (arith, sum_grown L N p ws n (λ b h. f b (omega arith)), f n (omega arith))

-- of a ledger in which nothing is counted
pub sum_none : (L : Ledger) (p n : ℕ) → ((b : ℕ) → b < n → bucket_at L p b ≡ 0) → sum_to L p n ≡ 0
sum_none L p zero f = refl
sum_none L p (suc n) f = omega (arith, sum_none L p n (λ b h. f b (omega arith)), f n (omega arith))

-- as in the starting ledger
pub start_none : (S : Settings) (p : ℕ) → p < S.ports → (b : ℕ) → b < bucket_count → bucket_at (start S) p b ≡ 0
unfolding start
start_none S p hp b hb = get_or-replicate (tall S buckets) (bucket# p b) 0 0 (bucket_lt S p b hp hb)

-- ---- any calls

module _ {X : Type 0} (call : X → Call → Reply × X) (shows : X → Desk) (long : X → ℕ) (faithful : Faithful call shows long) (S : Settings) where
  pub timed_as_turn : (x : X) (L : Ledger) → shows x ≡ has S L → Orderly S L → (time p : ℕ) → TimedAsTurn call shows S time p x
  timed_as_turn x L e s time p =
      let o = timed_step S L s time p in
      let plain = act_answer call shows long faithful S x L e (turn untimed p) in
      let same = act_answer call shows long faithful S x L e (turn (at time) p) in
      record {
        turned = (step S L (turn untimed p)).1;
        timed = (step S L (turn (at time) p)).1;
        shown = act_shows call shows long faithful S x L e (turn untimed p);
        shown_timed = act_shows call shows long faithful S x L e (turn (at time) p);
        answer = same ∙ o.answer ∙ sym plain;
        sent = λ k t i. o.sent k t (sym same ∙ i);
        unsent = λ n. o.unsent (λ k t i. n k t (same ∙ i));
      }

  module _ (ok : Roomy S) (p : ℕ) (hp : p < S.ports) where
    -- after calls: what is shown, and each bucket
    record Counted (x : X) (L : Ledger) (cs : List Call) : Type 0 where
      ledger : Ledger
      shown : shows (after_calls call x cs) ≡ has S ledger
      each : (b : ℕ) → b < bucket_count → bucket_at ledger p b ≡ stopped (bucket_at L p b + fallen b (waits_in p cs (answers_of call x cs)))

    counted_by : (x : X) (L : Ledger) → shows x ≡ has S L → Orderly S L → (cs : List Call) → SetupsRefused call x cs → Counted x L cs
    counted_by x L e s [] f = record { ledger = L; shown = e; each = λ b hb. ungrown S L s p hp b hb }
    counted_by x L e s (setup T ∷ cs) f =
        let o = counted_by (call x (setup T)).1 L (refused_shows call shows long faithful S x (setup T) refl (f.0 refl) ∙ e) s cs f.1 in
        record { ledger = o.ledger; shown = o.shown; each = o.each }
    counted_by x L e s (act a ∷ cs) f =
        let N : Ledger = (step S L a).1 in
        let r = act_answer call shows long faithful S x L e a in
        let o = counted_by (call x (act a)).1 N (act_shows call shows long faithful S x L e a) (keep_step S ok L s a) cs f.1 in
        let later : List ℕ = waits_in p cs (answers_of call (call x (act a)).1 cs) in
        record {
          ledger = o.ledger;
          shown = o.shown;
          each = λ b hb.
              let now = wait_by p a (call x (act a)).0 in
              let first : bucket_at N p b ≡ stopped (bucket_at L p b + fallen b now) =
              subst (λ (y : Reply). bucket_at N p b ≡ stopped (bucket_at L p b + fallen b (wait_by p a y))) (sym r) (step_grown S L s p hp b hb a) in
              o.each b hb
              ∙ ap (λ (n : ℕ). stopped (n + fallen b later)) first
              ∙ stopped_on (bucket_at L p b) (fallen b now) (fallen b later)
              ∙ ap (λ (n : ℕ). stopped (bucket_at L p b + n)) (sym (fallen_append b now later));
        }

    pub buckets_count : (x : X) (L : Ledger) → shows x ≡ has S L → Orderly S L → (cs : List Call) → SetupsRefused call x cs
        → BucketsCount call shows S L p x cs
    buckets_count x L e s cs f =
        let o = counted_by x L e s cs f in
        let ws : List ℕ = waits_in p cs (answers_of call x cs) in
        record {
          ledger = o.ledger;
          shown = o.shown;
          each = o.each;
          summed = λ low.
              sum_grown L o.ledger p ws bucket_count
              (λ b hb.
              let i = o.each b hb in
              i ∙ below_stop (bucket_at L p b + fallen b ws) (subst (λ (n : ℕ). n < stop) i (low b hb)))
              ∙ ap (λ (n : ℕ). bucket_sum L p + n) (fallen_all ws);
        }

pub desk_timed_as_turn : (n : ℕ) (S : Settings) (L : Ledger) → Orderly S L → (time p : ℕ) → TimedAsTurn (desk n) (λ D. D) S time p (has S L)
desk_timed_as_turn n S L s = timed_as_turn (desk n) (λ D. D) (λ D. n) (desk_faithful n) S (has S L) L refl s

pub desk_buckets_count : (n : ℕ) (S : Settings) → Roomy S → (L : Ledger) → Orderly S L → (p : ℕ) → p < S.ports
    → (cs : List Call) → SetupsRefused (desk n) (has S L) cs → BucketsCount (desk n) (λ D. D) S L p (has S L) cs
desk_buckets_count n S ok L s p hp = buckets_count (desk n) (λ D. D) (λ D. n) (desk_faithful n) S ok p hp (has S L) L refl s
