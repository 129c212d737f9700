-- Demand 3, the order of queues, the pools, the marks, what is recorded and the packets that are kept, over all that is done on a memory, setting up
-- anew and repairs excepted. Assumes nothing.
use mathlib.Core.Path.{◌≡◌, refl, sym, ap, ◌∙◌, subst}
use mathlib.Core.Bool.{Bool, true, false}
use mathlib.Core.List.{List, [], ◌∷◌, ◌++◌, map}
use Prim.Native.Nat.{ℕ, zero, suc, ◌+◌, ◌-◌, ◌*◌, ◌≤◌, ◌<◌, zero-le}
use native.Mathlib.Nat.{le_of_suc-le-suc, not-suc-le-zero, sub-zero, zero-add}
use native.Mathlib.Omega.{arith}
use native.Mathlib.Decide.{dec_le}
use lib.ListN.{length, get_or, take, length-append, get_or-append}
use lib.Seq.{take-append-le, take-append-add, get_or-append-add}
use Rattle.ledger.specs.Settings.{Settings, bucket_count}
use Rattle.ledger.specs.Ledger.{Packet, Ledger, bucket_at, start}
use Rattle.ledger.specs.Header.{whole}
use Rattle.ledger.specs.Calls.{arrive, turn, ready, Reply, refused, done, leaves, is_refused, side_of}
use Rattle.ledger.specs.Desk.{Desk, has, Call, setup, act, setup_rules, desk, after_calls, SetupsRefused}
use Rattle.ledger.specs.Sound.{All}
use Rattle.ledger.specs.Demand.{turns_in, ShowsWaiting, LeavesAmong}
use Rattle.ledger.specs.Rounds.{answer_bytes}
use Rattle.ledger.specs.Tally.{bucket_sum, BelowStop}
use Rattle.ledger.proofs.Tests.{true≢false}
use Rattle.ledger.proofs.Steps.{guarded}
use Rattle.ledger.proofs.Tally.{sum_none, start_none}
use Rattle.ledger.proofs.Courses.{calls_append, refused_parts, calls_show}
use Rattle.layout.specs.Picture.{opens, State}
use Rattle.memory.specs.Memory.{picture, M}
use Rattle.memory.specs.Demands.{on_memory}
use Rattle.memory.specs.Repair.{repaired}
use Rattle.memory.specs.Rounds.{RoomTells, NobodyStarvesInRoundsInMemory}
use Rattle.memory.specs.Runs.{run_calls, AnswersTell}
use Rattle.memory.specs.Deeds.{Undisturbed, RepairStands, found_by, FoundAmongCalls, Told, LeavesInDeeds, NobodyStarvesInDeeds, FromHereOn}
use Rattle.memory.specs.Deeds.{CountsAfresh, HoldsInDeeds, AfreshAfterSetup, waits_of, SumSince, SumSinceSetup}
use Rattle.memory.specs.Deeds.{LentDeed, lent_call, lent_round, lent_run, lent_audit, lent_find, lent_repair, deed_of, left_by, after_deeds}
use Rattle.memory.specs.Deeds.{calls_by, calls_in, is_repair, RepairsRefused, DeedsAreCalls}
use Rattle.memory.proofs.Picture.{opens_means}
use Rattle.memory.proofs.Demands.{pictured_state, memory_faithful, memory_keeps_order, memory_goes_along, memory_pool_kept}
use Rattle.memory.proofs.Demands.{memory_own_mark_alone, memory_halt_lasts}
use Rattle.memory.proofs.Packets.{memory_shown_as_arrived}
use Rattle.memory.proofs.Tally.{memory_buckets_count}
use Rattle.memory.proofs.Rounds.{room_tells}
use Rattle.memory.proofs.Runs.{answers_tell}
use Rattle.memory.proofs.Door.{deed_is_calls, deeds_are_calls, nobody_starves_in_rounds_in_memory}

-- ---- no repair stands

-- on a switch state rule (a) holds
pub opens_state : (m : List ℕ) → State m → opens m ≡ true
opens_state m s = (opens_means m).1 (s.sound.rows, s.long)

pub repair_stands : RepairStands
unfolding RepairStands repaired
repair_stands m S L e = rw (opens_state m (pictured_state m S L e).0)

-- where none is among the deeds, none stands
pub none_stands : (m : List ℕ) (ds : List LentDeed) → All (λ d. is_repair d ≡ false) ds → RepairsRefused m ds
none_stands m [] f = tt
none_stands m (d ∷ ds) f = ((λ i. absurd (true≢false (sym i ∙ f.0))), none_stands (left_by m d) ds f.1)

-- ---- what deeds leave

-- what the memory shows after their calls, it shows after the deeds
shown_by_deeds : (m : List ℕ) (S : Settings) (ds : List LentDeed) → Undisturbed m ds
    → (N : Ledger) → picture (after_calls on_memory m (calls_in m ds)) ≡ has S N → picture (after_deeds m ds) ≡ has S N
unfolding DeedsAreCalls
shown_by_deeds m S ds u N e = ap picture (deeds_are_calls m ds u.repairs) ∙ e

-- and that is a switch state of the same settings
module _ (m : List ℕ) (S : Settings) (L : Ledger) (e : picture m ≡ has S L) where
  shown_after : (cs : List Call) → SetupsRefused on_memory m cs → (N : Ledger) × (picture (after_calls on_memory m cs) ≡ has S N)
  shown_after cs f = (_, calls_show on_memory picture length memory_faithful S m L e cs f)

  pub still_shown : (ds : List LentDeed) → Undisturbed m ds → (N : Ledger) × (picture (after_deeds m ds) ≡ has S N)
  still_shown ds u = let o = shown_after (calls_in m ds) u.setups in (o.0, shown_by_deeds m S ds u o.0 o.1)

-- on a switch state "no repair stands" says that none is among the deeds
pub none_among : (ds : List LentDeed) (m : List ℕ) (S : Settings) (L : Ledger) → picture m ≡ has S L → Undisturbed m ds
    → All (λ d. is_repair d ≡ false) ds
none_among [] m S L e u = tt
none_among (d ∷ ds) m S L e u =
    let cs : List Call = calls_by m d in
    let is = deed_is_calls m d u.repairs.0 in
    let parts = refused_parts on_memory m cs (calls_in (after_calls on_memory m cs) ds) u.setups in
    let o = shown_after m S L e cs parts.0 in (
      no_repair (is_repair d) u.repairs.0,
      none_among ds (left_by m d) S o.0 (ap picture is ∙ o.1) (record {
        setups = subst (λ (n : List ℕ). SetupsRefused on_memory n (calls_in n ds)) (sym is) parts.1;
        repairs = u.repairs.1;
      }),
    )
  where
    stands : (repaired m).0 ≡ done
    stands = unfold RepairStands in (repair_stands m S L e)

    no_repair : (b : Bool) → (b ≡ true → is_refused (repaired m).0 ≡ true) → b ≡ false
    no_repair true f = absurd (true≢false (sym (f refl) ∙ ap is_refused stands))
    no_repair false f = refl

-- the first deeds are the first calls
first_calls : (ds : List LentDeed) (m : List ℕ) (i : ℕ) → take (length (calls_in m (take i ds))) (calls_in m ds) ≡ calls_in m (take i ds)
first_calls ds m zero = refl
first_calls [] m (suc i) = refl
first_calls (d ∷ ds) m (suc i) =
    let cs : List Call = calls_by m d in
    let n : List ℕ = after_calls on_memory m cs in
    ap (λ (j : ℕ). take j (cs ++ calls_in n ds)) (length-append cs (calls_in n (take i ds)))
    ∙ take-append-add cs (calls_in n ds) (length (calls_in n (take i ds)))
    ∙ ap (λ (l : List Call). cs ++ l) (first_calls ds n i)

first_repairs : (ds : List LentDeed) (m : List ℕ) (i : ℕ) → RepairsRefused m ds → RepairsRefused m (take i ds)
first_repairs ds m zero r = tt
first_repairs [] m (suc i) r = tt
first_repairs (d ∷ ds) m (suc i) r = (r.0, first_repairs ds (left_by m d) i r.1)

pub found_among_calls : FoundAmongCalls
unfolding FoundAmongCalls DeedsAreCalls
found_among_calls m ds r i =
    deeds_are_calls m (take i ds) (first_repairs ds m i r) ∙ ap (after_calls on_memory m) (sym (first_calls ds m i))

-- ---- a packet that leaves among calls leaves among the first of them, or after these

turns_append : (p : ℕ) (xs ys : List Call) → turns_in p (xs ++ ys) ≡ turns_in p xs + turns_in p ys
turns_append p [] ys = omega arith
turns_append p (c ∷ xs) ys = omega (arith, turns_append p xs ys)

module _ {X : Type 0} (call : X → Call → Reply × X) (shows : X → Desk) (S : Settings) (p q : ℕ) (k : Packet) (n : ℕ) (x : X) (xs ys : List Call)
    (o : LeavesAmong call shows S p q k n x (xs ++ ys)) where
  leaves_first : o.moment < length xs → LeavesAmong call shows S p q k n x xs
  leaves_first h = record {
    moment = o.moment;
    among = h;
    soon = subst (λ (l : List Call). turns_in p l < n) (first o.moment (omega arith)) o.soon;
    clock = o.clock;
    a_turn = sym (get_or-append xs ys (act (ready 0)) o.moment h) ∙ o.a_turn;
    it_leaves = ap (λ (l : List Call). (call (after_calls call x l) (act (turn o.clock p))).0) (sym (first o.moment (omega arith))) ∙ o.it_leaves;
    until_then = λ i l. subst (λ (l : List Call). ShowsWaiting shows S p q k (after_calls call x l)) (first i l) (o.until_then i l);
  }
    where
      first : (i : ℕ) → i ≤ o.moment → take i (xs ++ ys) ≡ take i xs
      first i l = take-append-le i xs ys (omega (arith, h))

  leaves_later : length xs ≤ o.moment → LeavesAmong call shows S p q k (n - turns_in p xs) (after_calls call x xs) ys
  leaves_later h = record {
    moment = t;
    among = omega (arith, o.among, length-append xs ys);
    soon = omega (arith, o.soon, turns_append p xs (take t ys), ap (turns_in p) (later t), ap (λ (j : ℕ). turns_in p (take j (xs ++ ys))) is);
    clock = o.clock;
    a_turn = sym (get_or-append-add xs ys t (act (ready 0))) ∙ ap (λ (j : ℕ). get_or (xs ++ ys) j (act (ready 0))) (sym is) ∙ o.a_turn;
    it_leaves = ap (λ (y : X). (call y (act (turn o.clock p))).0) (sym (after t))
        ∙ ap (λ (j : ℕ). (call (after_calls call x (take j (xs ++ ys))) (act (turn o.clock p))).0) (sym is)
        ∙ o.it_leaves;
    until_then = λ i l. subst (ShowsWaiting shows S p q k) (after i) (o.until_then (length xs + i) (omega arith));
  }
    where
      t : ℕ
      t = o.moment - length xs

      is : o.moment ≡ length xs + t
      is = omega (arith, h)

      later : (i : ℕ) → take (length xs + i) (xs ++ ys) ≡ xs ++ take i ys
      later i = take-append-add xs ys i

      after : (i : ℕ) → after_calls call x (take (length xs + i) (xs ++ ys)) ≡ after_calls call (after_calls call x xs) (take i ys)
      after i = ap (after_calls call x) (later i) ∙ calls_append call x xs (take i ys)

-- ---- so among deeds it leaves in one of them, and the caller is told

module _ (S : Settings) (p q : ℕ) (k : Packet) where
  told_so : (n : ℕ) (m : List ℕ) (d : LentDeed) → LeavesAmong on_memory picture S p q k n m (calls_by m d) → Told p q k m d
  unfolding RoomTells AnswersTell
  told_so n m (lent_call c) o = only o.moment o.among o.a_turn o.it_leaves
    where
      only : (t : ℕ) → t < 1 → get_or (c ∷ []) t (act (ready 0)) ≡ act (turn o.clock p)
          → (M (act (turn o.clock p)) (after_calls on_memory m (take t (c ∷ [])))).0 ≡ leaves k (side_of q) → Told p q k m (lent_call c)
      only zero h e i = (o.clock, e, ap (λ (b : Call). (M b m).0) e ∙ i)
      only (suc t) h e i = absurd (not-suc-le-zero (le_of_suc-le-suc h))
  told_so n m (lent_round room) o = room_tells m room o.moment o.clock p o.among o.a_turn ∙ ap answer_bytes o.it_leaves
  told_so n m (lent_run s room) o = (
    o.moment,
    o.clock,
    o.a_turn,
    answers_tell m s room o.moment o.among
        ∙ ap (λ (c : Call). answer_bytes (M c (after_calls on_memory m (take o.moment (run_calls m s room)))).0) o.a_turn
        ∙ ap answer_bytes o.it_leaves,
  )
  told_so n m (lent_audit room) o = not-suc-le-zero o.among
  told_so n m lent_find o = not-suc-le-zero o.among
  told_so n m lent_repair o = not-suc-le-zero o.among

  -- in the first of deeds, or after it; the first finds a memory that shows k
  module _ (n : ℕ) (m : List ℕ) (d : LentDeed) (ds : List LentDeed) (waits : ShowsWaiting picture S p q k m) where
    at_first : LeavesAmong on_memory picture S p q k n m (calls_by m d) → LeavesInDeeds S p q k n m (d ∷ ds)
    at_first w = record { deed = 0; among = omega arith; in_it = rw sub-zero w; told = told_so n m d w; until_then = so }
      where
        so : (i : ℕ) → i ≤ 0 → ShowsWaiting picture S p q k (found_by m (d ∷ ds) i)
        so zero l = waits
        so (suc i) l = absurd (not-suc-le-zero l)

    at_next : left_by m d ≡ after_calls on_memory m (calls_by m d) → LeavesInDeeds S p q k (n - turns_in p (calls_by m d)) (left_by m d) ds
        → LeavesInDeeds S p q k n m (d ∷ ds)
    at_next is w = record { deed = suc w.deed; among = omega (arith, w.among); in_it = rw fewer at w.in_it; told = w.told; until_then = so }
      where
        before : List ℕ → List Call
        before y = calls_in y (take w.deed ds)

        fewer : n - turns_in p (calls_by m d) - turns_in p (before (left_by m d)) ≡ n - turns_in p
            (calls_by m d ++ before (after_calls on_memory m (calls_by m d)))
        fewer =
            omega (arith, turns_append p (calls_by m d) (before (after_calls on_memory m (calls_by m d))), ap (λ (y : List ℕ). turns_in p (before y)) is)

        so : (i : ℕ) → i ≤ suc w.deed → ShowsWaiting picture S p q k (found_by m (d ∷ ds) i)
        so zero l = waits
        so (suc i) l = w.until_then i (le_of_suc-le-suc l)

  leaves_in_deeds : (ds : List LentDeed) (n : ℕ) (m : List ℕ) → RepairsRefused m ds → LeavesAmong on_memory picture S p q k n m (calls_in m ds)
      → LeavesInDeeds S p q k n m ds
  leaves_in_deeds [] n m r o = absurd (not-suc-le-zero o.among)
  leaves_in_deeds (d ∷ ds) n m r o = go (dec_le (suc o.moment) (length cs)) (leaves_in_deeds ds (n - turns_in p cs) (left_by m d) r.1)
    where
      cs : List Call
      cs = calls_by m d

      rest : List ℕ → List Call
      rest y = calls_in y ds

      is : left_by m d ≡ after_calls on_memory m cs
      is = deed_is_calls m d r.0

      go : Dec (suc o.moment ≤ length cs)
          → (LeavesAmong on_memory picture S p q k (n - turns_in p cs) (left_by m d) (rest (left_by m d))
          → LeavesInDeeds S p q k (n - turns_in p cs) (left_by m d) ds)
          → LeavesInDeeds S p q k n m (d ∷ ds)
      go (yes h) f = at_first n m d ds (o.until_then 0 zero-le) (leaves_first on_memory picture S p q k n m cs (rest (after_calls on_memory m cs)) o h)
      go (no h) f =
          at_next n m d ds (o.until_then 0 zero-le) is
          (f
          (subst (λ (y : List ℕ). LeavesAmong on_memory picture S p q k (n - turns_in p cs) y (rest y)) (sym is)
          (leaves_later on_memory picture S p q k n m cs (rest (after_calls on_memory m cs)) o (omega arith))))

-- ---- all of it, by the theorems over calls

module _ (m : List ℕ) (S : Settings) (L : Ledger) (e : picture m ≡ has S L) where
  pub nobody_starves_in_deeds : NobodyStarvesInDeeds S L m
  unfolding NobodyStarvesInRoundsInMemory
  nobody_starves_in_deeds p q hp hq ahead k there hand ds u h =
      leaves_in_deeds S p q k ds (S.queues * (length ahead + 1)) m u.repairs
      (nobody_starves_in_rounds_in_memory m S L e p q hp hq ahead k there hand (map deed_of ds) u.setups h)

  from_here_on : FromHereOn S L m
  from_here_on = record {
    shown = e;
    nobody_starves = nobody_starves_in_deeds;
    order = λ u hu ds f. let o = memory_keeps_order m S L e u hu (calls_in m ds) f.setups in (o, shown_by_deeds m S ds f o.ledger o.shown);
    pools = λ p hp ds f. let o = memory_pool_kept m S L e p hp (calls_in m ds) f.setups in (o, shown_by_deeds m S ds f o.ledger o.shown);
    marks = λ p ds f. let o = memory_own_mark_alone m S L e p (calls_in m ds) f.setups in (o, shown_by_deeds m S ds f o.sent o.shown);
    halts = λ p some ds f unlifted.
        let o = memory_halt_lasts m S L e p some (calls_in m ds) f.setups unlifted in (o, shown_by_deeds m S ds f o.ledger o.shown);
    counts = λ p hp ds f. let o = memory_buckets_count m S L e p hp (calls_in m ds) f.setups in (o, shown_by_deeds m S ds f o.ledger o.shown);
    records = λ ds f. let o = memory_goes_along m S L e (calls_in m ds) f.setups in (o, shown_by_deeds m S ds f o.ledger o.shown);
    packets = λ ks sized p n b y i ds f unsent.
        let left : List ℕ = (M (act (arrive p (whole n b))) m).1 in
        let o = memory_shown_as_arrived m S L e ks sized p n b y i (calls_in left ds) f.setups unsent in
        (o, shown_by_deeds left S ds f o.ledger o.shown);
  }

pub holds_in_deeds : HoldsInDeeds
unfolding HoldsInDeeds
holds_in_deeds m S L e = record {
  now = from_here_on m S L e;
  later = λ ds u. let o = still_shown m S L e ds u in (o.0, from_here_on (after_deeds m ds) S o.0 o.1);
}

-- ---- after setup

pub afresh_after_setup : AfreshAfterSetup
unfolding AfreshAfterSetup HoldsInDeeds
afresh_after_setup m T d =
    let f = memory_faithful m (setup T) in
    holds_in_deeds (M (setup T) m).1 T (start T)
    (ap (λ (o : Reply × Desk). o.1) f ∙ stands (ap (λ (o : Reply × Desk). o.0) (sym f) ∙ d))
  where
    stands : (desk (length m) (picture m) (setup T)).0 ≡ done → (desk (length m) (picture m) (setup T)).1 ≡ has T (start T)
    stands =
        guarded {X = Reply × Desk} (λ o. o.0 ≡ done → o.1 ≡ has T (start T)) (setup_rules (length m) T) (λ r. (refused r, picture m))
        (done, has T (start T)) (λ r i. absurd (let z : ◌≡◌ {A = ℕ} 0 1 = cc in omega arith)) (λ c i. refl)

-- ---- the buckets, counted from none

pub sum_since : (m : List ℕ) (S : Settings) (L : Ledger) → CountsAfresh S L m → ((p : ℕ) → p < S.ports → (b : ℕ) → b < bucket_count → bucket_at L p b ≡ 0)
    → SumSince S m
sum_since m S L c none p hp ds u N i low =
    let o = c.now.counts p hp ds u in
    let shown = sym o.1 ∙ i in
    let same : o.0.ledger ≡ N = cc in
    ap (λ (K : Ledger). bucket_sum K p) (sym same)
    ∙ o.0.summed (subst (λ (K : Ledger). BelowStop K p) (sym same) low)
    ∙ ap (λ (n : ℕ). n + length (waits_of p m ds)) (sum_none L p bucket_count (none p hp))
    ∙ zero-add (length (waits_of p m ds))

pub sum_since_setup : SumSinceSetup
unfolding SumSinceSetup AfreshAfterSetup
sum_since_setup m T d = sum_since (M (setup T) m).1 T (start T) (afresh_after_setup m T d) (start_none T)
