-- From door to door: who stands in ingress is stitched soon, and from there leaves soon. Assumes nothing.
use mathlib.Core.Path.{◌≡◌, refl, sym, ap, ◌∙◌, subst}
use mathlib.Core.Logic.{◌⊎◌, inl, inr}
use mathlib.Core.Bool.{Bool, true, false, cond}
use mathlib.Core.List.{List, [], ◌∷◌, ◌++◌, map}
use Prim.Native.Nat.{ℕ, zero, suc, ◌+◌, ◌-◌, ◌≤◌, ◌<◌, zero-le}
use native.Mathlib.Omega.{arith}
use native.Mathlib.Decide.{dec_le}
use lib.ListN.{length, get_or, drop, take, length-append, length-drop, length-map, take-append-drop, get_or-append, get_or-map}
use lib.Seq.{take-suc, take-add, drop-append-le, drop-append-add, get_or-append-add, get_or-drop}
use lib.Dec.{ltb}
use Rattle.ledger.specs.Settings.{Settings}
use Rattle.ledger.specs.Ledger.{Packet, Ledger, map_of}
use Rattle.ledger.specs.Ready.{bit}
use Rattle.ledger.specs.Calls.{Act, stitch, turn, ready, Reply, is_empty}
use Rattle.ledger.specs.Calls.{step, run}
use Rattle.ledger.specs.Desk.{Desk, has, Call, act, desk, after_calls, SetupsRefused}
use Rattle.ledger.specs.Sound.{All, Orderly, Roomy}
use Rattle.ledger.specs.Rounds.{round_acts, round_rules, Deed, one, round, runs, look, Carried, nothing, whole_round, done_by}
use Rattle.ledger.specs.Door.{line_of, line_for, rounds_for, calls_of, rounds_in, rounds_before, done_from}
use Rattle.ledger.specs.Door.{ShowsIngress, ShowsLine, LeavesAt, LeavesWithinRounds}
use Rattle.ledger.specs.Door.{StitchedSoonFrom, LeavesSoonFrom, DoorToDoorFrom, NobodyStarvesInRoundsFrom}
use Rattle.ledger.specs.Door.{LeavesSoonAtDesk, DoorToDoorAtDesk, NobodyStarvesInRoundsAtDesk}
use Rattle.ledger.proofs.Tests.{ltb_is, ltb_not, ltb_yes, ltb_no}
use Rattle.ledger.proofs.Lists.{All-map}
use Rattle.ledger.proofs.Steps.{guarded, keep_step, keep_run}
use Rattle.ledger.proofs.Courses.{acts_in, calls_append, refused_parts, first_refused, Faithful, act_answer, act_shows, calls_show, desk_faithful}
use Rattle.ledger.proofs.Walk.{count_in, Course, Standing, count_calls, count_acts, Comes, Counts, comes_in_rounds}
use Rattle.ledger.proofs.Line.{is_chance, Leaving, Waits, line_course}
use Rattle.ledger.proofs.Waits.{nobody_starves_from}
use Rattle.ledger.proofs.Chances.{chances_of, some_line, round_has_chance}
use Rattle.ledger.proofs.Ingress.{is_stitch, Stitching, stitching_now, Heads, door_course, round_stitches, to_in, waits_after, still_chance}

-- ---- what is left to do after call t

-- of a deed, after its call number t
abbrev cut : ℕ → Carried → Carried
cut t d = record { a_round = d.a_round; calls = drop (suc t) d.calls }

rest : ℕ → List Carried → List Carried
rest t [] = []
rest t (d ∷ ds) = cond (ltb t (length d.calls)) (cut t d ∷ ds) (rest (t - length d.calls) ds)

rest_calls : (t : ℕ) (ds : List Carried) → calls_of (rest t ds) ≡ drop (suc t) (calls_of ds)
unfolding rest
rest_calls t [] = refl
rest_calls t (d ∷ ds) = go (ltb t (length d.calls)) refl (rest_calls (t - length d.calls) ds)
  where
    n : ℕ
    n = length d.calls

    go : (b : Bool) → ltb t n ≡ b → calls_of (rest (t - n) ds) ≡ drop (suc (t - n)) (calls_of ds)
        → calls_of (cond b (cut t d ∷ ds) (rest (t - n) ds)) ≡ drop (suc t) (d.calls ++ calls_of ds)
    go true i rec = sym (drop-append-le (suc t) d.calls (calls_of ds) (ltb_yes t n i))
    go false i rec =
        let l = ltb_no t n i in
        let is : suc t ≡ n + suc (t - n) = omega arith in
        rec ∙ sym (drop-append-add d.calls (calls_of ds) (suc (t - n))) ∙ ap (λ (m : ℕ). drop m (d.calls ++ calls_of ds)) (sym is)

rest_before : (t i : ℕ) (ds : List Carried) → rounds_before ds (suc t + i) ≡ rounds_before ds t + rounds_before (rest t ds) i
unfolding rest
rest_before t i [] = omega arith
rest_before t i (d ∷ ds) = go (ltb t n) refl (rest_before (t - n) i ds)
  where
    n : ℕ
    n = length d.calls

    one' : ℕ
    one' = bit d.a_round

    inside : t < n → Dec (suc i ≤ n - suc t)
        → cond (ltb (suc t + i) n) 0 (one' + rounds_before ds (suc t + i - n)) ≡ 0 + rounds_before (cut t d ∷ ds) i
    inside h (yes l) =
        rw (ltb_is (suc t + i) n (omega arith), length-drop (suc t) d.calls, ltb_is i (n - suc t) l) (omega arith)
    inside h (no l) =
        let same : suc t + i - n ≡ i - (n - suc t) = omega arith in
        rw (ltb_not (suc t + i) n (omega arith), length-drop (suc t) d.calls, ltb_not i (n - suc t) (omega arith), same) (omega arith)

    go : (b : Bool) → ltb t n ≡ b → rounds_before ds (suc (t - n) + i) ≡ rounds_before ds (t - n) + rounds_before (rest (t - n) ds) i
        → cond (ltb (suc t + i) n) 0 (one' + rounds_before ds (suc t + i - n))
        ≡ cond b 0 (one' + rounds_before ds (t - n)) + rounds_before (cond b (cut t d ∷ ds) (rest (t - n) ds)) i
    go true e rec = inside (ltb_yes t n e) (dec_le (suc i) (n - suc t))
    go false e rec =
        let l = ltb_no t n e in
        let same : suc t + i - n ≡ suc (t - n) + i = omega arith in
        rw (ltb_not (suc t + i) n (omega arith), same) (omega (arith, rec))

rest_rounds : (t : ℕ) (ds : List Carried) → rounds_before ds t + rounds_in (rest t ds) ≡ rounds_in ds
unfolding rest
rest_rounds t [] = omega arith
rest_rounds t (d ∷ ds) = go (ltb t (length d.calls)) (rest_rounds (t - length d.calls) ds)
  where
    n : ℕ
    n = length d.calls

    go : (b : Bool) → rounds_before ds (t - n) + rounds_in (rest (t - n) ds) ≡ rounds_in ds
        → cond b 0 (bit d.a_round + rounds_before ds (t - n)) + rounds_in (cond b (cut t d ∷ ds) (rest (t - n) ds))
        ≡ bit d.a_round + rounds_in ds
    go true rec = omega arith
    go false rec = omega (arith, rec)

-- what holds of every deed, and of the one in which call t stands once it is cut there, holds of what is left
module _ (P Q : Carried → Type 0) (whole : (d : Carried) → P d → Q d) (b : Call)
    (cuts : (d : Carried) → P d → (j : ℕ) → j < length d.calls → get_or d.calls j (act (ready 0)) ≡ b → Q (cut j d)) where
  rest_all : (t : ℕ) (ds : List Carried) → All P ds → t < length (calls_of ds) → get_or (calls_of ds) t (act (ready 0)) ≡ b → All Q (rest t ds)
  unfolding rest
  rest_all t [] f h e = tt
  rest_all t (d ∷ ds) f h e = go (ltb t n) refl (rest_all (t - n) ds f.1)
    where
      n : ℕ
      n = length d.calls

      go : (c : Bool) → ltb t n ≡ c → (t - n < length (calls_of ds) → get_or (calls_of ds) (t - n) (act (ready 0)) ≡ b → All Q (rest (t - n) ds))
          → All Q (cond c (cut t d ∷ ds) (rest (t - n) ds))
      go true i rec =
          let l = ltb_yes t n i in (
            cuts d f.0 t l (sym (get_or-append d.calls (calls_of ds) (act (ready 0)) t l) ∙ e),
            All-map ds whole f.1,
          )
      go false i rec =
          let l = ltb_no t n i in
          let is : t ≡ n + (t - n) = omega arith in
          rec (omega (arith, length-append d.calls (calls_of ds)))
          (sym (get_or-append-add d.calls (calls_of ds) (t - n) (act (ready 0)))
          ∙ ap (λ (m : ℕ). get_or (d.calls ++ calls_of ds) m (act (ready 0))) (sym is)
          ∙ e)

drop_map : (n : ℕ) (acts : List Act) → drop n (map act acts) ≡ map act (drop n acts)
drop_map zero acts = refl
drop_map (suc n) [] = refl
drop_map (suc n) (a ∷ acts) = drop_map n acts

-- ---- on whatever answers and shows as the desk does

-- a deed is no round, or a whole one of these settings
abbrev RoundOrNot : Settings → Carried → Type 0
RoundOrNot S d = (d.a_round ≡ false) ⊎ (d ≡ whole_round S)

round_or_not : (S : Settings) (L : Ledger) (d : Deed) → RoundOrNot S (done_by (has S L) d)
round_or_not S L (one c) = inl refl
round_or_not S L (round n) = guarded (RoundOrNot S) (round_rules S n) (λ r. nothing) (whole_round S) (λ r. inl refl) (λ c. inr refl)
round_or_not S L (runs f) = inl refl
round_or_not S L look = inl refl

module _ {X : Type 0} (call : X → Call → Reply × X) (shows : X → Desk) (long : X → ℕ) (faithful : Faithful call shows long)
    (S : Settings) (ok : Roomy S) where
  abbrev did : X → List Deed → List Carried
  did x deeds = done_from call shows x deeds

  -- the settings stay, so every round is one of these settings
  all_rounds : (deeds : List Deed) (x : X) (L : Ledger) → shows x ≡ has S L → SetupsRefused call x (calls_of (did x deeds))
      → All (RoundOrNot S) (did x deeds)
  all_rounds [] x L e f = tt
  all_rounds (d ∷ deeds) x L e f =
      let first : List Call = (done_by (shows x) d).calls in
      let parts = refused_parts call x first (calls_of (did (after_calls call x first) deeds)) f in (
        subst (λ (D : Desk). RoundOrNot S (done_by D d)) (sym e) (round_or_not S L d),
        all_rounds deeds (after_calls call x first) (run S L (acts_in first)) (calls_show call shows long faithful S x L e first parts.0) parts.1,
      )

  -- where each whole round has an act that counts, every deed does as many as it has rounds
  module _ (W : ℕ → Ledger → Type 0) (c : Ledger → Act → Bool) (E : Ledger → Act → Type 0) (course : Course S W c E)
      (in-round : (n : ℕ) (L : Ledger) → Orderly S L → W n L → 1 ≤ count_in S c L (round_acts S)) where
    deed_counts : (d : Carried) → RoundOrNot S d → Counts call shows long faithful S ok W c E course d
    deed_counts d (inl e) n x w = rw e zero-le
    deed_counts d (inr e) n x w =
        rw (e, count_acts call shows long faithful S c x w.ledger w.shown (round_acts S)) (in-round n w.ledger w.orderly w.waits)

  -- the ledger that call number t finds is orderly
  found_orderly : (x : X) (L : Ledger) → shows x ≡ has S L → Orderly S L → (cs : List Call) → SetupsRefused call x cs
      → (t : ℕ) (M : Ledger) → shows (after_calls call x (take t cs)) ≡ has S M → Orderly S M
  found_orderly x L e s cs f t M i =
      let acts : List Act = acts_in (take t cs) in
      let j = calls_show call shows long faithful S x L e (take t cs) (first_refused call x cs f t) in
      let same : has S (run S L acts) ≡ has S M = sym j ∙ i in
      let is : run S L acts ≡ M = cc in
      subst (Orderly S) is (keep_run S ok L s acts)

  -- and what it leaves
  next_call : (x : X) (cs : List Call) (t : ℕ) → t < length cs → (a : Act) → get_or cs t (act (ready 0)) ≡ act a
      → (M : Ledger) → shows (after_calls call x (take t cs)) ≡ has S M → shows (after_calls call x (take (suc t) cs)) ≡ has S (step S M a).1
  next_call x cs t h a i M j =
      ap (λ (l : List Call). shows (after_calls call x l)) (take-suc cs t (act (ready 0)) h)
      ∙ ap shows (calls_append call x (take t cs) (get_or cs t (act (ready 0)) ∷ []))
      ∙ ap (λ (b : Call). shows (call (after_calls call x (take t cs)) b).1) i
      ∙ act_shows call shows long faithful S (after_calls call x (take t cs)) M j a

  -- ---- "stitched by round s + 1"

  pub stitched_soon_from : (x : X) (L : Ledger) → shows x ≡ has S L → Orderly S L → StitchedSoonFrom call shows S L x
  stitched_soon_from x L e s r hr ahead k here deeds f h =
      let ds : List Carried = did x deeds in
      let course = door_course S ok r hr k in
      let each-deed = deed_counts (Heads S ok r hr k) (λ M a. is_stitch r a) (Stitching S r k) course
      (λ n M u w. round_stitches S ok r hr M) in
      let o = comes_in_rounds call shows long faithful S ok _ _ _ course ds (All-map ds each-deed (all_rounds deeds x L e f))
      (length ahead + 1) x f
      (record { ledger = L; shown = e; orderly = s; waits = record { ahead = ahead; behind = here.behind; stands = here.there; soon = omega arith } })
      h in
      let cs : List Call = calls_of ds in
      let is_stitch_lem : get_or cs o.moment (act (ready 0)) ≡ act (stitch r) = o.is_that ∙ ap act o.event.a_stitch in
      let goes = ap (λ (a : Act). step S o.found a) (sym o.event.a_stitch) ∙ o.event.it_goes in
      record {
        moment = o.moment;
        found = o.found;
        it_is = record {
          among = o.among;
          a_stitch = is_stitch_lem;
          finds = o.shown;
          oldest = o.event.oldest;
          answer = act_answer call shows long faithful S (after_calls call x (take o.moment cs)) o.found o.shown (stitch r)
              ∙ ap (λ (out : Reply × Ledger). out.0) goes;
          leads = next_call x cs o.moment o.among (stitch r) is_stitch_lem o.found o.shown
              ∙ ap (λ (out : Reply × Ledger). has S out.1) goes;
        };
        soon = o.soon;
        until_then = λ i l. in_ingress (after_calls call x (take i cs)) (o.until_then i l);
      }
    where
      in_ingress : (y : X) → Standing shows S (Heads S ok r hr k) y → ShowsIngress call shows S r k y
      in_ingress y t = record {
        ledger = t.1.ledger;
        ahead = t.1.waits.ahead;
        shown = t.1.shown;
        stands = record { behind = t.1.waits.behind; there = t.1.waits.stands };
      }

  -- ---- "within queue count × (k + 1) rounds, that one included if the stitch was a round's"

  -- of deeds, that in which the stitch stands still has its chance for the line after it, if it is a round
  module _ (r p q : ℕ) (hp : p < S.ports) (hq : q < S.queues) (d : ℕ) (k : Packet) where
    abbrev LineCounts : Carried → Type 0
    LineCounts = Counts call shows long faithful S ok (Waits S ok p q hp hq d k) (is_chance S p q) (Leaving S p q k) (line_course S ok p q hp hq d k)

    line_some : (n : ℕ) (N : Ledger) → Waits S ok p q hp hq d k n N → is_empty (line_of S N p q) ≡ false
    line_some n N w = some_line S ok p q hp hq N w.ahead k w.behind w.stands

    whole_counts : (b : Carried) → RoundOrNot S b → LineCounts b
    whole_counts =
        deed_counts _ _ _ (line_course S ok p q hp hq d k) (λ n N s w. round_has_chance S ok p q hp hq N s (line_some n N w))

    cut_counts : (b : Carried) → RoundOrNot S b → (j : ℕ) → j < length b.calls → get_or b.calls j (act (ready 0)) ≡ act (stitch r)
        → LineCounts (cut j b)
    cut_counts b (inl e) j h i n x w = rw e zero-le
    cut_counts b (inr e) j h i n x w =
        let acts : List Act = round_acts S in
        let same : b.calls ≡ map act acts = ap (λ (o : Carried). o.calls) e in
        let one_round : bit b.a_round ≡ 1 = ap (λ (o : Carried). bit o.a_round) e in
        let short : j < length acts = omega (arith, h, ap length same, length-map acts act) in
        let there : act (get_or acts j (ready 0)) ≡ act (stitch r) =
        sym (get_or-map act acts j (ready 0)) ∙ ap (λ (l : List Call). get_or l j (act (ready 0))) (sym same) ∙ i in
        let is : get_or acts j (ready 0) ≡ stitch r = cc in
        let some = still_chance S ok p q hp hq r j short is w.ledger w.orderly (line_some n w.ledger w.waits) in
        let left : count_calls call shows (is_chance S p q) x (drop (suc j) b.calls) ≡ chances_of S p q w.ledger (drop (suc j) acts) =
        ap (count_calls call shows (is_chance S p q) x) (ap (λ (l : List Call). drop (suc j) l) same ∙ drop_map (suc j) acts)
        ∙ count_acts call shows long faithful S (is_chance S p q) x w.ledger w.shown (drop (suc j) acts) in
        omega (arith, some, left, one_round)

  -- what comes among the calls that are left after call t comes after it among all
  module _ (x : X) (ds : List Carried) (t : ℕ) (short : t < length (calls_of ds)) (p q : ℕ) (hp : p < S.ports) (hq : q < S.queues) (d : ℕ)
      (k : Packet) where
    abbrev all : List Call
    all = calls_of ds

    abbrev left : List Call
    left = calls_of (rest t ds)

    abbrev then : X
    then = after_calls call x (take (suc t) all)

    later : (j : ℕ) → after_calls call x (take (suc t + j) all) ≡ after_calls call then (take j left)
    later j =
        ap (after_calls call x) (take-add (suc t) j all)
        ∙ calls_append call x (take (suc t) all) (take j (drop (suc t) all))
        ∙ ap (λ (l : List Call). after_calls call then (take j l)) (sym (rest_calls t ds))

    left_refused : SetupsRefused call x all → SetupsRefused call then left
    left_refused f =
        rw (rest_calls t ds) (refused_parts call x (take (suc t) all) (drop (suc t) all) (rw (take-append-drop (suc t) all) f)).1

    in_line : (y : X) → Standing shows S (Waits S ok p q hp hq d k) y → ShowsLine call shows S p q k y
    in_line y w = record {
      ledger = w.1.ledger;
      ahead = w.1.waits.ahead;
      shown = w.1.shown;
      stands = record { behind = w.1.waits.behind; there = w.1.waits.stands };
    }

    module _ (n : ℕ) (o : Comes call shows S (Waits S ok p q hp hq d k) (Leaving S p q k) (rounds_before (rest t ds)) n then left) where
      goes_out : LeavesAt call shows p q k x all (suc t + o.moment)
      goes_out = record {
        among = omega (arith, o.among, ap length (rest_calls t ds), length-drop (suc t) all, short);
        clock = o.event.clock;
        a_turn = sym (get_or-drop (suc t) all o.moment (act (ready 0)))
            ∙ ap (λ (l : List Call). get_or l o.moment (act (ready 0))) (sym (rest_calls t ds))
            ∙ o.is_that
            ∙ ap act o.event.a_turn;
        it_leaves = ap (λ (z : X). (call z (act (turn o.event.clock p))).0) (later o.moment)
            ∙ act_answer call shows long faithful S (after_calls call then (take o.moment left)) o.found o.shown (turn o.event.clock p)
            ∙ ap (λ (a : Act). (step S o.found a).0) (sym o.event.a_turn)
            ∙ o.event.it_leaves;
      }

      stays_in_line : (i : ℕ) → t < i → i ≤ suc t + o.moment → ShowsLine call shows S p q k (after_calls call x (take i all))
      stays_in_line i a b =
          let j : ℕ = i - suc t in
          let is : i ≡ suc t + j = omega arith in
          rw (is, later j) (in_line (after_calls call then (take j left)) (o.until_then j (omega arith)))

      leaves_so : LeavesWithinRounds call shows S p q k n t x ds
      leaves_so = record {
        moment = suc t + o.moment;
        after = omega arith;
        it_does = goes_out;
        soon = omega (arith, o.soon, rest_before t o.moment ds);
        between = stays_in_line;
      }

  pub leaves_soon_from : (x : X) (L : Ledger) → shows x ≡ has S L → Orderly S L → LeavesSoonFrom call shows S x
  leaves_soon_from x L e s r hr k deeds f t M at hand h =
      let ds : List Carried = did x deeds in
      let p : ℕ = map_of M k.dest in
      let q : ℕ = k.queue in
      let d : ℕ = length (line_for S M k) + 1 in
      let u = found_orderly x L e s (calls_of ds) f t M at.finds in
      let now = stitching_now S ok r hr M u k at.oldest in
      let i = to_in S ok r hr k M u (stitch r) now in
      let counts = rest_all (RoundOrNot S) (LineCounts r p q i.0 i.1 d k) (whole_counts r p q i.0 i.1 d k) (act (stitch r))
      (cut_counts r p q i.0 i.1 d k) t ds (all_rounds deeds x L e f) at.among at.a_stitch in
      leaves_so x ds t at.among p q i.0 i.1 d k (rounds_for S M k)
      (comes_in_rounds call shows long faithful S ok _ _ _ (line_course S ok p q i.0 i.1 d k) (rest t ds) counts (rounds_for S M k)
      (after_calls call x (take (suc t) (calls_of ds))) (left_refused x ds t at.among p q i.0 i.1 d k f)
      (record {
        ledger = (step S M (stitch r)).1;
        shown = next_call x (calls_of ds) t at.among (stitch r) at.a_stitch M at.finds;
        orderly = keep_step S ok M u (stitch r);
        waits = waits_after S ok r hr k M u (stitch r) now hand;
      })
      (omega (arith, h, rest_rounds t ds)))

  -- ---- both joined; and demand 3, which counts a round's turns

  pub door_to_door_from : (x : X) (L : Ledger) → shows x ≡ has S L → Orderly S L → DoorToDoorFrom call shows S L x
  door_to_door_from x L e s r hr ahead k here deeds f h =
      let o = stitched_soon_from x L e s r hr ahead k here deeds f h in
      record { in_line = o; and_out = λ c l. leaves_soon_from x L e s r hr k deeds f o.moment o.found o.it_is c l }

  pub nobody_starves_in_rounds_from : (x : X) (L : Ledger) → shows x ≡ has S L → Orderly S L → NobodyStarvesInRoundsFrom call shows S L x
  nobody_starves_in_rounds_from x L e s p q hp hq ahead k there hand deeds f h =
      nobody_starves_from call shows long faithful S ok x L e s p q hp hq ahead k there hand (calls_of (did x deeds)) f h

-- ---- the desk itself

pub leaves_soon_at_desk : LeavesSoonAtDesk
unfolding LeavesSoonAtDesk
leaves_soon_at_desk n S ok L s = leaves_soon_from (desk n) (λ D. D) (λ D. n) (desk_faithful n) S ok (has S L) L refl s

pub door_to_door_at_desk : DoorToDoorAtDesk
unfolding DoorToDoorAtDesk
door_to_door_at_desk n S ok L s = door_to_door_from (desk n) (λ D. D) (λ D. n) (desk_faithful n) S ok (has S L) L refl s

pub nobody_starves_in_rounds_at_desk : NobodyStarvesInRoundsAtDesk
unfolding NobodyStarvesInRoundsAtDesk
nobody_starves_in_rounds_at_desk n S ok L s =
    nobody_starves_in_rounds_from (desk n) (λ D. D) (λ D. n) (desk_faithful n) S ok (has S L) L refl s
