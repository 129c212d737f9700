-- Demand 2 as theorems about the desk: what a refusal leaves, idle turns, what turn and ready answer, sound arrivals, home, one place.
-- (Order is in Order.antt, records in Records.antt, pools in Night.antt.) Assumes nothing.
use mathlib.Core.Path.{◌≡◌, refl, sym, ap, ◌∙◌, subst}
use mathlib.Core.Logic.{◌≢◌, ◌⊎◌, inl, inr}
use mathlib.Core.Bool.{Bool, true, false, cond, ◌||◌}
use mathlib.Core.List.{List, [], ◌∷◌, ◌++◌}
use Prim.Native.Nat.{ℕ, zero, suc, ◌≤◌, ◌<◌}
use native.Mathlib.Omega.{arith}
use lib.ListN.{length, get_or}
use lib.Dec.{eqb, ltb}
use Rattle.ledger.specs.Settings.{Settings, in_rows}
use Rattle.ledger.specs.Rules.{refuse, guard, Clear}
use Rattle.ledger.specs.Header.{form, fields_of, Load, bytes_in}
use Rattle.ledger.specs.Ledger.{owner, is_node, Packet, bare, recorded, Place, free, prefetched, place#, Ledger, list_at, arrival_of, last_of}
use Rattle.ledger.specs.Ledger.{halted, mark_of, start, change, PlaceIn}
use Rattle.ledger.specs.Ready.{is_ready, word_of, count_of, ready_word, pick}
use Rattle.ledger.specs.Calls.{Act, arrive, stitch, prefetch, credit, map_to, turn, ready, where_is, Side, inside, outside, Reply, refused, done}
use Rattle.ledger.specs.Calls.{entry, idle, leaves, word, is_refused, side_of, is_empty, first_of, arriving, sound_rules, last_rules, arrived, served}
use Rattle.ledger.specs.Buckets.{Clock}
use Rattle.ledger.specs.Calls.{clear, report, bucket, show, is_arrival, serve, rules, result, step, on_refusal}
use Rattle.ledger.specs.Halt.{halts, held_up, TurnedAway}
use Rattle.ledger.specs.Desk.{Desk, none, has, Call, setup, act, is_arrival_call, setup_rules, desk, after}
use Rattle.ledger.specs.Sound.{All, OwnPort, Proper, Orderly, Roomy, Sound}
use Rattle.ledger.proofs.Tests.{true≢false, leb_no, leb_not, ltb_yes, ltb_no, eqb_yes, eqb_no, not_yes}
use Rattle.ledger.proofs.Header.{least_some, price_pays}
use Rattle.ledger.proofs.Places.{place_number}
use Rattle.ledger.proofs.Keep.{some_queue, len, first_fits, first_node, to_moved}
use Rattle.ledger.proofs.Rows.{roomy}
use Rattle.ledger.proofs.Ready.{count_is_ones}
use Rattle.ledger.proofs.Find.{where_right, one_place}
use Rattle.ledger.proofs.Start.{start_sound}
use Rattle.ledger.proofs.Passes.{guard_after, admits}
use Rattle.ledger.proofs.Halt.{unmarked, turned_away, held_up_lem}
use Rattle.ledger.proofs.Steps.{guarded, recorded_proper, picked_some, keep_step, keep_marked, stepped, refused_else}

-- ---- what a refusal leaves: the desk as it was, but for the mark of the port at which an arrival was refused

pub result_given : (S : Settings) (L : Ledger) (a : Act) → is_refused (result S L a).0 ≡ false
result_given S L (arrive p h) = refl
result_given S L (stitch p) = refl
result_given S L (prefetch p q) = refl
result_given S L (credit p q n) = refl
result_given S L (map_to d p) = refl
result_given S L (turn c p) = go (eqb (ready_word S L p) 0)
  where
    go : (b : Bool) → is_refused (cond b (idle, L) (serve S L c p (pick (last_of L p) (ready_word S L p)))).0 ≡ false
    go true = refl
    go false = refl
result_given S L (ready p) = refl
result_given S L (where_is y) = refl
result_given S L (clear p) = refl
result_given S L (report p) = refl
result_given S L (bucket p b) = refl
result_given S L (show ns p q) = refl

pub refusal_leaves : (S : Settings) (L : Ledger) (a : Act) (n : ℕ) → (step S L a).0 ≡ refused n → (step S L a).1 ≡ on_refusal S n a L
refusal_leaves S L a n =
    stepped S L a (λ out. out.0 ≡ refused n → out.1 ≡ on_refusal S n a L)
    (λ m e. ap (λ (i : ℕ). on_refusal S i a L) (let i : m ≡ n = cc in i))
    (λ c e. absurd (true≢false (sym (ap is_refused e) ∙ result_given S L a)))

-- an arrival's: at most the arriving port's mark, and only for 7, 8 or 18
pub refusal_marks : (S : Settings) (L : Ledger) → Orderly S L → (p : ℕ) (h : Load) (n : ℕ) → (step S L (arrive p h)).0 ≡ refused n
    → TurnedAway S p n L (step S L (arrive p h)).1
refusal_marks S L s p h n e =
    rw (refusal_leaves S L (arrive p h) n e) (unfold on_refusal in (turned_away S p n L (s.shaped.numbers_long halted)))

-- of any other call nothing differs
pub refusal_keeps : (S : Settings) (L : Ledger) (a : Act) → is_arrival a ≡ false → is_refused (step S L a).0 ≡ true → (step S L a).1 ≡ L
refusal_keeps S L a other =
    stepped S L a (λ out. is_refused out.0 ≡ true → out.1 ≡ L) (λ n e. refused_else S n a L other)
    (λ c e. absurd (true≢false (sym e ∙ result_given S L a)))

pub refusal_keeps_desk : (n : ℕ) (D : Desk) (c : Call) → is_arrival_call c ≡ false → is_refused (desk n D c).0 ≡ true → (desk n D c).1 ≡ D
refusal_keeps_desk n D (setup T) other =
    guarded {X = Reply × Desk} (λ out. is_refused out.0 ≡ true → out.1 ≡ D) (setup_rules n T) (λ r. (refused r, D))
    (done, has T (start T))
    (λ r e. refl)
    (λ c e. absurd (true≢false (sym e)))
refusal_keeps_desk n none (act a) other = λ e. refl
refusal_keeps_desk n (has S L) (act a) other = λ e. ap (has S) (refusal_keeps S L a other e)

-- ---- with nothing ready a turn is idle and nothing changes; else it isn't idle

pub idle_keeps : (S : Settings) (L : Ledger) (c : Clock) (p : ℕ) → p < S.ports
    → ((ready_word S L p ≡ 0) × (step S L (turn c p) ≡ (idle, L)))
    ⊎ ((ready_word S L p ≢ 0) × (step S L (turn c p) ≡ serve S L c p (pick (last_of L p) (ready_word S L p))))
idle_keeps S L c p hp = rw (leb_not S.ports p hp) (go (eqb (ready_word S L p) 0) refl)
  where
    go : (b : Bool) → eqb (ready_word S L p) 0 ≡ b
        → ((ready_word S L p ≡ 0) × (cond b (idle, L) (serve S L c p (pick (last_of L p) (ready_word S L p))) ≡ (idle, L)))
        ⊎ ((ready_word S L p ≢ 0)
        × (cond b (idle, L) (serve S L c p (pick (last_of L p) (ready_word S L p))) ≡ serve S L c p (pick (last_of L p) (ready_word S L p))))
    go true e = inl (eqb_yes (ready_word S L p) 0 e, refl)
    go false e = inr (eqb_no (ready_word S L p) 0 e, refl)

-- ---- what a turn sends: the oldest of some slots of its port, by their queue

pub record Sends (S : Settings) (L : Ledger) (p : ℕ) (k : Packet) (t : Side) : Type 0 where
  pub queue : ℕ
  pub slots : PlaceIn S (prefetched p queue)
  pub some : is_empty (list_at S L (prefetched p queue)) ≡ false
  pub oldest : first_of S L (prefetched p queue) ≡ k
  pub side : side_of queue ≡ t

pub turn_sends : (S : Settings) → Roomy S → (L : Ledger) → Orderly S L → (c : Clock) (p : ℕ) (k : Packet) (t : Side)
    → (step S L (turn c p)).0 ≡ leaves k t → Sends S L p k t
turn_sends S ok L s c p k t =
    stepped S L (turn c p) (λ out. out.0 ≡ leaves k t → Sends S L p k t)
    (λ n i. absurd (let z : ◌≡◌ {A = ℕ} 0 1 = cc in omega arith))
    (λ c. let hp = leb_no S.ports p c.0 in go hp (eqb (ready_word S L p) 0) (picked_some S ok L s p hp))
  where
    q : ℕ
    q = pick (last_of L p) (ready_word S L p)

    go : p < S.ports → (b : Bool) → (b ≡ false → (q < S.queues) × (is_empty (list_at S L (prefetched p q)) ≡ false))
        → (cond b (idle, L) (serve S L c p q)).0 ≡ leaves k t → Sends S L p k t
    go hp true f i = absurd (let z : ◌≡◌ {A = ℕ} 0 1 = cc in omega arith)
    go hp false f i = record { queue = q; slots = (hp, (f refl).0); some = (f refl).1; oldest = cc; side = cc }

-- a packet of queue 0 leaves inside, any other outside
pub inside_outside : (S : Settings) → Roomy S → (L : Ledger) → Orderly S L → (c : Clock) (p : ℕ) (k : Packet) (t : Side)
    → (step S L (turn c p)).0 ≡ leaves k t → (k.queue ≡ 0 → t ≡ inside) × (0 < k.queue → t ≡ outside)
inside_outside S ok L s c p k t i =
    let o = turn_sends S ok L s c p k t i in
    let own : k.queue ≡ o.queue = ap (λ (j : Packet). j.queue) (sym o.oldest) ∙ (first_fits S ok L s (prefetched p o.queue) o.slots o.some).1 in
    subst (λ (u : Side). (k.queue ≡ 0 → u ≡ inside) × (0 < k.queue → u ≡ outside)) o.side
    (subst (λ (n : ℕ). (n ≡ 0 → side_of o.queue ≡ inside) × (0 < n → side_of o.queue ≡ outside)) (sym own) (sides o.queue))
  where
    sides : (n : ℕ) → (n ≡ 0 → side_of n ≡ inside) × (0 < n → side_of n ≡ outside)
    sides zero = (λ e. refl, λ h. absurd (omega arith))
    sides (suc n) = (λ e. absurd (omega arith), λ h. refl)

-- ---- ready's answer: bit q of the word says whether queue q is ready, and the count is the number of ready queues

pub ready_counts : (S : Settings) (L : Ledger) (p : ℕ) → p < S.ports
    → step S L (ready p) ≡ (word (word_of (is_ready S L p) S.queues) (count_of (is_ready S L p) S.queues), L)
unfolding ready_word
ready_counts S L p hp = rw (leb_not S.ports p hp, count_is_ones (is_ready S L p) S.queues)

-- ---- a sound arrival is turned away only for want of credit, which a halt is taken for, or of a node

-- no refusal tested before 10 applies: 24, 17, 4, 6 or 16, 7, 20, 8, 9, 16 and 19 (3 is the desk's: there is a ledger); in words, `Comes`
-- (`comes`, `comes_clear`)
abbrev pub SoundArrival : Settings → ℕ → Load → Type 0
SoundArrival S p h = Clear (sound_rules S p h)

-- why it may be turned away all the same, with nothing changed; else, with neither of these, it is taken in, by the oldest free node and as
-- the ledger says
pub data Wanting (S : Settings) (L : Ledger) (p : ℕ) (h : Load) : Reply × Ledger → Type 0 where
  port_halted : 0 < (arriving S L p h).queue → 0 < mark_of L p → Wanting S L p h (refused 10, L)
  no_credit : arrival_of S L p (arriving S L p h).queue < (arriving S L p h).price → Wanting S L p h (refused 10, L)
  no_node : held_up (arriving S L p h).queue (mark_of L p) ≡ false → (arriving S L p h).price ≤ arrival_of S L p (arriving S L p h).queue
      → list_at S L (free p) ≡ [] → Wanting S L p h (refused 11, L)
  taken_in : held_up (arriving S L p h).queue (mark_of L p) ≡ false → (arriving S L p h).price ≤ arrival_of S L p (arriving S L p h).queue
      → is_empty (list_at S L (free p)) ≡ false → Wanting S L p h (entry (first_of S L (free p)).node, arrived S L p (arriving S L p h))

empty_is : (ks : List Packet) → is_empty ks ≡ true → ks ≡ []
empty_is [] e = refl
empty_is (k ∷ ks) e = absurd (true≢false (sym e))

pub sound_arrival : (S : Settings) (L : Ledger) (p : ℕ) (h : Load) → SoundArrival S p h → Wanting S L p h (step S L (arrive p h))
sound_arrival S L p h c =
    let no' : ℕ → Reply × Ledger = λ n. (refused n, on_refusal S n (arrive p h) L) in
    rw (guard_after (sound_rules S p h) (last_rules S L p (arriving S L p h)) no' (result S L (arrive p h)) c)
    (go (held_up k.queue (mark_of L p)) refl (ltb (arrival_of S L p k.queue) k.price) refl (is_empty (list_at S L (free p))) refl)
  where
    k : Packet
    k = arriving S L p h

    -- neither 10 nor 11 marks the port
    stays : (n : ℕ) → halts n ≡ false → Wanting S L p h (refused n, L) → Wanting S L p h (refused n, on_refusal S n (arrive p h) L)
    stays n e = subst (λ (N : Ledger). Wanting S L p h (refused n, N)) (unfold on_refusal in sym (unmarked S p n L e))

    go : (u : Bool) → held_up k.queue (mark_of L p) ≡ u → (a : Bool) → ltb (arrival_of S L p k.queue) k.price ≡ a
        → (b : Bool) → is_empty (list_at S L (free p)) ≡ b
        → Wanting S L p h (guard (refuse 10 (u || a) ∷ refuse 11 b ∷ []) (λ n. (refused n, on_refusal S n (arrive p h) L)) (result S L (arrive p h)))
    go true f a d b e = let t = held_up_lem k.queue (mark_of L p) f in stays 10 (unfold halts in refl) (port_halted t.0 t.1)
    go false f true d b e = stays 10 (unfold halts in refl) (no_credit (ltb_yes (arrival_of S L p k.queue) k.price d))
    go false f false d true e =
        stays 11 (unfold halts in refl) (no_node f (ltb_no (arrival_of S L p k.queue) k.price d) (empty_is (list_at S L (free p)) e))
    go false f false d false e = taken_in f (ltb_no (arrival_of S L p k.queue) k.price d) e

-- ---- none but queue 0 goes for nothing: rule (f) makes every recorded packet proper, and such a one pays

pub none_for_nothing : (S : Settings) → Roomy S → (k : Packet) → Proper S k → 0 < k.queue → 0 < k.price
none_for_nothing S ok k h above =
    rw h.price_is (price_pays S.beat k.queue k.len (omega (arith, ok.low_beat)) above (omega (arith, h.len_low, least_some (form S))))

-- and the queue is the one that the header names: a header that is taken in pays unless it names queue 0
pub no_free_ride : (S : Settings) → Roomy S → (L : Ledger) (p : ℕ) (h : Load) → Clear (rules S L (arrive p h)) → 0 < (fields_of (form S) (bytes_in h)).queue
    → 0 < (arriving S L p h).price
unfolding recorded
no_free_ride S ok L p h c above =
    none_for_nothing S ok (arriving S L p h) (recorded_proper S ok (first_of S L (free p)).node p h (admits S L p h c).header) above

-- ---- nodes go home to their owner

-- only a port's own nodes stand in its free list
pub home_only : (S : Settings) → Roomy S → (L : Ledger) → Orderly S L → (p : ℕ) → p < S.ports → All (λ k. owner k.node ≡ p) (list_at S L (free p))
home_only S ok L s p hp =
    let v_in : PlaceIn S (free p) = (hp, some_queue S ok L s) in
    let a = s.owned.holds (place# S (free p)) (len S ok L s (free p) v_in) in
    subst (λ (u : Place). All (λ k. OwnPort u k) (list_at S L (free p))) (place_number S (free p) v_in) a

-- the packet that leaves was its list's oldest, and its node goes to the back of its owner's free list
pub sent_home : (S : Settings) → Roomy S → (L : Ledger) → Orderly S L → (p q : ℕ) → p < S.ports → q < S.queues
    → is_empty (list_at S L (prefetched p q)) ≡ false
    → (k : Packet) → k ≡ first_of S L (prefetched p q)
    → list_at S (served S L p q k) (free (owner k.node)) ≡ list_at S L (free (owner k.node)) ++ (bare k.node ∷ [])
unfolding served change
sent_home S ok L s p q hp hq e k i =
    rw i
    (to_moved S ok L s (prefetched p q) (hp, hq) e (free (owner (first_of S L (prefetched p q)).node))
    ((first_node S ok L s (prefetched p q) (hp, hq) e).home, some_queue S ok L s) (bare (first_of S L (prefetched p q)).node) refl
    (λ j. let z : ◌≡◌ {A = ℕ} 0 1 = cc in omega arith))

-- ---- soundness over any calls, setup among them

abbrev pub Fine : Desk → Type 0
Fine none = Unit {0}
Fine (has S L) = Sound S L

pub fine_call : (n : ℕ) (D : Desk) → Fine D → (c : Call) → Fine (desk n D c).1
fine_call n D f (setup T) =
    guarded {X = Reply × Desk} (λ out. Fine out.1) (setup_rules n T) (λ r. (refused r, D))
    (done, has T (start T))
    (λ r. f)
    (λ c. start_sound T (not_yes (in_rows T) c.0))
fine_call n none f (act a) = tt
fine_call n (has S L) f (act a) = record {
  rows = f.rows;
  orderly = keep_step S (roomy S f.rows) L f.orderly a;
  marked = keep_marked S (roomy S f.rows) L f.orderly a f.marked;
}

pub fine_calls : (n : ℕ) (D : Desk) → Fine D → (cs : List Call) → Fine (after n D cs)
fine_calls n D f [] = f
fine_calls n D f (c ∷ cs) = fine_calls n (desk n D c).1 (fine_call n D f c) cs

-- ---- each node stands in one place, after any calls

-- node y stands at position i of place v, and nowhere else
pub record OnePlace (S : Settings) (L : Ledger) (y : ℕ) : Type 0 where
  pub place : Place
  pub position : ℕ
  pub on_switch : PlaceIn S place
  pub within : position < length (list_at S L place)
  pub there : (get_or (list_at S L place) position (bare 0)).node ≡ y
  pub only : (w : Place) (j : ℕ) → PlaceIn S w → j < length (list_at S L w) → (get_or (list_at S L w) j (bare 0)).node ≡ y → (place ≡ w) × (position ≡ j)

pub each_in_one_place : (S : Settings) (L : Ledger) → Sound S L → (y : ℕ) → is_node S y ≡ true → OnePlace S L y
each_in_one_place S L f y e =
    let w = where_right S (roomy S f.rows) L f.orderly y e in
    record {
      place = w.0;
      position = w.1;
      on_switch = w.3;
      within = w.4;
      there = w.5;
      only = λ v j hv hj d. one_place S (roomy S f.rows) L f.orderly w.0 v w.1 j w.3 hv w.4 hj (w.5 ∙ sym d);
    }

-- whatever was called before, from any memory
pub ever_in_one_place : (n : ℕ) (D : Desk) → Fine D → (cs : List Call) (S : Settings) (L : Ledger) → after n D cs ≡ has S L
    → (y : ℕ) → is_node S y ≡ true → OnePlace S L y
ever_in_one_place n D f cs S L e y i = each_in_one_place S L (subst Fine e (fine_calls n D f cs)) y i
