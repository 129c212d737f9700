-- What the statements over many calls exclude: of each wrong desk here the statement is false. Assumes nothing.
use mathlib.Core.Path.{◌≡◌, refl, sym, ap, ◌∙◌, subst}
use mathlib.Core.Logic.{◌≢◌}
use mathlib.Core.Bool.{Bool, true, false, cond}
use mathlib.Core.List.{List, [], ◌∷◌, ◌++◌, map, reverse}
use Prim.Native.Nat.{ℕ, zero, suc, ◌+◌, ◌*◌, ◌≤◌, ◌<◌}
use native.Mathlib.Omega.{arith}
use lib.ListN.{length, get_or, take, drop, replicate, length-replicate, get_or-replicate}
use lib.Seq.{get_or-take, get_or-drop}
use lib.Dec.{eqb}
use Rattle.numbers.specs.Bytes.{number}
use Rattle.numbers.specs.Fields.{bits}
use Rattle.crc.specs.Crc.{crc_bit, crc_bits, crc_byte, crc_from, crc8}
use Rattle.ledger.specs.Settings.{Settings, ten_bytes, settings, slot_bytes, packet_room, row}
use Rattle.ledger.specs.Header.{width_of, form_of, front_bits, front_bytes, spare, body_size, header_size, least_length, fields_of, price, Load, alone, whole}
use Rattle.ledger.specs.Ledger.{owner, is_node, Packet, bare, recorded, free, prefetched, place#, place_of, cell, credit_at, set_credit, Ledger, arrival}
use Rattle.ledger.specs.Ledger.{halted, buckets, mark_of, bucket_at, pop, push, move, change, put_in, start}
use Rattle.ledger.specs.Halt.{halts, marks, held_up}
use Rattle.ledger.specs.Calls.{Act, arrive, stitch, prefetch, credit, map_to, turn, ready, where_is, Side, outside, Reply, refused, done, entry}
use Rattle.ledger.specs.Buckets.{untimed, at, wait_of, bucket_of, bucket#}
use Rattle.ledger.specs.Calls.{clear, report, bucket, show, stitched, idle, leaves, part, is_refused, side_of, arriving, arrived, stitch_record, step}
use Rattle.ledger.specs.Calls.{marked_for, on_refusal}
use Rattle.ledger.specs.Desk.{Desk, none, has, Call, setup, act, desk, after_calls, SetupsRefused}
use Rattle.ledger.specs.Ready.{bit}
use Rattle.ledger.specs.Demand.{turns_in, Stands, InHand, NobodyStarvesFrom}
use Rattle.ledger.specs.Order.{ids_at, KeepsOrder, GoesAlong}
use Rattle.ledger.specs.Night.{Arrival, turned_away, taken, PoolKept, OwnMarkAlone, HaltLasts}
use Rattle.ledger.specs.Tally.{TimedAsTurn, BucketsCount, WaitsUnread}
use Rattle.ledger.specs.Rounds.{round_acts, Deed, round, Carried, whole_round}
use Rattle.ledger.specs.Door.{InIngress, CreditFor, rounds_for, calls_of, rounds_in, rounds_before, done_from, StitchedAt, StitchedSoonFrom, LeavesSoonFrom}
use Rattle.ledger.specs.Packets.{slot_at, bytes_at, Memories, Sized, NotFree, SlotsStay, ShownAsArrivedFrom}
use Rattle.ledger.specs.Cards.{twelve}
use Rattle.ledger.proofs.Tests.{true≢false, is_false, eqb_is, ltb_not}
use Rattle.ledger.proofs.Places.{node_of}
use Rattle.ledger.proofs.Halt.{marks_is, marks_first, marks_not, held_is}
use Rattle.ledger.proofs.Promises.{Wanting, no_node, taken_in}
use Rattle.ledger.proofs.Packets.{slot_within}
use Rattle.ledger.proofs.Slots.{stored_starts}

-- ---- demand 3: a desk that answers every call alike and changes nothing, be the answer idle or a refusal

module _ (S : Settings) (L : Ledger) (p q : ℕ) (hp : p < S.ports) (hq : q < S.queues) (ahead : List Packet) (k : Packet)
    (there : Stands S p q k ahead L) (hand : InHand S L p q (ahead ++ (k ∷ []))) where
  only_turns : ℕ → List Call
  only_turns n = replicate n (act (turn untimed p))

  only_refused : (call : Desk → Call → Reply × Desk) (n : ℕ) (D : Desk) → SetupsRefused call D (only_turns n)
  unfolding only_turns
  only_refused call zero D = tt
  only_refused call (suc n) D = ((λ i. absurd (true≢false (sym i))), only_refused call n (call D (act (turn untimed p))).1)

  all_count : (n : ℕ) → turns_in p (only_turns n) ≡ n
  unfolding only_turns
  all_count zero = refl
  all_count (suc n) = rw (eqb_is p p refl) (omega (arith, all_count n))

  starves_alike : (r : Reply) → ((s : Side) → r ≡ leaves k s → ⊥) → NobodyStarvesFrom (λ D c. (r, D)) (λ D. D) S L S.ports S.queues (has S L) → ⊥
  starves_alike r other f =
      let n : ℕ = S.queues * (length ahead + 1) in
      let o = f p q hp hq ahead k there hand (only_turns n) (only_refused (λ D c. (r, D)) n (has S L)) (omega (arith, all_count n)) in
      other (side_of q) o.it_leaves

  pub starves_idle : NobodyStarvesFrom (λ D c. (idle, D)) (λ D. D) S L S.ports S.queues (has S L) → ⊥
  starves_idle = starves_alike idle (λ s e. let z : ◌≡◌ {A = ℕ} 0 1 = cc in omega arith)

  pub starves_refused : (n : ℕ) → NobodyStarvesFrom (λ D c. (refused n, D)) (λ D. D) S L S.ports S.queues (has S L) → ⊥
  starves_refused n = starves_alike (refused n) (λ s e. let z : ◌≡◌ {A = ℕ} 0 1 = cc in omega arith)

-- ---- from door to door

-- calls that are acts have no setup among them
no_setups : {X : Type 0} (call : X → Call → Reply × X) (acts : List Act) (cs : List Call) (x : X)
    → SetupsRefused call (after_calls call x (map act acts)) cs → SetupsRefused call x (map act acts ++ cs)
no_setups call [] cs x f = f
no_setups call (a ∷ acts) cs x f = ((λ i. absurd (true≢false (sym i))), no_setups call acts cs (call x (act a)).1 f)

-- a desk that answers every call alike and changes nothing: no round stitches
module _ (S : Settings) (L : Ledger) (r : ℕ) (hr : r < S.ports) (ahead : List Packet) (k : Packet) (here : InIngress S r k ahead L) (rep : Reply) where
  abbrev alike : Desk → Call → Reply × Desk
  alike D c = (rep, D)

  abbrev rounds : ℕ → List Deed
  rounds n = replicate n (round (4 * S.ports))

  abbrev did : ℕ → List Carried
  did n = done_from alike (λ D. D) (has S L) (rounds n)

  nothing_changed : (cs : List Call) (D : Desk) → after_calls alike D cs ≡ D
  nothing_changed [] D = refl
  nothing_changed (c ∷ cs) D = nothing_changed cs D

  is_one_more : (n : ℕ) → did (suc n) ≡ whole_round S ∷ did n
  is_one_more n =
      let fits = ltb_not (4 * S.ports) (4 * S.ports) (omega arith) in
      rw (fits, nothing_changed (map act (round_acts S)) (has S L))

  all_rounds : (n : ℕ) → rounds_in (did n) ≡ n
  all_rounds zero = refl
  all_rounds (suc n) = ap rounds_in (is_one_more n) ∙ ap (λ (i : ℕ). 1 + i) (all_rounds n) ∙ omega arith

  all_acts : (n : ℕ) → SetupsRefused alike (has S L) (calls_of (did n))
  all_acts zero = tt
  all_acts (suc n) =
      subst (λ (ds : List Carried). SetupsRefused alike (has S L) (calls_of ds)) (sym (is_one_more n))
      (no_setups alike (round_acts S) (calls_of (did n)) (has S L)
      (rw (nothing_changed (map act (round_acts S)) (has S L)) (all_acts n)))

  pub never_stitched : ((b : List ℕ) → rep ≡ stitched b → ⊥) → StitchedSoonFrom alike (λ D. D) S L (has S L) → ⊥
  never_stitched other f =
      let o = f r hr ahead k here (rounds (length ahead + 1)) (all_acts (length ahead + 1)) (omega (arith, all_rounds (length ahead + 1))) in
      other _ o.it_is.answer

-- a desk at which all goes right but the turns, which are idle: who is stitched does not leave
abbrev pub idle_turns : ℕ → Desk → Call → Reply × Desk
idle_turns n D (setup T) = desk n D (setup T)
idle_turns n D (act (arrive p h)) = desk n D (act (arrive p h))
idle_turns n D (act (stitch p)) = desk n D (act (stitch p))
idle_turns n D (act (prefetch p q)) = desk n D (act (prefetch p q))
idle_turns n D (act (credit p q k)) = desk n D (act (credit p q k))
idle_turns n D (act (map_to d p)) = desk n D (act (map_to d p))
idle_turns n D (act (turn c p)) = (idle, D)
idle_turns n D (act (ready p)) = desk n D (act (ready p))
idle_turns n D (act (where_is y)) = desk n D (act (where_is y))
idle_turns n D (act (clear p)) = desk n D (act (clear p))
idle_turns n D (act (report p)) = desk n D (act (report p))
idle_turns n D (act (bucket p b)) = desk n D (act (bucket p b))
idle_turns n D (act (show ns p q)) = desk n D (act (show ns p q))

pub never_leaves : (n : ℕ) (S : Settings) (D : Desk) (r : ℕ) → r < S.ports → (k : Packet)
    → (deeds : List Deed) → SetupsRefused (idle_turns n) D (calls_of (done_from (idle_turns n) (λ E. E) D deeds))
    → (t : ℕ) (M : Ledger) → StitchedAt (idle_turns n) (λ E. E) S r k M D (calls_of (done_from (idle_turns n) (λ E. E) D deeds)) t
    → CreditFor S M k
    → rounds_before (done_from (idle_turns n) (λ E. E) D deeds) t + rounds_for S M k ≤ rounds_in (done_from (idle_turns n) (λ E. E) D deeds)
    → LeavesSoonFrom (idle_turns n) (λ E. E) S D → ⊥
never_leaves n S D r hr k deeds f t M stitch-at hand h g =
    let o = g r hr k deeds f t M stitch-at hand h in
    let e = o.it_does.it_leaves in
    let z : ◌≡◌ {A = ℕ} 0 1 = cc in
    omega arith

-- ---- queues keep their order: a desk that answers right and turns every list round at each call

abbrev pub two : Settings
two = settings 2 64 1 0

abbrev pub relisted : (List (List Packet) → List (List Packet)) → Desk → Desk
relisted f none = none
relisted f (has S L) = has S (record { lists = f L.lists; numbers = L.numbers })

abbrev pub turns_round : ℕ → Desk → Call → Reply × Desk
turns_round n D c = ((desk n D c).0, relisted (map reverse) (desk n D c).1)

-- the oldest free id of port 0
oldest_free : Desk → ℕ
oldest_free none = 0
oldest_free (has S L) = get_or (ids_at S L (free 0)) 0 0

pub order_turned_round : (n : ℕ) → KeepsOrder (turns_round n) (λ D. D) two (start two) (free 0) (has two (start two)) (act (ready 0) ∷ []) → ⊥
unfolding oldest_free start row place#
order_turned_round n k =
    let e : ◌≡◌ {A = ℕ} 1 0 = ap oldest_free k.shown ∙ ap (λ (xs : List ℕ). get_or xs 0 0) k.is_in_order.stays_behind in
    omega arith

-- ---- what is recorded goes along: a desk that sends a packet which never came

pub sent_from_nowhere : (k : Packet) → GoesAlong (λ D c. (leaves k outside, D)) (λ D. D) two (start two) (has two (start two)) [] → ⊥
unfolding start row place_of
sent_from_nowhere k g = g.sends untimed 0 k outside refl

-- ---- pools: a desk that answers right, and whose refusals cost port 0 a node

abbrev pub leaks : ℕ → Desk → Call → Reply × Desk
leaks n D c = ((desk n D c).0, relisted (cond (is_refused (desk n D c).0) (pop 0) (λ ls. ls)) (desk n D c).1)

pub pool_leaked : (n : ℕ) → PoolKept (leaks n) (λ D. D) two (start two) 0 (has two (start two)) (act (arrive 0 (alone [])) ∷ []) → ⊥
unfolding oldest_free start row place# pop on_refusal marked_for halts marks width_of form_of front_bits front_bytes body_size header_size
    lib.Count.count_leading_zeros
pool_leaked n k =
    let e : ◌≡◌ {A = ℕ} 1 0 = ap oldest_free k.shown ∙ ap (λ (xs : List ℕ). get_or xs 0 0) k.is_in_order.stays_behind in
    omega arith

-- and had port 0's refused arrival never been sent, it would have that node: more than its mark differs
pub more_than_a_mark : (n : ℕ) → OwnMarkAlone (leaks n) (λ D. D) two 0 (has two (start two)) (act (arrive 0 (alone [])) ∷ []) → ⊥
unfolding oldest_free start row place# pop on_refusal marked_for halts marks width_of form_of front_bits front_bytes body_size header_size
    lib.Count.count_leading_zeros
more_than_a_mark n k =
    let e : ◌≡◌ {A = ℕ} 1 0 =
    ap oldest_free k.shown
    ∙ ap (λ (ls : List (List Packet)). get_or (map (λ (j : Packet). j.node) (get_or ls 0 [])) 0 0) k.only.same_lists
    ∙ ap oldest_free (sym k.shown_without) in
    omega arith

-- nor is it enough that the ledger is right: a desk that answers the call after a refusal idle
abbrev pub sulks : ℕ → Desk × Bool → Call → Reply × (Desk × Bool)
sulks n x c = (cond x.1 idle (desk n x.0 c).0, ((desk n x.0 c).1, is_refused (desk n x.0 c).0))

pub another_answered_idle : (n : ℕ)
    → OwnMarkAlone (sulks n) (λ x. x.0) two 0 (has two (start two), false) (act (arrive 0 (alone [])) ∷ act (ready 1) ∷ []) → ⊥
unfolding width_of form_of front_bits front_bytes body_size header_size lib.Count.count_leading_zeros
another_answered_idle n k =
    let e = k.answers.0 (λ i. let z : ◌≡◌ {A = ℕ} 0 1 = cc in omega arith) in
    let z : ◌≡◌ {A = ℕ} 0 1 = cc in
    omega arith

-- ---- an arrival that is refused and changes more than its port's mark, overwrites a mark, marks for nothing or doesn't mark; one that takes
-- another port's node

module _ (S : Settings) (L : Ledger) (p : ℕ) (h : Load) where
  module _ (n : ℕ) (N : Ledger) where
    pub refused_and_moved : (N.lists ≡ L.lists → ⊥) → Arrival S L p h (refused n) N → ⊥
    refused_and_moved other (turned_away m M t) = other t.only.same_lists

    pub refused_and_paid : (N.numbers arrival ≡ L.numbers arrival → ⊥) → Arrival S L p h (refused n) N → ⊥
    refused_and_paid other (turned_away m M t) = other (t.only.same_numbers arrival (λ e. let z : ◌≡◌ {A = ℕ} 0 1 = cc in omega arith))

    -- the mark at the header's source, and not at the arriving port
    pub marked_another : (r : ℕ) → (r ≡ p → ⊥) → (mark_of N r ≡ mark_of L r → ⊥) → Arrival S L p h (refused n) N → ⊥
    marked_another r apart other (turned_away m M t) = other (t.only.other_marks r apart)

    -- the second number in the place of the first
    pub marked_again : mark_of L p ≢ 0 → (mark_of N p ≡ mark_of L p → ⊥) → Arrival S L p h (refused n) N → ⊥
    marked_again some other (turned_away m M t) =
        other (t.mark ∙ ap (λ (b : Bool). cond b m (mark_of L p)) (is_false _ (λ e. some (marks_first S p (mark_of L p) m e))))

    -- a mark for a refusal that doesn't halt
    pub marked_for_nothing : halts n ≡ false → (mark_of N p ≡ mark_of L p → ⊥) → Arrival S L p h (refused n) N → ⊥
    marked_for_nothing no' other (turned_away m M t) = other (t.mark ∙ ap (λ (b : Bool). cond b m (mark_of L p)) (marks_not S p (mark_of L p) m no'))

    -- none where one is due
    pub unmarked : p < S.ports → mark_of L p ≡ 0 → halts n ≡ true → (mark_of N p ≡ n → ⊥) → Arrival S L p h (refused n) N → ⊥
    unmarked hp first yes' other (turned_away m M t) =
        other (t.mark ∙ ap (λ (b : Bool). cond b m (mark_of L p)) (marks_is S p (mark_of L p) m hp first yes'))

  pub strangers_node : (x : ℕ) (N : Ledger) → (owner x ≡ p → ⊥) → Arrival S L p h (entry x) N → ⊥
  strangers_node x N other (taken y M t) = other t.own

-- ---- a halt lasts: a desk that answers right and lifts port 0's mark at each call

abbrev pub lifted : Desk → Desk
lifted none = none
lifted (has S L) = has S (put_in halted 0 0 L)

abbrev pub forgets : ℕ → Desk → Call → Reply × Desk
forgets n D c = ((desk n D c).0, lifted (desk n D c).1)

first_mark : Desk → ℕ
first_mark none = 0
first_mark (has S L) = mark_of L 0

pub halt_forgotten : (n : ℕ) → HaltLasts (forgets n) (λ D. D) two 0 7 (has two (put_in halted 0 7 (start two))) (act (ready 0) ∷ []) → ⊥
unfolding first_mark change start
halt_forgotten n k =
    let e : ◌≡◌ {A = ℕ} 0 7 = ap first_mark k.shown ∙ k.stays in
    omega arith

-- ---- a sound arrival: a desk that takes it in at a halted port for a queue above 0, or says there that no node is free

module _ (S : Settings) (L : Ledger) (p : ℕ) (h : Load) (above : 0 < (arriving S L p h).queue) (held : 0 < mark_of L p) where
  pub halted_yet_taken : (x : ℕ) (N : Ledger) → Wanting S L p h (entry x, N) → ⊥
  halted_yet_taken x N (taken_in f d e) = true≢false (sym (held_is (arriving S L p h).queue (mark_of L p) above held) ∙ f)

  pub halted_yet_no_node : (N : Ledger) → Wanting S L p h (refused 11, N) → ⊥
  halted_yet_no_node N (no_node f d e) = true≢false (sym (held_is (arriving S L p h).queue (mark_of L p) above held) ∙ f)

-- ---- what the buckets count: a desk that answers right and puts five into port 0's first bucket at each call; and one at which every call
-- sends a packet and nothing changes

abbrev pub recounted : ℕ → Desk → Desk
recounted v none = none
recounted v (has S L) = has S (put_in buckets (bucket# 0 0) v L)

abbrev pub makes_up : ℕ → Desk → Call → Reply × Desk
makes_up n D c = ((desk n D c).0, recounted 5 (desk n D c).1)

abbrev pub first_bucket : Desk → ℕ
first_bucket none = 0
first_bucket (has S L) = bucket_at L 0 0

pub count_made_up : (n : ℕ) → BucketsCount (makes_up n) (λ D. D) two (start two) 0 (has two (start two)) (act (ready 0) ∷ []) → ⊥
unfolding change start bucket#
count_made_up n k =
    let e : ◌≡◌ {A = ℕ} 5 0 = ap first_bucket k.shown ∙ k.each 0 (omega arith) in
    omega arith

pub sent_uncounted : BucketsCount (λ D c. (leaves (bare 0) outside, D)) (λ D. D) two (start two) 0 (has two (start two)) (act (turn (at 0) 0) ∷ []) → ⊥
unfolding start bucket# wait_of bucket_of lib.Count.count_leading_zeros
sent_uncounted o =
    let e : ◌≡◌ {A = ℕ} 0 1 = ap first_bucket o.shown ∙ o.each 0 (omega arith) in
    omega arith

-- ---- sending is as before: a desk whose timed turns are idle

abbrev pub idle_timed : ℕ → Desk → Call → Reply × Desk
idle_timed n D (setup T) = desk n D (setup T)
idle_timed n D (act (arrive p h)) = desk n D (act (arrive p h))
idle_timed n D (act (stitch p)) = desk n D (act (stitch p))
idle_timed n D (act (prefetch p q)) = desk n D (act (prefetch p q))
idle_timed n D (act (credit p q k)) = desk n D (act (credit p q k))
idle_timed n D (act (map_to d p)) = desk n D (act (map_to d p))
idle_timed n D (act (turn untimed p)) = desk n D (act (turn untimed p))
idle_timed n D (act (turn (at time) p)) = (idle, D)
idle_timed n D (act (ready p)) = desk n D (act (ready p))
idle_timed n D (act (where_is y)) = desk n D (act (where_is y))
idle_timed n D (act (clear p)) = desk n D (act (clear p))
idle_timed n D (act (report p)) = desk n D (act (report p))
idle_timed n D (act (bucket p b)) = desk n D (act (bucket p b))
idle_timed n D (act (show ns p q)) = desk n D (act (show ns p q))

pub timed_yet_idle : (n : ℕ) (S : Settings) (L : Ledger) (time p : ℕ) (k : Packet) (t : Side) → (step S L (turn untimed p)).0 ≡ leaves k t
    → TimedAsTurn (idle_timed n) (λ D. D) S time p (has S L) → ⊥
timed_yet_idle n S L time p k t sends o =
    let e : idle ≡ leaves k t = o.answer ∙ sends in
    let z : ◌≡◌ {A = ℕ} 0 1 = cc in
    omega arith

-- ---- no bucket is read: a desk that answers idle as soon as port 0's first bucket counts something

abbrev pub reader : ℕ → Desk → Call → Reply × Desk
reader n D c = (cond (eqb (first_bucket D) 0) (desk n D c).0 idle, (desk n D c).1)

pub bucket_read : (n : ℕ) → WaitsUnread (reader n) (λ D. D) (has two (start two)) (recounted 1 (has two (start two))) (act (clear 0) ∷ []) → ⊥
unfolding change start bucket#
bucket_read n o =
    let e : done ≡ idle = o.answers.0 refl in
    let z : ◌≡◌ {A = ℕ} 0 1 = cc in
    omega arith

-- ---- shown as it arrived: a desk at which all goes right but show, which answers the part of the node behind, of the right length

abbrev pub shows_next : ℕ → Desk → Call → Reply × Desk
shows_next n D (setup T) = desk n D (setup T)
shows_next n D (act (arrive p h)) = desk n D (act (arrive p h))
shows_next n D (act (stitch p)) = desk n D (act (stitch p))
shows_next n D (act (prefetch p q)) = desk n D (act (prefetch p q))
shows_next n D (act (credit p q k)) = desk n D (act (credit p q k))
shows_next n D (act (map_to d p)) = desk n D (act (map_to d p))
shows_next n D (act (turn c p)) = desk n D (act (turn c p))
shows_next n D (act (ready p)) = desk n D (act (ready p))
shows_next n D (act (where_is y)) = desk n D (act (where_is y))
shows_next n D (act (clear p)) = desk n D (act (clear p))
shows_next n D (act (report p)) = desk n D (act (report p))
shows_next n D (act (bucket p b)) = desk n D (act (bucket p b))
shows_next n D (act (show ns p q)) = (part 1 12, D)

-- a switch that keeps packets; memories of zeros; and a packet of 12 bytes for node 0
abbrev pub keeping : Settings
keeping = record { ports = 4; queues = 24; nodes = 2; beat = 64; slots = 1; credit = 0; edition = ten_bytes; packets = 1 }

zeroed : (S : Settings) → Memories
zeroed S p = replicate (packet_room S) 0

all_sized : (S : Settings) → Sized S (zeroed S)
unfolding zeroed
all_sized S p h = length-replicate (packet_room S) 0

prefetched_first : Desk → List ℕ
prefetched_first none = []
prefetched_first (has S L) = ids_at S L (prefetched 0 0)

pub shown_another : (n : ℕ) → ShownAsArrivedFrom (shows_next n) (λ D. D) keeping (has keeping (start keeping)) → ⊥
unfolding prefetched_first number bits crc_bit crc_bits crc_byte crc_from crc8 row packet_room width_of form_of front_bits front_bytes spare body_size
    header_size
    least_length fields_of price recorded place# cell credit_at set_credit pop push move change start arrived stitch_record lib.Count.count_leading_zeros
    held_up
shown_another n f =
    let o =
    f (zeroed keeping) (all_sized keeping) 0 16384 (twelve ++ (0 ∷ 0 ∷ [])) 0 refl (act (stitch 0) ∷ act (prefetch 0 0) ∷ [])
    ((λ i. absurd (true≢false (sym i))), ((λ i. absurd (true≢false (sym i))), tt))
    (refl, (refl, tt)) in
    let e = (o.shows_it 0 0 (omega arith) (omega arith) [] (sym (ap prefetched_first o.shown))).0 in
    let z : ◌≡◌ {A = ℕ} 0 1 = cc in
    omega arith

-- ---- no call writes the slot of a node that isn't free: a desk that answers every call with the entry id of such a node

pub slot_overwritten : (S : Settings) (L : Ledger) (y : ℕ) → is_node S y ≡ true → NotFree S L y → SlotsStay (λ D c. (entry y, D)) S L (has S L) → ⊥
unfolding zeroed
slot_overwritten S L y node nf f =
    let k : List ℕ = zeroed S 0 in
    let room : slot_at y + slot_bytes ≤ packet_room S = slot_within S y (node_of S y (omega (arith, ap bit node))) in
    let long : length k ≡ packet_room S = length-replicate {A = ℕ} (packet_room S) 0 in
    let same = rw (eqb_is (owner y) (owner y) refl) at (f (zeroed S) (all_sized S) (act (arrive (owner y) (whole 0 (1 ∷ [])))) y node nf) in
    let zero_there : get_or (bytes_at (slot_at y) slot_bytes k) 0 0 ≡ 0 =
    get_or-take slot_bytes (drop (slot_at y) k) 0 0 (omega arith)
    ∙ get_or-drop (slot_at y) k 0 0
    ∙ get_or-replicate (packet_room S) (slot_at y + 0) 0 0 (omega arith) in
    let starts = stored_starts (slot_at y) (1 ∷ []) k (omega arith) slot_bytes (omega arith) in
    let e : ◌≡◌ {A = ℕ} 1 0 =
    sym (ap (λ (l : List ℕ). get_or l 0 0) starts)
    ∙ ap (λ (l : List ℕ). get_or (take 1 l) 0 0) same
    ∙ get_or-take 1 (bytes_at (slot_at y) slot_bytes k) 0 0 (omega arith)
    ∙ zero_there in
    omega arith
