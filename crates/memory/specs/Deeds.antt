-- Paper 02, Q-11: demand 3, the order of queues, the pools, the marks, the buckets, what is recorded and the packets that are kept, said of all
-- that is done on a memory: calls, rounds, runs, audits and findings, setting up anew and repairs excepted. And "After repair demand 3 counts
-- afresh, as after setup". Assumes nothing.
use Rattle.std.specs.Prelude.{◌≡◌, ◌≢◌, Bool, true, false, List, [], ◌∷◌, ◌++◌, map, ℕ, ◌+◌, ◌-◌, ◌*◌, ◌≤◌, ◌<◌, length, get_or, take, drop}
use Rattle.ledger.specs.Settings.{Settings}
use Rattle.ledger.specs.Header.{whole}
use Rattle.ledger.specs.Ledger.{Packet, Place, mapped, mark_of, Ledger, start, PlaceIn}
use Rattle.ledger.specs.Buckets.{Clock}
use Rattle.ledger.specs.Calls.{arrive, turn, ready, clear, done, entry, leaves, is_refused, side_of}
use Rattle.ledger.specs.Desk.{has, Call, setup, act, after_calls, answers_of, SetupsRefused}
use Rattle.ledger.specs.Sound.{All}
use Rattle.ledger.specs.Demand.{Stands, InHand, turns_in, ShowsWaiting, LeavesAmong}
use Rattle.ledger.specs.Order.{KeepsOrder, GoesAlong}
use Rattle.ledger.specs.Night.{PoolKept, OwnMarkAlone, HaltLasts}
use Rattle.ledger.specs.Packets.{Memories, Sized, packet, keeps, Unsent, AsArrived}
use Rattle.ledger.specs.Tally.{waits_in, bucket_sum, BelowStop, BucketsCount}
use Rattle.ledger.specs.Rounds.{answer_bytes, Deed, one, round, runs, look, done_by}
use Rattle.ledger.specs.Door.{at_call, calls_of, done_from}
use Rattle.ledger.specs.Repair.{restart}
use Rattle.layout.specs.Picture.{settings_in, opens, ledger_in}
use Rattle.memory.specs.Memory.{picture, M}
use Rattle.memory.specs.Demands.{on_memory}
use Rattle.memory.specs.Repair.{repaired}
use Rattle.memory.specs.Rounds.{round_on}
use Rattle.memory.specs.Runs.{stretch_of, run_on, run_calls}

-- ---- rounds, runs, audits, findings and repairs among calls

-- what is done on a memory: a call; a round, or an audit, into a room that is lent to it; a run of fields into one; a finding; a repair
pub data LentDeed : Type 0 where
  lent_call : Call → LentDeed
  lent_round : List ℕ → LentDeed
  lent_run : List ℕ → List ℕ → LentDeed
  lent_audit : List ℕ → LentDeed
  lent_find : LentDeed
  lent_repair : LentDeed

-- a repair that is refused is a look; of one that stands this says nothing, and `RepairsRefused` leaves it out
abbrev pub deed_of : LentDeed → Deed
deed_of (lent_call c) = one c
deed_of (lent_round room) = round (length room)
deed_of (lent_run s room) = runs (λ S. (stretch_of S s (length room)).acts)
deed_of (lent_audit room) = look
deed_of lent_find = look
deed_of lent_repair = look

-- what is left of the memory, by the functions that the contracts name; an audit and a finding are lent it for reading alone
abbrev pub left_by : List ℕ → LentDeed → List ℕ
left_by m (lent_call c) = (M c m).1
left_by m (lent_round room) = (round_on m room).1
left_by m (lent_run s room) = (run_on m s room).1
left_by m (lent_audit room) = m
left_by m lent_find = m
left_by m lent_repair = (repaired m).1

abbrev pub after_deeds : List ℕ → List LentDeed → List ℕ
after_deeds m [] = m
after_deeds m (d ∷ ds) = after_deeds (left_by m d) ds

-- the calls that a deed is, one by one; and those of deeds one after another
abbrev pub calls_by : List ℕ → LentDeed → List Call
calls_by m d = (done_by (picture m) (deed_of d)).calls

abbrev pub calls_in : List ℕ → List LentDeed → List Call
calls_in m ds = calls_of (done_from on_memory picture m (map deed_of ds))

abbrev pub is_repair : LentDeed → Bool
is_repair (lent_call c) = false
is_repair (lent_round room) = false
is_repair (lent_run s room) = false
is_repair (lent_audit room) = false
is_repair lent_find = false
is_repair lent_repair = true

-- no repair stands: every repair among the deeds is refused, on the memory that it finds
abbrev pub RepairsRefused : List ℕ → List LentDeed → Type 0
RepairsRefused m [] = Unit {0}
RepairsRefused m (d ∷ ds) = (is_repair d ≡ true → is_refused (repaired m).0 ≡ true) × RepairsRefused (left_by m d) ds

-- deeds leave the memory that their calls leave one by one; so what is promised of calls holds after deeds
unfoldable pub DeedsAreCalls : Type 0
DeedsAreCalls = (m : List ℕ) (ds : List LentDeed) → RepairsRefused m ds → after_deeds m ds ≡ after_calls on_memory m (calls_in m ds)

-- "any calls but setup and repair": every setup among the deeds is refused, and every repair
pub record Undisturbed (m : List ℕ) (ds : List LentDeed) : Type 0 where
  pub setups : SetupsRefused on_memory m (calls_in m ds)
  pub repairs : RepairsRefused m ds

-- on a switch state every repair stands; so there it says that none is among the deeds
unfoldable pub RepairStands : Type 0
RepairStands = (m : List ℕ) (S : Settings) (L : Ledger) → picture m ≡ has S L → (repaired m).0 ≡ done

-- ---- between deeds

-- the memory that deed number i finds
abbrev pub found_by : List ℕ → List LentDeed → ℕ → List ℕ
found_by m ds i = after_deeds m (take i ds)

-- it is the one between two of the calls that the deeds are; so what is said of every moment among calls is said of what deeds find
unfoldable pub FoundAmongCalls : Type 0
FoundAmongCalls =
    (m : List ℕ) (ds : List LentDeed) → RepairsRefused m ds
    → (i : ℕ) → found_by m ds i ≡ at_call on_memory picture m (calls_in m ds) (length (calls_in m (take i ds)))

-- ---- demand 3

-- what tells the caller that packet k left port p by queue q: the answer of a turn, timed or not, or four bytes of a
-- round's room; or those of a run's room that are for call number j of it, a turn of p
abbrev pub Told : ℕ → ℕ → Packet → List ℕ → LentDeed → Type 0
Told p q k m (lent_call c) = (t : Clock) × (c ≡ act (turn t p)) × ((M c m).0 ≡ leaves k (side_of q))
Told p q k m (lent_round room) = take 4 (drop (4 * p) (round_on m room).2) ≡ answer_bytes (leaves k (side_of q))
Told p q k m (lent_run s room) =
    (j : ℕ) × (t : Clock) × (get_or (run_calls m s room) j (act (ready 0)) ≡ act (turn t p))
    × (take 4 (drop (4 * j) (run_on m s room).2) ≡ answer_bytes (leaves k (side_of q)))
Told p q k m (lent_audit room) = ⊥
Told p q k m lent_find = ⊥
Told p q k m lent_repair = ⊥

-- among the deeds there is one in which packet k leaves port p by queue q, at a call before which the port had fewer than n turns, those of
-- the deeds before it counted; its caller is told; and every deed up to then finds a memory that shows k in its prefetch list
pub record LeavesInDeeds (S : Settings) (p q : ℕ) (k : Packet) (n : ℕ) (m : List ℕ) (ds : List LentDeed) : Type 0 where
  pub deed : ℕ
  pub among : deed < length ds
  pub in_it : LeavesAmong on_memory picture S p q k (n - turns_in p (calls_in m (take deed ds))) (found_by m ds deed)
      (calls_by (found_by m ds deed) (get_or ds deed lent_find))
  pub told : Told p q k (found_by m ds deed) (get_or ds deed lent_find)
  pub until_then : (i : ℕ) → i ≤ deed → ShowsWaiting picture S p q k (found_by m ds i)

-- by turn queues × (length ahead + 1) of its port, those of rounds and of runs counted
abbrev pub NobodyStarvesInDeeds : Settings → Ledger → List ℕ → Type 0
NobodyStarvesInDeeds S L m =
    (p q : ℕ) → p < S.ports → q < S.queues
    → (ahead : List Packet) (k : Packet) → Stands S p q k ahead L
    → InHand S L p q (ahead ++ (k ∷ []))
    → (ds : List LentDeed) → Undisturbed m ds
    → S.queues * (length ahead + 1) ≤ turns_in p (calls_in m ds)
    → LeavesInDeeds S p q k (S.queues * (length ahead + 1)) m ds

-- ---- the order of queues, the pools, the marks, the buckets and what is recorded: the ledger after the calls is the one that the memory after the deeds shows

abbrev pub KeepsOrderInDeeds : Settings → Ledger → Place → List ℕ → List LentDeed → Type 0
KeepsOrderInDeeds S L u m ds = (o : KeepsOrder on_memory picture S L u m (calls_in m ds)) × (picture (after_deeds m ds) ≡ has S o.ledger)

abbrev pub PoolKeptInDeeds : Settings → Ledger → ℕ → List ℕ → List LentDeed → Type 0
PoolKeptInDeeds S L p m ds = (o : PoolKept on_memory picture S L p m (calls_in m ds)) × (picture (after_deeds m ds) ≡ has S o.ledger)

abbrev pub OwnMarkAloneInDeeds : Settings → ℕ → List ℕ → List LentDeed → Type 0
OwnMarkAloneInDeeds S p m ds = (o : OwnMarkAlone on_memory picture S p m (calls_in m ds)) × (picture (after_deeds m ds) ≡ has S o.sent)

abbrev pub HaltLastsInDeeds : Settings → ℕ → ℕ → List ℕ → List LentDeed → Type 0
HaltLastsInDeeds S p v m ds = (o : HaltLasts on_memory picture S p v m (calls_in m ds)) × (picture (after_deeds m ds) ≡ has S o.ledger)

abbrev pub BucketsCountInDeeds : Settings → Ledger → ℕ → List ℕ → List LentDeed → Type 0
BucketsCountInDeeds S L p m ds = (o : BucketsCount on_memory picture S L p m (calls_in m ds)) × (picture (after_deeds m ds) ≡ has S o.ledger)

abbrev pub GoesAlongInDeeds : Settings → Ledger → List ℕ → List LentDeed → Type 0
GoesAlongInDeeds S L m ds = (o : GoesAlong on_memory picture S L m (calls_in m ds)) × (picture (after_deeds m ds) ≡ has S o.ledger)

-- "shown as it arrived": of the packet b that node y took, where m and the packet memories ks are what its arrival left
abbrev pub AsArrivedInDeeds : Settings → ℕ → List ℕ → Memories → List ℕ → List LentDeed → Type 0
AsArrivedInDeeds S y b ks m ds = (o : AsArrived on_memory picture S y b ks m (calls_in m ds)) × (picture (after_deeds m ds) ≡ has S o.ledger)

-- of every whole packet that arrives at memory m, whatever deeds follow, until a turn sends it, be it a call's, a round's or a run's
abbrev pub ShownAsArrivedInDeeds : Settings → List ℕ → Type 0
ShownAsArrivedInDeeds S m =
    (ks : Memories) → Sized S ks
    → (p n : ℕ) (b : List ℕ) (y : ℕ) →
    let c : Call = act (arrive p (whole n b)) in
    (M c m).0 ≡ entry y
    → (ds : List LentDeed) → Undisturbed (M c m).1 ds → Unsent y (answers_of on_memory (M c m).1 (calls_in (M c m).1 ds))
    → AsArrivedInDeeds S y b (keeps (packet p b) (entry y) ks) (M c m).1 ds

-- ---- all of it

-- from memory m on, which shows the ledger L
pub record FromHereOn (S : Settings) (L : Ledger) (m : List ℕ) : Type 0 where
  pub shown : picture m ≡ has S L
  pub nobody_starves : NobodyStarvesInDeeds S L m
  pub order : (u : Place) → PlaceIn S u → (ds : List LentDeed) → Undisturbed m ds → KeepsOrderInDeeds S L u m ds
  pub pools : (p : ℕ) → p < S.ports → (ds : List LentDeed) → Undisturbed m ds → PoolKeptInDeeds S L p m ds
  pub marks : (p : ℕ) (ds : List LentDeed) → Undisturbed m ds → OwnMarkAloneInDeeds S p m ds
  pub halts : (p : ℕ) → 0 < mark_of L p → (ds : List LentDeed) → Undisturbed m ds → All (λ c. c ≢ act (clear p)) (calls_in m ds)
      → HaltLastsInDeeds S p (mark_of L p) m ds
  pub counts : (p : ℕ) → p < S.ports → (ds : List LentDeed) → Undisturbed m ds → BucketsCountInDeeds S L p m ds
  pub records : (ds : List LentDeed) → Undisturbed m ds → GoesAlongInDeeds S L m ds
  pub packets : ShownAsArrivedInDeeds S m

-- and from every later moment on
pub record CountsAfresh (S : Settings) (L : Ledger) (m : List ℕ) : Type 0 where
  pub now : FromHereOn S L m
  pub later : (ds : List LentDeed) → Undisturbed m ds → (N : Ledger) × FromHereOn S N (after_deeds m ds)

-- on any memory that is a switch state
unfoldable pub HoldsInDeeds : Type 0
HoldsInDeeds = (m : List ℕ) (S : Settings) (L : Ledger) → picture m ≡ has S L → CountsAfresh S L m

-- "After repair demand 3 counts afresh, as after setup"
unfoldable pub AfreshAfterRepair : Type 0
AfreshAfterRepair =
    (m : List ℕ) → opens m ≡ true
    → CountsAfresh (settings_in m) (restart (settings_in m) ((ledger_in (settings_in m) m).numbers mapped)) (repaired m).1

unfoldable pub AfreshAfterSetup : Type 0
AfreshAfterSetup = (m : List ℕ) (T : Settings) → (M (setup T) m).0 ≡ done → CountsAfresh T (start T) (M (setup T) m).1

-- ---- paper 02, Q-13: "Below that stop, their sum is the number of packets sent by timed turns since"

-- the waits of the packets that timed turns of port p sent among the deeds; a round's turns are not timed
abbrev pub waits_of : ℕ → List ℕ → List LentDeed → List ℕ
waits_of p m ds = waits_in p (calls_in m ds) (answers_of on_memory m (calls_in m ds))

-- since memory m
abbrev pub SumSince : Settings → List ℕ → Type 0
SumSince S m =
    (p : ℕ) → p < S.ports → (ds : List LentDeed) → Undisturbed m ds
    → (N : Ledger) → picture (after_deeds m ds) ≡ has S N → BelowStop N p → bucket_sum N p ≡ length (waits_of p m ds)

unfoldable pub SumSinceSetup : Type 0
SumSinceSetup = (m : List ℕ) (T : Settings) → (M (setup T) m).0 ≡ done → SumSince T (M (setup T) m).1

unfoldable pub SumSinceRepair : Type 0
SumSinceRepair = (m : List ℕ) → opens m ≡ true → SumSince (settings_in m) (repaired m).1
