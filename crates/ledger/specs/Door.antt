-- Paper 02, Q-12, from door to door, as statements: how soon a packet comes from its ingress list to a line, and out of the switch, when
-- rounds and looks come among the calls. Assumes nothing.
use Rattle.std.specs.Prelude.{◌≡◌, cond, List, [], ◌∷◌, ◌++◌, ℕ, suc, ◌+◌, ◌-◌, ◌*◌, ◌≤◌, ◌<◌, length, get_or, take, ltb}
use Rattle.ledger.specs.Settings.{Settings}
use Rattle.ledger.specs.Ledger.{Packet, ingress, egress, prefetched, Ledger, list_at, map_of, move}
use Rattle.ledger.specs.Ready.{bit}
use Rattle.ledger.specs.Buckets.{Clock}
use Rattle.ledger.specs.Calls.{stitch, turn, ready, Reply, stitched, leaves, side_of, stitch_record}
use Rattle.ledger.specs.Desk.{Desk, has, Call, act, desk, after_calls, SetupsRefused}
use Rattle.ledger.specs.Sound.{Roomy, Orderly}
use Rattle.ledger.specs.Demand.{InHand, Stands, turns_in, LeavesAmong}
use Rattle.ledger.specs.Rounds.{Deed, Carried, done_by}

-- ---- where a packet stands

-- those who wait to leave port p by queue q, the oldest first: the prefetch slots, and behind them the egress list
abbrev pub line_of : Settings → Ledger → ℕ → ℕ → List Packet
line_of S L p q = list_at S L (prefetched p q) ++ list_at S L (egress p q)

-- packet k stands in the line of port p and queue q, behind `ahead`
pub record InLine (S : Settings) (p q : ℕ) (k : Packet) (ahead : List Packet) (L : Ledger) : Type 0 where
  pub behind : List Packet
  pub there : line_of S L p q ≡ ahead ++ (k ∷ behind)

-- packet k stands in the ingress list of port r, behind `ahead`
pub record InIngress (S : Settings) (r : ℕ) (k : Packet) (ahead : List Packet) (L : Ledger) : Type 0 where
  pub behind : List Packet
  pub there : list_at S L (ingress r) ≡ ahead ++ (k ∷ behind)

-- the line that packet k joins when it is stitched: that of its queue at the port that its destination is mapped to
abbrev pub line_for : Settings → Ledger → Packet → List Packet
line_for S L k = line_of S L (map_of L k.dest) k.queue

-- "outward credit covers all k + 1": those of that line, and packet k behind them
abbrev pub CreditFor : Settings → Ledger → Packet → Type 0
CreditFor S L k = InHand S L (map_of L k.dest) k.queue (line_for S L k ++ (k ∷ []))

-- "queue count × (k + 1) rounds"
abbrev pub rounds_for : Settings → Ledger → Packet → ℕ
rounds_for S L k = S.queues * (length (line_for S L k) + 1)

-- ---- moments and rounds

-- the calls of all that is done, one by one
abbrev pub calls_of : List Carried → List Call
calls_of [] = []
calls_of (d ∷ ds) = d.calls ++ calls_of ds

-- how many rounds there are
abbrev pub rounds_in : List Carried → ℕ
rounds_in [] = 0
rounds_in (d ∷ ds) = bit d.a_round + rounds_in ds

-- how many of them are over before call number t; a round in which call t stands isn't
abbrev pub rounds_before : List Carried → ℕ → ℕ
rounds_before [] t = 0
rounds_before (d ∷ ds) t = cond (ltb t (length d.calls)) 0 (bit d.a_round + rounds_before ds (t - length d.calls))

-- ---- on whatever takes calls and shows a desk: the desk itself, or a memory

module _ {X : Type 0} (call : X → Call → Reply × X) (shows : X → Desk) where
  -- what deeds do, one after another
  abbrev pub done_from : X → List Deed → List Carried
  done_from x [] = []
  done_from x (d ∷ ds) = done_by (shows x) d ∷ done_from (after_calls call x (done_by (shows x) d).calls) ds

  -- x after the first t calls
  abbrev pub at_call : X → List Call → ℕ → X
  at_call x cs t = after_calls call x (take t cs)

  -- x shows packet k in the ingress list of port r; in the line of port p and queue q
  pub record ShowsIngress (S : Settings) (r : ℕ) (k : Packet) (x : X) : Type 0 where
    pub ledger : Ledger
    pub ahead : List Packet
    pub shown : shows x ≡ has S ledger
    pub stands : InIngress S r k ahead ledger

  pub record ShowsLine (S : Settings) (p q : ℕ) (k : Packet) (x : X) : Type 0 where
    pub ledger : Ledger
    pub ahead : List Packet
    pub shown : shows x ≡ has S ledger
    pub stands : InLine S p q k ahead ledger

  -- call t is a stitch of port r. It finds the ledger M, in which packet k is the oldest of r's ingress list, and takes it to the end of
  -- the egress list of its queue at the port that its destination is mapped to at that moment
  pub record StitchedAt (S : Settings) (r : ℕ) (k : Packet) (M : Ledger) (x : X) (cs : List Call) (t : ℕ) : Type 0 where
    pub among : t < length cs
    pub a_stitch : get_or cs t (act (ready 0)) ≡ act (stitch r)
    pub finds : shows (at_call x cs t) ≡ has S M
    pub oldest : InIngress S r k [] M
    pub answer : (call (at_call x cs t) (act (stitch r))).0 ≡ stitched (stitch_record k (map_of M k.dest))
    pub leads : shows (at_call x cs (suc t)) ≡ has S (move S (ingress r) (egress (map_of M k.dest) k.queue) k M)

  -- call t is a turn of port p, timed or not, at which packet k leaves by queue q
  pub record LeavesAt (p q : ℕ) (k : Packet) (x : X) (cs : List Call) (t : ℕ) : Type 0 where
    pub among : t < length cs
    pub clock : Clock
    pub a_turn : get_or cs t (act (ready 0)) ≡ act (turn clock p)
    pub it_leaves : (call (at_call x cs t) (act (turn clock p))).0 ≡ leaves k (side_of q)

  -- packet k is stitched at a call before which fewer than n rounds are over, and up to then it stands in the ingress list
  pub record StitchedWithin (S : Settings) (r : ℕ) (k : Packet) (n : ℕ) (x : X) (ds : List Carried) : Type 0 where
    pub moment : ℕ
    pub found : Ledger
    pub it_is : StitchedAt S r k found x (calls_of ds) moment
    pub soon : rounds_before ds moment < n
    pub until_then : (i : ℕ) → i ≤ moment → ShowsIngress S r k (at_call x (calls_of ds) i)

  -- after call t packet k leaves, at a call before which fewer than n rounds are over of those that weren't over before call t, and
  -- between the two it stands in the line
  pub record LeavesWithinRounds (S : Settings) (p q : ℕ) (k : Packet) (n t : ℕ) (x : X) (ds : List Carried) : Type 0 where
    pub moment : ℕ
    pub after : t < moment
    pub it_does : LeavesAt p q k x (calls_of ds) moment
    pub soon : rounds_before ds moment < rounds_before ds t + n
    pub between : (i : ℕ) → t < i → i ≤ moment → ShowsLine S p q k (at_call x (calls_of ds) i)

  -- Where x shows the ledger L. "A packet with s ahead of it in ingress is stitched by round s + 1", whatever is done, setting up anew
  -- and repairs excepted.
  abbrev pub StitchedSoonFrom : Settings → Ledger → X → Type 0
  StitchedSoonFrom S L x =
      (r : ℕ) → r < S.ports
      → (ahead : List Packet) (k : Packet) → InIngress S r k ahead L
      → (deeds : List Deed) → SetupsRefused call x (calls_of (done_from x deeds))
      → length ahead + 1 ≤ rounds_in (done_from x deeds)
      → StitchedWithin S r k (length ahead + 1) x (done_from x deeds)

  -- Whenever a packet is stitched: "if at that moment k packets of its queue stand ahead of it at its port, egress and prefetch together,
  -- and outward credit covers all k + 1, it leaves within queue count × (k + 1) rounds, that one included if the stitch was a round's".
  abbrev pub LeavesSoonFrom : Settings → X → Type 0
  LeavesSoonFrom S x =
      (r : ℕ) → r < S.ports → (k : Packet)
      → (deeds : List Deed) → SetupsRefused call x (calls_of (done_from x deeds))
      → (t : ℕ) (M : Ledger) → StitchedAt S r k M x (calls_of (done_from x deeds)) t
      → CreditFor S M k
      → rounds_before (done_from x deeds) t + rounds_for S M k ≤ rounds_in (done_from x deeds)
      → LeavesWithinRounds S (map_of M k.dest) k.queue k (rounds_for S M k) t x (done_from x deeds)

  -- Both joined: from door to door.
  pub record DoorToDoor (S : Settings) (r : ℕ) (k : Packet) (s : ℕ) (x : X) (ds : List Carried) : Type 0 where
    pub in_line : StitchedWithin S r k (s + 1) x ds
    pub and_out : CreditFor S in_line.found k
        → rounds_before ds in_line.moment + rounds_for S in_line.found k ≤ rounds_in ds
        → LeavesWithinRounds S (map_of in_line.found k.dest) k.queue k (rounds_for S in_line.found k) in_line.moment x ds

  abbrev pub DoorToDoorFrom : Settings → Ledger → X → Type 0
  DoorToDoorFrom S L x =
      (r : ℕ) → r < S.ports
      → (ahead : List Packet) (k : Packet) → InIngress S r k ahead L
      → (deeds : List Deed) → SetupsRefused call x (calls_of (done_from x deeds))
      → length ahead + 1 ≤ rounds_in (done_from x deeds)
      → DoorToDoor S r k (length ahead) x (done_from x deeds)

  -- Demand 3 when rounds and looks come among the calls: a round has a turn of each port, and it counts; a look has none.
  abbrev pub NobodyStarvesInRoundsFrom : Settings → Ledger → X → Type 0
  NobodyStarvesInRoundsFrom S L x =
      (p q : ℕ) → p < S.ports → q < S.queues
      → (ahead : List Packet) (k : Packet) → Stands S p q k ahead L
      → InHand S L p q (ahead ++ (k ∷ []))
      → (deeds : List Deed) → SetupsRefused call x (calls_of (done_from x deeds))
      → S.queues * (length ahead + 1) ≤ turns_in p (calls_of (done_from x deeds))
      → LeavesAmong call shows S p q k (S.queues * (length ahead + 1)) x (calls_of (done_from x deeds))

-- ---- at the desk, whatever its memory's length n, for any number of ports and queues

unfoldable pub LeavesSoonAtDesk : Type 0
LeavesSoonAtDesk = (n : ℕ) (S : Settings) → Roomy S → (L : Ledger) → Orderly S L → LeavesSoonFrom (desk n) (λ D. D) S (has S L)

unfoldable pub DoorToDoorAtDesk : Type 0
DoorToDoorAtDesk = (n : ℕ) (S : Settings) → Roomy S → (L : Ledger) → Orderly S L → DoorToDoorFrom (desk n) (λ D. D) S L (has S L)

unfoldable pub NobodyStarvesInRoundsAtDesk : Type 0
NobodyStarvesInRoundsAtDesk =
    (n : ℕ) (S : Settings) → Roomy S → (L : Ledger) → Orderly S L → NobodyStarvesInRoundsFrom (desk n) (λ D. D) S L (has S L)
