-- Paper 02, Q-13, "How long they wait", as statements: sending is as before; each bucket, and with it their sum, counts what timed turns sent;
-- and nothing but the reading call reads a bucket. Assumes nothing.
use Rattle.std.specs.Prelude.{◌≡◌, ◌≢◌, Bool, true, false, cond, List, [], ◌∷◌, ℕ, zero, suc, ◌+◌, ◌<◌, length, get_or, eqb, ltb}
use Rattle.ledger.specs.Settings.{Settings, bucket_count}
use Rattle.ledger.specs.Buckets.{untimed, at, wait_of, bucket_of, stop, one_more, bucket#}
use Rattle.ledger.specs.Ledger.{Packet, Column, buckets, Ledger, bucket_at}
use Rattle.ledger.specs.Ready.{bit}
use Rattle.ledger.specs.Calls.{Act, arrive, stitch, prefetch, credit, map_to, turn, ready, where_is, clear, report, bucket, show, Side, Reply, leaves}
use Rattle.ledger.specs.Desk.{Desk, none, has, Call, setup, act, after_calls, answers_of}
use Rattle.ledger.specs.Order.{named, gathered}

-- ---- "Sending is as before"

-- the ledgers L and N differ in bucket b of port p alone, and N has one more there
pub record CountedOnce (p b : ℕ) (L N : Ledger) : Type 0 where
  pub same_lists : N.lists ≡ L.lists
  pub same_numbers : (c : Column) → c ≢ buckets → N.numbers c ≡ L.numbers c
  pub other_buckets : (i : ℕ) → i ≢ bucket# p b → get_or (N.numbers buckets) i 0 ≡ get_or (L.numbers buckets) i 0
  pub is_one_more : bucket_at N p b ≡ one_more (bucket_at L p b)

-- A timed turn of port p answers as the turn does. Where it sends packet k, it leaves what the turn leaves with k's wait counted; else what
-- the turn leaves.
pub record TimedAsTurn {X : Type 0} (call : X → Call → Reply × X) (shows : X → Desk) (S : Settings) (time p : ℕ) (x : X) : Type 0 where
  pub turned : Ledger
  pub timed : Ledger
  pub shown : shows (call x (act (turn untimed p))).1 ≡ has S turned
  pub shown_timed : shows (call x (act (turn (at time) p))).1 ≡ has S timed
  pub answer : (call x (act (turn (at time) p))).0 ≡ (call x (act (turn untimed p))).0
  pub sent : (k : Packet) (t : Side) → (call x (act (turn (at time) p))).0 ≡ leaves k t → CountedOnce p (bucket_of (wait_of time k.stamp)) turned timed
  pub unsent : ((k : Packet) (t : Side) → (call x (act (turn (at time) p))).0 ≢ leaves k t) → timed ≡ turned

-- ---- "their sum is the number of packets sent by timed turns since"

-- the wait of the packet that a call sent, if the call is a timed turn of port p
abbrev pub wait_by : ℕ → Act → Reply → List ℕ
wait_by p (arrive r h) x = []
wait_by p (stitch r) x = []
wait_by p (prefetch r q) x = []
wait_by p (credit r q n) x = []
wait_by p (map_to d r) x = []
wait_by p (turn untimed r) x = []
wait_by p (turn (at time) r) x = cond (eqb r p) (named [] (λ y. []) (λ b. []) (λ k. wait_of time k.stamp ∷ []) x) []
wait_by p (ready r) x = []
wait_by p (where_is y) x = []
wait_by p (clear r) x = []
wait_by p (report r) x = []
wait_by p (bucket r b) x = []
wait_by p (show ns r q) x = []

abbrev pub wait_of_call : ℕ → Call → Reply → List ℕ
wait_of_call p (setup T) x = []
wait_of_call p (act a) x = wait_by p a x

-- the waits of the packets that timed turns of port p sent, one for each packet, read off the calls and their answers
abbrev pub waits_in : ℕ → List Call → List Reply → List ℕ
waits_in p = gathered (wait_of_call p)

-- how many of them fall in bucket b
abbrev pub fallen : ℕ → List ℕ → ℕ
fallen b [] = 0
fallen b (w ∷ ws) = bit (eqb (bucket_of w) b) + fallen b ws

-- n, or the stop where it is more
abbrev pub stopped : ℕ → ℕ
stopped n = cond (ltb n stop) n stop

-- the sum of the first n buckets of port p
abbrev pub sum_to : Ledger → ℕ → ℕ → ℕ
sum_to L p zero = 0
sum_to L p (suc n) = sum_to L p n + bucket_at L p n

abbrev pub bucket_sum : Ledger → ℕ → ℕ
bucket_sum L p = sum_to L p bucket_count

abbrev pub BelowStop : Ledger → ℕ → Type 0
BelowStop L p = (b : ℕ) → b < bucket_count → bucket_at L p b < stop

-- After calls in which every setup is refused, where x showed the ledger L: each bucket of port p has grown by the waits that fall in it, up
-- to its stop; and where none has reached its stop, their sum has grown by the number of packets that p's timed turns sent.
pub record BucketsCount {X : Type 0} (call : X → Call → Reply × X) (shows : X → Desk) (S : Settings) (L : Ledger) (p : ℕ)
    (x : X) (cs : List Call) : Type 0 where
  pub ledger : Ledger
  pub shown : shows (after_calls call x cs) ≡ has S ledger
  pub each : (b : ℕ) → b < bucket_count → bucket_at ledger p b ≡ stopped (bucket_at L p b + fallen b (waits_in p cs (answers_of call x cs)))
  pub summed : BelowStop ledger p → bucket_sum ledger p ≡ bucket_sum L p + length (waits_in p cs (answers_of call x cs))

-- ---- "so demands 2 and 3 read only the ledger": no bucket is read

-- the ledgers L and N differ in buckets alone
pub record ButBuckets (L N : Ledger) : Type 0 where
  pub same_lists : N.lists ≡ L.lists
  pub same_numbers : (c : Column) → c ≢ buckets → N.numbers c ≡ L.numbers c

-- desks that do
pub data AgreeBut : Desk → Desk → Type 0 where
  both_none : AgreeBut none none
  both_have : (S : Settings) (L N : Ledger) → ButBuckets L N → AgreeBut (has S L) (has S N)

-- the call that reads a bucket
abbrev pub is_reading : Act → Bool
is_reading (arrive p h) = false
is_reading (stitch p) = false
is_reading (prefetch p q) = false
is_reading (credit p q n) = false
is_reading (map_to d p) = false
is_reading (turn c p) = false
is_reading (ready p) = false
is_reading (where_is y) = false
is_reading (clear p) = false
is_reading (report p) = false
is_reading (bucket p b) = true
is_reading (show ns p q) = false

abbrev pub is_reading_call : Call → Bool
is_reading_call (setup T) = false
is_reading_call (act a) = is_reading a

-- the same calls are answered alike, but readings
abbrev pub AlikeBut : List Call → List Reply → List Reply → Type 0
AlikeBut [] xs ys = Unit {0}
AlikeBut (c ∷ cs) [] [] = ⊥
AlikeBut (c ∷ cs) [] (y ∷ ys) = ⊥
AlikeBut (c ∷ cs) (x ∷ xs) [] = ⊥
AlikeBut (c ∷ cs) (x ∷ xs) (y ∷ ys) = (is_reading_call c ≡ false → x ≡ y) × AlikeBut cs xs ys

-- Where x and y differ in buckets alone: whatever calls come, setups among them, every one but a reading is answered alike, and they go on
-- differing in buckets alone.
pub record WaitsUnread {X : Type 0} (call : X → Call → Reply × X) (shows : X → Desk) (x y : X) (cs : List Call) : Type 0 where
  pub agree : AgreeBut (shows (after_calls call x cs)) (shows (after_calls call y cs))
  pub answers : AlikeBut cs (answers_of call x cs) (answers_of call y cs)
