-- Paper 01, "The calls" and "When the desk says no": for each act its refusals in the order in which they are tested, and what it does
-- where none applies. (Setup, and refusal 3, are the desk's.) Assumes nothing.
use Rattle.std.specs.Prelude.{Bool, true, false, cond, not, ◌||◌, List, [], ◌∷◌, ◌++◌, ℕ, zero, suc, ◌+◌, ◌-◌, ◌/◌, ◌%◌, ◌^◌, length, get_or, eqb, ltb, leb}
use Rattle.std.specs.Int.Count.{ones}
use Rattle.ledger.specs.Settings.{Settings, ids, bucket_count, packet_room, keeps_packets}
use Rattle.ledger.specs.Rules.{Rule, refuse, guard}
use Rattle.ledger.specs.Header.{form, fields_of, Load, alone, whole, bytes_in, arrival_rules}
use Rattle.ledger.specs.Ledger.{owner, is_node, Packet, bare, recorded, Place, free, ingress, egress, prefetched, place_of, Ledger, list_at}
use Rattle.ledger.specs.Ledger.{arrival, outward, last, mapped, halted, buckets, arrival_of, outward_of, last_of, map_of, mark_of, bucket_at}
use Rattle.ledger.specs.Ledger.{oldest, move, put_in, put_credit}
use Rattle.ledger.specs.Halt.{marks, held_up}
use Rattle.ledger.specs.Buckets.{Clock, untimed, at, wait_of, bucket_of, one_more, bucket#}
use Rattle.ledger.specs.Ready.{ready_word, pick}

pub data Act : Type 0 where
  arrive : ℕ → Load → Act
  stitch : ℕ → Act
  prefetch : ℕ → ℕ → Act
  credit : ℕ → ℕ → ℕ → Act
  map_to : ℕ → ℕ → Act
  turn : Clock → ℕ → Act
  ready : ℕ → Act
  where_is : ℕ → Act
  clear : ℕ → Act
  report : ℕ → Act
  bucket : ℕ → ℕ → Act
  show : List ℕ → ℕ → ℕ → Act

abbrev pub is_arrival : Act → Bool
is_arrival (arrive p h) = true
is_arrival (stitch p) = false
is_arrival (prefetch p q) = false
is_arrival (credit p q n) = false
is_arrival (map_to d p) = false
is_arrival (turn c p) = false
is_arrival (ready p) = false
is_arrival (where_is y) = false
is_arrival (clear p) = false
is_arrival (report p) = false
is_arrival (bucket p b) = false
is_arrival (show ns p q) = false

pub data Side : Type 0 where
  inside outside : Side

pub data Reply : Type 0 where
  refused : ℕ → Reply
  done : Reply
  entry : ℕ → Reply
  stitched : List ℕ → Reply
  idle : Reply
  leaves : Packet → Side → Reply
  word : ℕ → ℕ → Reply
  found : Place → ℕ → Reply
  reported : ℕ → Reply
  counted : ℕ → Reply
  part : ℕ → ℕ → Reply

abbrev pub is_refused : Reply → Bool
is_refused (refused n) = true
is_refused done = false
is_refused (entry x) = false
is_refused (stitched b) = false
is_refused idle = false
is_refused (leaves k s) = false
is_refused (word w n) = false
is_refused (found v i) = false
is_refused (reported n) = false
is_refused (counted n) = false
is_refused (part x n) = false

-- ---- parts of the rules

abbrev pub no_port : Settings → ℕ → Rule
no_port S p = refuse 4 (leb S.ports p)

abbrev pub is_empty : List Packet → Bool
is_empty [] = true
is_empty (k ∷ ks) = false

abbrev pub first_of : Settings → Ledger → Place → Packet
first_of S L v = oldest (list_at S L v)

-- ---- packets (paper 02, Q-1)

-- "a memory of another size"
abbrev pub other_size : Settings → ℕ → Bool
other_size S n = not (eqb n (packet_room S))

-- one of these lengths
abbrev pub other_sizes : Settings → List ℕ → Bool
other_sizes S [] = false
other_sizes S (n ∷ ns) = other_size S n || other_sizes S ns

-- "Setup now says whether a state keeps packets; an arrive or show of the other kind is refused 24"
abbrev pub other_kind : Settings → Load → Bool
other_kind S (alone h) = keeps_packets S
other_kind S (whole n b) = not (keeps_packets S)

abbrev pub wrong_memory : Settings → Load → Bool
wrong_memory S (alone h) = false
wrong_memory S (whole n b) = other_size S n

-- ---- arrive

-- what h is as a packet at port p: the oldest free node with the header recorded
abbrev pub arriving : Settings → Ledger → ℕ → Load → Packet
arriving S L p h = recorded S (first_of S L (free p)).node (fields_of (form S) (bytes_in h))

-- the refusals that are tested before 10: an arrival that meets none of them is sound, in demand 2's sense
abbrev pub sound_rules : Settings → ℕ → Load → List Rule
sound_rules S p h = refuse 24 (other_kind S h) ∷ refuse 17 (wrong_memory S h) ∷ no_port S p ∷ arrival_rules (form S) S.queues p h

-- port p lacks the credit for price n in queue q: "as if credit were 0" where it is halted and q is above 0
abbrev pub lacks : Settings → Ledger → ℕ → ℕ → ℕ → Bool
lacks S L p q n = held_up q (mark_of L p) || ltb (arrival_of S L p q) n

-- the refusals that are left where port and header are right, packet k being what arrives: for want of credit, and of a node
abbrev pub last_rules : Settings → Ledger → ℕ → Packet → List Rule
last_rules S L p k = refuse 10 (lacks S L p k.queue k.price) ∷ refuse 11 (is_empty (list_at S L (free p))) ∷ []

unfoldable pub arrived : Settings → Ledger → ℕ → Packet → Ledger
arrived S L p k = put_credit arrival S p k.queue (arrival_of S L p k.queue - k.price) (move S (free p) (ingress p) k L)

-- ---- stitch

-- entry id (2), length (2), queue (1), mapped port (1), timestamp (4)
unfoldable pub stitch_record : Packet → ℕ → List ℕ
stitch_record k to =
    k.node / 256 ∷ k.node % 256 ∷ k.len / 256 ∷ k.len % 256 ∷ k.queue ∷ to
    ∷ k.stamp / 2 ^ 24 ∷ k.stamp / 2 ^ 16 % 256 ∷ k.stamp / 2 ^ 8 % 256 ∷ k.stamp % 256 ∷ []

-- ---- turn

abbrev pub side_of : ℕ → Side
side_of zero = inside
side_of (suc q) = outside

-- packet k leaves port p by queue q: its price is taken from outward credit and goes back to its owner's arrival credit,
-- its node goes to the back of its owner's free list, and the queue is the last served
unfoldable pub served : Settings → Ledger → ℕ → ℕ → Packet → Ledger
served S L p q k =
    put_in last p q
    (put_credit outward S p q (outward_of S L p q - k.price)
    (put_credit arrival S (owner k.node) q (arrival_of S L (owner k.node) q + k.price)
    (move S (prefetched p q) (free (owner k.node)) (bare k.node) L)))

-- the wait of packet k, which a turn of port p sends, is counted in p's buckets if the turn is timed
unfoldable pub ticked : Clock → ℕ → Packet → Ledger → Ledger
ticked untimed p k L = L
ticked (at time) p k L =
    let b = bucket_of (wait_of time k.stamp) in
    put_in buckets (bucket# p b) (one_more (bucket_at L p b)) L

abbrev pub serve : Settings → Ledger → Clock → ℕ → ℕ → Reply × Ledger
serve S L c p q =
    let k = first_of S L (prefetched p q) in
    (leaves k (side_of q), ticked c p k (served S L p q k))

-- with nothing ready the answer is idle and nothing changes
abbrev pub turned : Settings → Ledger → Clock → ℕ → ℕ → Reply × Ledger
turned S L c p w = cond (eqb w 0) (idle, L) (serve S L c p (pick (last_of L p) w))

-- ---- where

-- the place of node y in a list, and the number of the list in which it stands
abbrev pub position : ℕ → List Packet → ℕ
position y [] = 0
position y (k ∷ ks) = cond (eqb k.node y) 0 (suc (position y ks))

abbrev pub which : ℕ → List (List Packet) → ℕ
which y [] = 0
which y (l ∷ ls) = cond (ltb (position y l) (length l)) 0 (suc (which y ls))

-- ---- the refusals of each act, in order

abbrev pub rules : Settings → Ledger → Act → List Rule
rules S L (arrive p h) = sound_rules S p h ++ last_rules S L p (arriving S L p h)
rules S L (stitch p) = no_port S p ∷ refuse 12 (is_empty (list_at S L (ingress p))) ∷ []
rules S L (prefetch p q) =
    no_port S p
    ∷ refuse 5 (leb S.queues q)
    ∷ refuse 12 (is_empty (list_at S L (egress p q)))
    ∷ refuse 13 (leb S.slots (length (list_at S L (prefetched p q))))
    ∷ []
rules S L (credit p q n) =
    no_port S p
    ∷ refuse 5 (leb S.queues q || eqb q 0)
    ∷ refuse 14 (ltb 65535 (outward_of S L p q + n))
    ∷ []
rules S L (map_to d p) = refuse 15 (leb ids d) ∷ no_port S p ∷ []
rules S L (turn c p) = no_port S p ∷ []
rules S L (ready p) = no_port S p ∷ []
rules S L (where_is y) = refuse 15 (not (is_node S y)) ∷ []
rules S L (clear p) = no_port S p ∷ []
rules S L (report p) = no_port S p ∷ []
rules S L (bucket p b) = no_port S p ∷ refuse 5 (leb bucket_count b) ∷ []
rules S L (show ns p q) =
    refuse 24 (not (keeps_packets S))
    ∷ refuse 17 (other_sizes S ns)
    ∷ no_port S p
    ∷ refuse 5 (leb S.queues q)
    ∷ refuse 12 (is_empty (list_at S L (prefetched p q)))
    ∷ []

-- ---- the answer and the ledger after it, where no refusal applies

abbrev pub result : Settings → Ledger → Act → Reply × Ledger
result S L (arrive p h) = (entry (first_of S L (free p)).node, arrived S L p (arriving S L p h))
result S L (stitch p) =
    let k = first_of S L (ingress p) in
    let to = map_of L k.dest in
    (stitched (stitch_record k to), move S (ingress p) (egress to k.queue) k L)
result S L (prefetch p q) =
    let k = first_of S L (egress p q) in
    (entry k.node, move S (egress p q) (prefetched p q) k L)
result S L (credit p q n) = (done, put_credit outward S p q (outward_of S L p q + n) L)
result S L (map_to d p) = (done, put_in mapped d p L)
result S L (turn c p) = turned S L c p (ready_word S L p)
result S L (ready p) = (word (ready_word S L p) (ones (ready_word S L p)), L)
result S L (where_is y) =
    let l = which y L.lists in
    (found (place_of S l) (position y (get_or L.lists l [])), L)
result S L (clear p) = (done, put_in halted p 0 L)
result S L (report p) = (reported (mark_of L p), L)
result S L (bucket p b) = (counted (bucket_at L p b), L)
result S L (show ns p q) =
    let k = first_of S L (prefetched p q) in
    (part k.node k.len, L)

-- the ledger with port p marked for refusal n, if it marks the port
unfoldable pub marked_for : Settings → ℕ → ℕ → Ledger → Ledger
marked_for S p n L = cond (marks S p (mark_of L p) n) (put_in halted p n L) L

-- what a refusal changes: after an arrival at most the arriving port's mark, else nothing
unfoldable pub on_refusal : Settings → ℕ → Act → Ledger → Ledger
on_refusal S n (arrive p h) L = marked_for S p n L
on_refusal S n (stitch p) L = L
on_refusal S n (prefetch p q) L = L
on_refusal S n (credit p q v) L = L
on_refusal S n (map_to d p) L = L
on_refusal S n (turn c p) L = L
on_refusal S n (ready p) L = L
on_refusal S n (where_is y) L = L
on_refusal S n (clear p) L = L
on_refusal S n (report p) L = L
on_refusal S n (bucket p b) L = L
on_refusal S n (show ns p q) L = L

-- one act: the answer, and the ledger after it
abbrev pub step : Settings → Ledger → Act → Reply × Ledger
step S L a = guard (rules S L a) (λ n. (refused n, on_refusal S n a L)) (result S L a)

-- any acts, one after another: the ledger after them
abbrev pub run : Settings → Ledger → List Act → Ledger
run S L [] = L
run S L (a ∷ acts) = run S (step S L a).1 acts
