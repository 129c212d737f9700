-- Demand 2, "queues keep order; nodes go home to their owner", as statements. What came to a list and what left it are read off the calls
-- and their answers alone, by entry ids, as a caller can read them. Assumes nothing.
use Rattle.std.specs.Prelude.{◌≡◌, ◌≢◌, ◌⊎◌, Bool, cond, ◌&&◌, List, [], ◌∷◌, ◌++◌, map, ℕ, suc, length, get_or, take, drop, eqb}
use Rattle.numbers.specs.Bytes.{number}
use Rattle.ledger.specs.Settings.{Settings}
use Rattle.ledger.specs.Header.{form, fields_of, bytes_in}
use Rattle.ledger.specs.Ledger.{owner, Packet, recorded, Place, free, ingress, egress, prefetched, port_of, kind_in, queue_in, place_of, Ledger, list_at}
use Rattle.ledger.specs.Buckets.{Clock}
use Rattle.ledger.specs.Calls.{Act, arrive, stitch, prefetch, credit, map_to, turn, ready, where_is, Side, Reply, refused, done, entry, stitched}
use Rattle.ledger.specs.Calls.{clear, report, bucket, show, idle, leaves, word, found, reported, counted, part}
use Rattle.ledger.specs.Desk.{Desk, has, Call, setup, act, after_calls, answers_of}
use Rattle.ledger.specs.Sound.{All}

-- ---- are two places the same

abbrev pub same_place : Place → Place → Bool
same_place u v = eqb (kind_in u) (kind_in v) && (eqb (port_of u) (port_of v) && eqb (queue_in u) (queue_in v))

-- ---- which node a call moved, from where to where

pub data Movement : Type 0 where
  stays : Movement
  moves : ℕ → Place → Place → Movement

-- by what an answer names: an entry id, a stitch's record, a packet that leaves; a refusal, and any other answer, names none
abbrev pub named : {A : Type 0} → A → (ℕ → A) → (List ℕ → A) → (Packet → A) → Reply → A
named no' e s l (refused n) = no'
named no' e s l done = no'
named no' e s l (entry x) = e x
named no' e s l (stitched b) = s b
named no' e s l idle = no'
named no' e s l (leaves k t) = l k
named no' e s l (word w n) = no'
named no' e s l (found v i) = no'
named no' e s l (reported n) = no'
named no' e s l (counted n) = no'
named no' e s l (part x n) = no'

abbrev pub by_entry : Place → Place → Reply → Movement
by_entry v w = named stays (λ x. moves x v w) (λ b. stays) (λ k. stays)

-- the record has the entry id in its first two bytes, then the length, then the queue and the mapped port
abbrev pub by_record : Place → Reply → Movement
by_record v = named stays (λ x. stays) (λ b. moves (number 2 b 0) v (egress (get_or b 5 0) (get_or b 4 0))) (λ k. stays)

-- a packet leaves the slots of its queue, and its node goes to the port in its entry id
abbrev pub by_turn : ℕ → Reply → Movement
by_turn p = named stays (λ x. stays) (λ b. stays) (λ k. moves k.node (prefetched p k.queue) (free (owner k.node)))

abbrev pub movement : Act → Reply → Movement
movement (arrive p h) r = by_entry (free p) (ingress p) r
movement (stitch p) r = by_record (ingress p) r
movement (prefetch p q) r = by_entry (egress p q) (prefetched p q) r
movement (credit p q n) r = stays
movement (map_to d p) r = stays
movement (turn c p) r = by_turn p r
movement (ready p) r = stays
movement (where_is y) r = stays
movement (clear p) r = stays
movement (report p) r = stays
movement (bucket p b) r = stays
movement (show ns p q) r = stays

abbrev pub movement_of : Call → Reply → Movement
movement_of (setup T) r = stays
movement_of (act a) r = movement a r

-- ---- what came to place u, and what left it, in the order of the calls

abbrev pub came_by : Place → Movement → List ℕ
came_by u stays = []
came_by u (moves x v w) = cond (same_place u w) (x ∷ []) []

abbrev pub left_by : Place → Movement → List ℕ
left_by u stays = []
left_by u (moves x v w) = cond (same_place u v) (x ∷ []) []

-- what f reads off each call and its answer
abbrev pub gathered : {A : Type 0} → (Call → Reply → List A) → List Call → List Reply → List A
gathered f [] rs = []
gathered f (c ∷ cs) [] = []
gathered f (c ∷ cs) (r ∷ rs) = f c r ++ gathered f cs rs

abbrev pub came_to : Place → List Call → List Reply → List ℕ
came_to u = gathered (λ c r. came_by u (movement_of c r))

abbrev pub left_from : Place → List Call → List Reply → List ℕ
left_from u = gathered (λ c r. left_by u (movement_of c r))

-- ---- a list keeps its order

-- the entry ids of a place, the oldest first
abbrev pub ids_at : Settings → Ledger → Place → List ℕ
ids_at S L u = map (λ k. k.node) (list_at S L u)

-- what stands there is what stood there and what came, in that order, less as many of the oldest as left; and what left is those oldest,
-- in that order
pub record FirstInFirstOut (stood came left stands : List ℕ) : Type 0 where
  pub stays_behind : stands ≡ drop (length left) (stood ++ came)
  pub oldest_left : left ≡ take (length left) (stood ++ came)

-- after calls in which every setup is refused, on whatever takes calls and shows a desk, place u has kept its order; x showed the ledger L
pub record KeepsOrder {X : Type 0} (call : X → Call → Reply × X) (shows : X → Desk) (S : Settings) (L : Ledger) (u : Place)
    (x : X) (cs : List Call) : Type 0 where
  pub ledger : Ledger
  pub shown : shows (after_calls call x cs) ≡ has S ledger
  pub is_in_order : FirstInFirstOut (ids_at S L u) (came_to u cs (answers_of call x cs)) (left_from u cs (answers_of call x cs)) (ids_at S ledger u)

-- ---- what is recorded of a packet goes along with it

-- the packets that the switch holds: those of every list that isn't a free list
abbrev pub is_free : Place → Bool
is_free v = eqb (kind_in v) 0

abbrev pub held_from : Settings → ℕ → List (List Packet) → List Packet
held_from S l [] = []
held_from S l (ks ∷ ls) = cond (is_free (place_of S l)) [] ks ++ held_from S (suc l) ls

abbrev pub held : Settings → Ledger → List Packet
held S L = held_from S 0 L.lists

-- the packet that a call brought in: an arrival's header, recorded for the node that its answer names
abbrev pub brought_by : Settings → Act → Reply → List Packet
brought_by S (arrive p h) r = named [] (λ x. recorded S x (fields_of (form S) (bytes_in h)) ∷ []) (λ b. []) (λ k. []) r
brought_by S (stitch p) r = []
brought_by S (prefetch p q) r = []
brought_by S (credit p q n) r = []
brought_by S (map_to d p) r = []
brought_by S (turn c p) r = []
brought_by S (ready p) r = []
brought_by S (where_is y) r = []
brought_by S (clear p) r = []
brought_by S (report p) r = []
brought_by S (bucket p b) r = []
brought_by S (show ns p q) r = []

abbrev pub brought_in : Settings → Call → Reply → List Packet
brought_in S (setup T) r = []
brought_in S (act a) r = brought_by S a r

-- packet k is in the list, and behind it there is no other of its node
abbrev pub Latest : Packet → List Packet → Type 0
Latest k [] = ⊥
Latest k (j ∷ js) = ((j ≡ k) × All (λ i. i.node ≢ k.node) js) ⊎ Latest k js

-- ten bytes tell of packet k what a stitch answers: entry id (2), length (2), queue (1), a port (1), timestamp (4)
pub record Tells (k : Packet) (b : List ℕ) : Type 0 where
  pub ten : length b ≡ 10
  pub id : number 2 b 0 ≡ k.node
  pub len : number 2 b 2 ≡ k.len
  pub queue : get_or b 4 0 ≡ k.queue
  pub stamp : number 4 b 6 ≡ k.stamp

-- Of what the switch held, where x showed the ledger L, and of what arrivals among the calls brought in, after it: every packet that it
-- holds after them is the latest of its node, with all that is recorded of it; and so is one that a turn sends then, and one of which a
-- stitch then tells. (The calls are any, so this is said of every turn and every stitch among calls.)
pub record GoesAlong {X : Type 0} (call : X → Call → Reply × X) (shows : X → Desk) (S : Settings) (L : Ledger)
    (x : X) (cs : List Call) : Type 0 where
  pub ledger : Ledger
  pub shown : shows (after_calls call x cs) ≡ has S ledger
  pub holds : All (λ k. Latest k (held S L ++ gathered (brought_in S) cs (answers_of call x cs))) (held S ledger)
  pub sends : (c : Clock) (p : ℕ) (k : Packet) (t : Side) → (call (after_calls call x cs) (act (turn c p))).0 ≡ leaves k t
      → Latest k (held S L ++ gathered (brought_in S) cs (answers_of call x cs))
  pub tells : (p : ℕ) (b : List ℕ) → (call (after_calls call x cs) (act (stitch p))).0 ≡ stitched b
      → (k : Packet) × Latest k (held S L ++ gathered (brought_in S) cs (answers_of call x cs)) × Tells k b
