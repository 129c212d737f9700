-- Paper 02, Q-1, "Whole packets, without copying": the ports' packet memories, what an arrival stores there, which part show answers; and
-- demand 2 for these memories, "shown as it arrived", as statements. Assumes nothing.
use Rattle.std.specs.Prelude.{◌≡◌, ◌≢◌, Bool, true, false, cond, List, [], ◌∷◌, ◌++◌, ℕ, zero, suc, ◌+◌, ◌*◌, ◌<◌, length, take, drop, eqb}
use Rattle.ledger.specs.Settings.{Settings, slot_bytes, packet_room}
use Rattle.ledger.specs.Header.{alone, whole}
use Rattle.ledger.specs.Ledger.{owner, index, is_node, free, prefetched, Ledger}
use Rattle.ledger.specs.Calls.{Act, arrive, stitch, prefetch, credit, map_to, turn, ready, where_is, clear, report, bucket, show}
use Rattle.ledger.specs.Calls.{Reply, refused, done, entry, stitched, idle, leaves, word, found, reported, counted, part}
use Rattle.ledger.specs.Desk.{Desk, has, Call, setup, act, after_calls, answers_of, SetupsRefused}
use Rattle.ledger.specs.Sound.{All}
use Rattle.ledger.specs.Order.{named, ids_at}

-- ---- slots: "the node's slot" in its port's packet memory

-- where node y's starts
abbrev pub slot_at : ℕ → ℕ
slot_at y = index y * slot_bytes

-- n bytes of a memory from byte `at` on
abbrev pub bytes_at : ℕ → ℕ → List ℕ → List ℕ
bytes_at at n k = take n (drop at k)

-- a memory with the bytes b from byte `at` on
unfoldable pub stored : ℕ → List ℕ → List ℕ → List ℕ
stored at b k = take at k ++ (b ++ drop (at + length b) k)

-- what an arrival of packet b that is answered r leaves of the memory k that was lent for it: a refusal stores nothing
abbrev pub kept_in : Reply → List ℕ → List ℕ → List ℕ
kept_in r b k = named k (λ x. stored (slot_at x) b k) (λ c. k) (λ j. k) r

-- which part a show answers: n bytes of node x's slot; with any other answer none
abbrev pub part_or : {A : Type 0} → A → (ℕ → ℕ → A) → Reply → A
part_or no' f (refused n) = no'
part_or no' f done = no'
part_or no' f (entry x) = no'
part_or no' f (stitched b) = no'
part_or no' f idle = no'
part_or no' f (leaves k s) = no'
part_or no' f (word w n) = no'
part_or no' f (found v i) = no'
part_or no' f (reported n) = no'
part_or no' f (counted n) = no'
part_or no' f (part x n) = f x n

-- ---- the memories of all ports, over calls: "the same memories lent each time"

-- port by port
abbrev pub Memories : Type 0
Memories = ℕ → List ℕ

-- of a state that keeps packets each has its size
abbrev pub Sized : Settings → Memories → Type 0
Sized S ks = (p : ℕ) → p < S.ports → length (ks p) ≡ packet_room S

-- the lengths with which n of them from port p on are lent
abbrev pub lengths_from : Memories → ℕ → ℕ → List ℕ
lengths_from ks p zero = []
lengths_from ks p (suc n) = length (ks p) ∷ lengths_from ks (suc p) n

abbrev pub lengths : Settings → Memories → List ℕ
lengths S ks = lengths_from ks 0 S.ports

-- the packet that a call brings, and to which port; a header alone is no packet
pub data Brings : Type 0 where
  nothing : Brings
  packet : ℕ → List ℕ → Brings

abbrev pub brings : Act → Brings
brings (arrive p (alone h)) = nothing
brings (arrive p (whole n b)) = packet p b
brings (stitch p) = nothing
brings (prefetch p q) = nothing
brings (credit p q n) = nothing
brings (map_to d p) = nothing
brings (turn c p) = nothing
brings (ready p) = nothing
brings (where_is y) = nothing
brings (clear p) = nothing
brings (report p) = nothing
brings (bucket p b) = nothing
brings (show ns p q) = nothing

abbrev pub brings_in : Call → Brings
brings_in (setup T) = nothing
brings_in (act a) = brings a

-- the memories after a call that is answered r: at most that of the arriving port differs
abbrev pub keeps : Brings → Reply → Memories → Memories
keeps nothing r ks = ks
keeps (packet p b) r ks = λ o. cond (eqb o p) (kept_in r b (ks o)) (ks o)

-- and after calls with these answers
abbrev pub kept_by : List Call → List Reply → Memories → Memories
kept_by [] rs ks = ks
kept_by (c ∷ cs) [] ks = ks
kept_by (c ∷ cs) (r ∷ rs) ks = kept_by cs rs (keeps (brings_in c) r ks)

-- node y's whole slot
abbrev pub slot_of : Memories → ℕ → List ℕ
slot_of ks y = bytes_at (slot_at y) slot_bytes (ks (owner y))

-- the bytes that a show's answer stands for; none for a refusal's
abbrev pub part_in : Memories → Reply → List ℕ
part_in ks = part_or [] (λ x n. bytes_at (slot_at x) n (ks (owner x)))

-- ---- "stores it in the node's slot; the rest of that slot and all other slots stay"

pub record StoredAt (S : Settings) (y : ℕ) (b : List ℕ) (ks ks' : Memories) : Type 0 where
  pub same_lengths : (p : ℕ) → length (ks' p) ≡ length (ks p)
  pub starts : take (length b) (slot_of ks' y) ≡ b
  pub rest : drop (length b) (slot_of ks' y) ≡ drop (length b) (slot_of ks y)
  pub others : (z : ℕ) → is_node S z ≡ true → z ≢ y → slot_of ks' z ≡ slot_of ks z

-- ---- "no call writes a slot whose node isn't free, but the arrival that takes it"

-- node y isn't free: it doesn't stand in its port's free list
abbrev pub NotFree : Settings → Ledger → ℕ → Type 0
NotFree S L y = All (λ x. x ≢ y) (ids_at S L (free (owner y)))

-- of every call, answered on the ledger L: every such node's slot is as it was
abbrev pub SlotsStay : {X : Type 0} → (X → Call → Reply × X) → Settings → Ledger → X → Type 0
SlotsStay call S L x =
    (ks : Memories) → Sized S ks → (c : Call) (y : ℕ) → is_node S y ≡ true → NotFree S L y
    → slot_of (keeps (brings_in c) (call x c).0 ks) y ≡ slot_of ks y

-- ---- shown as it arrived

-- does a turn's answer send node y
abbrev pub sends : ℕ → Reply → Bool
sends y = named false (λ x. false) (λ b. false) (λ k. eqb k.node y)

-- "until it leaves": none of these answers sends it
abbrev pub Unsent : ℕ → List Reply → Type 0
Unsent y = All (λ r. sends y r ≡ false)

-- After calls, of the packet b that node y took, where x and the memories ks are what its arrival left: y isn't free; its slot starts with
-- the bytes that arrived; and wherever it is the oldest in a queue's slots, show, lent all memories, is answered with exactly these bytes.
pub record AsArrived {X : Type 0} (call : X → Call → Reply × X) (shows : X → Desk) (S : Settings) (y : ℕ) (b : List ℕ) (ks : Memories)
    (x : X) (cs : List Call) : Type 0 where
  pub ledger : Ledger
  pub shown : shows (after_calls call x cs) ≡ has S ledger
  pub not_free : NotFree S ledger y
  pub starts : take (length b) (slot_of (kept_by cs (answers_of call x cs) ks) y) ≡ b
  pub shows_it : (p q : ℕ) → p < S.ports → q < S.queues → (rest : List ℕ) → ids_at S ledger (prefetched p q) ≡ y ∷ rest →
      let after : Memories = kept_by cs (answers_of call x cs) ks in
      let answer : Reply = (call (after_calls call x cs) (act (show (lengths S after) p q))).0 in
      (answer ≡ part y (length b)) × (part_in after answer ≡ b)

-- of every whole packet that arrives now, whatever calls follow, setting up anew excepted, until a turn sends it
abbrev pub ShownAsArrivedFrom : {X : Type 0} → (X → Call → Reply × X) → (X → Desk) → Settings → X → Type 0
ShownAsArrivedFrom call shows S x =
    (ks : Memories) → Sized S ks
    → (p n : ℕ) (b : List ℕ) (y : ℕ) →
    let c : Call = act (arrive p (whole n b)) in
    (call x c).0 ≡ entry y
    → (cs : List Call) → SetupsRefused call (call x c).1 cs → Unsent y (answers_of call (call x c).1 cs)
    → AsArrived call shows S y b (keeps (packet p b) (entry y) ks) (call x c).1 cs
