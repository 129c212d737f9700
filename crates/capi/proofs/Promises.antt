-- What a C caller may count on, read off the contracts' definitions. Assumes nothing.
use mathlib.Core.Path.{◌≡◌, refl, ap}
use mathlib.Core.Bool.{true, false}
use mathlib.Core.List.{List}
use Prim.Native.Nat.{ℕ, ◌≤◌}
use native.Mathlib.Omega.{arith}
use lib.ListN.{length}
use Rattle.ledger.specs.Settings.{Settings, row, size}
use Rattle.ledger.specs.Header.{Load, whole}
use Rattle.ledger.specs.Calls.{Reply, refused, done, entry, stitched, idle, leaves, word, found, reported, counted, part, arrive, is_refused}
use Rattle.ledger.specs.Desk.{Call, act, is_arrival_call}
use Rattle.ledger.specs.Answers.{number_of}
use Rattle.ledger.specs.declared.Refusal.{Refusal}
use Rattle.ledger.specs.declared.Refusal.TheVariants.{ShortMemory, BadSetting, NoState, NoPort, NoQueue, HeaderSize, Checksum, Source, TooShort}
use Rattle.ledger.specs.declared.Refusal.TheVariants.{NoCredit, NoFreeNode, NothingThere, SlotsInUse, TooMuchCredit, NoSuchId}
use Rattle.ledger.specs.declared.Refusal.TheVariants.{PacketBytes, PacketMemory, HeaderQueue, ReservedBit, NoFit, OtherKind, ShortRoom}
use Rattle.memory.specs.Memory.{M}
use Rattle.ledger.specs.Packets.{bytes_at, kept_in, part_in}
use Rattle.memory.specs.Packets.{packet_on}
use Rattle.memory.specs.Rounds.{round_on}
use Rattle.memory.specs.Audit.{audit_on}
use Rattle.memory.specs.Repair.{repaired}
use Rattle.layout.specs.Picture.{settings_in}
use Rattle.memory.specs.Marks.{ButTheMark}
use Rattle.memory.proofs.Square.{refusal_keeps_bytes}
use Rattle.memory.proofs.Marks.{refusal_but_the_mark}
use Rattle.memory.proofs.Rounds.{refused_round_keeps}
use Rattle.memory.proofs.Audit.{refused_audit_keeps}
use Rattle.memory.proofs.Door.{refused_repair_keeps}
use Rattle.switch.proofs.Packets.{four}
use Rattle.codec.specs.Label as headers
use Rattle.codec.specs.Label.{Label, Answer}
use Rattle.codec.specs.Reader.{reads}
use Rattle.codec.specs.Writer.{writes}
use Rattle.labels.specs.Labels.{label_room, header_room}
use Rattle.ledger.specs.Answers.{number_in}
use Rattle.rooms.specs.Rooms.{told, told_in, told_round, told_packet, entry_room, record_room, sent_room, ready_room, mark_room, part_room}
use Rattle.ledger.specs.Audit.{place_room}

-- 0 is no refusal's number: an answer of 0 says that the call was done
pub never_zero : (no : Refusal) → 1 ≤ number_of no
never_zero ShortMemory = omega arith
never_zero BadSetting = omega arith
never_zero NoState = omega arith
never_zero NoPort = omega arith
never_zero NoQueue = omega arith
never_zero HeaderSize = omega arith
never_zero Checksum = omega arith
never_zero Source = omega arith
never_zero TooShort = omega arith
never_zero NoCredit = omega arith
never_zero NoFreeNode = omega arith
never_zero NothingThere = omega arith
never_zero SlotsInUse = omega arith
never_zero TooMuchCredit = omega arith
never_zero NoSuchId = omega arith
never_zero PacketBytes = omega arith
never_zero PacketMemory = omega arith
never_zero HeaderQueue = omega arith
never_zero ReservedBit = omega arith
never_zero NoFit = omega arith
never_zero OtherKind = omega arith
never_zero ShortRoom = omega arith

-- a refusal leaves every room as it was lent
abbrev Keeps : {A : Type 0} → (Reply → A → A) → Type 0
Keeps {A} room = (n : ℕ) (old : A) → room (refused n) old ≡ old

pub rooms_kept :
    Keeps entry_room × Keeps record_room × Keeps sent_room × Keeps ready_room × Keeps mark_room × Keeps part_room
    × ((y : ℕ) → Keeps (place_room y))
rooms_kept = (λ n old. refl, λ n old. refl, λ n old. refl, λ n old. refl, λ n old. refl, λ n old. refl, λ y n old. refl)

-- where the answer is not 0, no byte that was lent differs, but the mark of the port at which an arrival was refused (paper 02, Q-9)
module _ {A : Type 0} (room : Reply → A → A) (kept : Keeps room) where
  refusal_only : (x : Reply) (old : A) → (number_in x ≡ 0 → ⊥) → (is_refused x ≡ true) × (room x old ≡ old)
  refusal_only (refused n) old h = (refl, kept n old)
  refusal_only done old h = absurd (h refl)
  refusal_only (entry x) old h = absurd (h refl)
  refusal_only (stitched b) old h = absurd (h refl)
  refusal_only idle old h = absurd (h refl)
  refusal_only (leaves k s) old h = absurd (h refl)
  refusal_only (word w n) old h = absurd (h refl)
  refusal_only (found v i) old h = absurd (h refl)
  refusal_only (reported n) old h = absurd (h refl)
  refusal_only (counted n) old h = absurd (h refl)
  refusal_only (part x n) old h = absurd (h refl)

  pub nothing_differs : (c : Call) → is_arrival_call c ≡ false → (m : List ℕ) (old : A) → (number_in (M c m).0 ≡ 0 → ⊥)
      → told_in room old (M c m) ≡ (number_in (M c m).0, m, old)
  nothing_differs c other m old h =
      let l = refusal_only (M c m).0 old h in
      rw (refusal_keeps_bytes c m other l.0, l.1)

-- of an arrival: the room is as it was, and of the memory at most the arriving port's mark differs
numbered_reply : (x : Reply) → (number_in x ≡ 0 → ⊥) → x ≡ refused (number_in x)
numbered_reply (refused n) h = refl
numbered_reply done h = absurd (h refl)
numbered_reply (entry x) h = absurd (h refl)
numbered_reply (stitched b) h = absurd (h refl)
numbered_reply idle h = absurd (h refl)
numbered_reply (leaves k s) h = absurd (h refl)
numbered_reply (word w n) h = absurd (h refl)
numbered_reply (found v i) h = absurd (h refl)
numbered_reply (reported n) h = absurd (h refl)
numbered_reply (counted n) h = absurd (h refl)
numbered_reply (part x n) h = absurd (h refl)

pub but_the_mark : (p : ℕ) (h : Load) (m : List ℕ) (old : ℕ) → (number_in (M (act (arrive p h)) m).0 ≡ 0 → ⊥) →
    let out = told_in entry_room old (M (act (arrive p h)) m) in
    ButTheMark (settings_in m) p out.0 m out.1 × (out.2 ≡ old)
but_the_mark p h m old k =
    let e = numbered_reply (M (act (arrive p h)) m).0 k in
    (refusal_but_the_mark p h m _ e, (refusal_only entry_room (λ n o. refl) (M (act (arrive p h)) m).0 old k).1)

-- of a whole packet's arrival the packet memory is as it was, too
pub but_the_mark_packet : (m k : List ℕ) (p : ℕ) (b : List ℕ) (old : ℕ) → (number_in (packet_on m k p b).0 ≡ 0 → ⊥) →
    let out = told_packet old (packet_on m k p b) in
    ButTheMark (settings_in m) p out.0 m out.1 × (out.2 ≡ k) × (out.3 ≡ old)
unfolding packet_on
but_the_mark_packet m k p b old no' =
    let r : Reply = (M (act (arrive p (whole (length k) b))) m).0 in
    let e = numbered_reply r no' in
    let told = but_the_mark p (whole (length k) b) m old no' in
    (told.0, ap (λ (x : Reply). kept_in x b k) e, told.1)

-- where a packet is shown, its rooms tell where it lies: so many bytes of the memory of that port, from there on, are those that the answer
-- stands for
pub room_tells_part : (x n : ℕ) (old : ℕ × ℕ × ℕ) (a b c d : List ℕ) →
    let room = part_room (part x n) old in
    bytes_at room.1 room.2 (four a b c d room.0) ≡ part_in (four a b c d) (part x n)
room_tells_part x n old a b c d = refl

-- and of a round, neither memory nor room
pub nothing_differs_round : (m room : List ℕ) → (number_in (round_on m room).0 ≡ 0 → ⊥)
    → told_round (round_on m room) ≡ (number_in (round_on m room).0, m, room)
nothing_differs_round m room h =
    let l = refused_round_keeps m room (refusal_only (λ x old. old) (λ n old. refl) (round_on m room).0 room h).0 in
    rw (l.0, l.1)

-- nor of an audit the room
pub nothing_differs_audit : (m room : List ℕ) → (number_in (audit_on m room).0 ≡ 0 → ⊥) → told (audit_on m room) ≡ (number_in (audit_on m room).0, room)
nothing_differs_audit m room h =
    rw (refused_audit_keeps m room (refusal_only (λ x old. old) (λ n old. refl) (audit_on m room).0 room h).0)

-- nor of a repair the memory
pub nothing_differs_repair : (m : List ℕ) → (number_in (repaired m).0 ≡ 0 → ⊥) → told (repaired m) ≡ (number_in (repaired m).0, m)
nothing_differs_repair m h =
    rw (refused_repair_keeps m (refusal_only (λ x old. old) (λ n old. refl) (repaired m).0 m h).0)

-- nor of the reader and of the writer of headers their rooms; that their 0 says done is `read_never_zero` and `write_never_zero` of codec
pub nothing_differs_read : (e p q : ℕ) (h room : List ℕ) → ((label_room (reads e p q h) room).0 ≡ 0 → ⊥)
    → label_room (reads e p q h) room ≡ ((label_room (reads e p q h) room).0, room)
nothing_differs_read e p q h room = go (reads e p q h)
  where
    go : (a : Answer Label) → ((label_room a room).0 ≡ 0 → ⊥) → label_room a room ≡ ((label_room a room).0, room)
    go (headers.refused n) k = refl
    go (headers.gives v) k = absurd (k refl)

pub nothing_differs_write : (e p q : ℕ) (v : Label) (room : List ℕ) (size : ℕ) → ((header_room (writes e p q v) room size).0 ≡ 0 → ⊥)
    → header_room (writes e p q v) room size ≡ ((header_room (writes e p q v) room size).0, room, size)
nothing_differs_write e p q v room size = go (writes e p q v)
  where
    go : (a : Answer (List ℕ)) → ((header_room a room size).0 ≡ 0 → ⊥) → header_room a room size ≡ ((header_room a room size).0, room, size)
    go (headers.refused n) k = refl
    go (headers.gives b) k = absurd (k refl)

-- the other settings do not count: memory of this size is never too short for a setup of the same ports, queues and nodes
pub size_any : (S T : Settings) → S.ports ≡ T.ports → S.queues ≡ T.queues → S.nodes ≡ T.nodes → size S ≡ size T
unfolding size row
size_any S T p q n = rw (p, q, n)
