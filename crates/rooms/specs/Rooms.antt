-- What a call of the C interface answers and leaves in the lent room, read off the reply: 0 and the reply's values, or the number of the
-- refusal and the room as it was. Assumes nothing.
use Rattle.std.specs.Prelude.{List, [], ◌∷◌, ℕ, ◌/◌, ◌%◌, ◌^◌, set, Option, None, Some}
use Rattle.ledger.specs.Ledger.{owner, Packet}
use Rattle.ledger.specs.declared.Broken.{Broken}
use Rattle.ledger.specs.Letters.{letter#}
use Rattle.ledger.specs.Calls.{Side, inside, outside, Reply, entry, stitched, idle, leaves, word, reported, counted}
use Rattle.ledger.specs.Answers.{number_in}
use Rattle.ledger.specs.Packets.{slot_at, part_or}

-- what a call answers and leaves: the number and the memory
abbrev pub told : Reply × List ℕ → ℕ × List ℕ
told out = (number_in out.0, out.1)

-- the same with a room, which becomes what `room` makes of the reply and of the room as it was lent
abbrev pub told_in : {A : Type 0} → (Reply → A → A) → A → Reply × List ℕ → ℕ × List ℕ × A
told_in room old out = (number_in out.0, out.1, room out.0 old)

-- of a round, which has left its room itself
abbrev pub told_round : Reply × List ℕ × List ℕ → ℕ × List ℕ × List ℕ
told_round out = (number_in out.0, out.1, out.2)

-- of a call that has the memory for reading only: the number and the room
abbrev pub shown : {A : Type 0} → (Reply → A → A) → A → Reply → ℕ × A
shown room old x = (number_in x, room x old)

-- ---- arrive, prefetch: the entry id

abbrev pub entry_room : Reply → ℕ → ℕ
entry_room (entry x) old = x
entry_room _ old = old

-- of a whole packet, whose packet memory has been left by the call
abbrev pub told_packet : ℕ → Reply × List ℕ × List ℕ → ℕ × List ℕ × List ℕ × ℕ
told_packet old out = (number_in out.0, out.1, out.2, entry_room out.0 old)

-- ---- stitch: the ten bytes of the record

abbrev pub record_room : Reply → List ℕ → List ℕ
record_room (stitched b) old = b
record_room _ old = old

-- ---- turn: sixteen bytes

abbrev pub side_byte : Side → ℕ
side_byte inside = 1
side_byte outside = 2

-- kind (1), queue (1), entry id (2), length (2), destination id (2), timestamp (4), poisoned (1), transaction id (1), price (2)
unfoldable pub sent_bytes : Packet → Side → List ℕ
sent_bytes k s =
    side_byte s ∷ k.queue ∷ k.node / 256 ∷ k.node % 256 ∷ k.len / 256 ∷ k.len % 256 ∷ k.dest / 256 ∷ k.dest % 256
    ∷ k.stamp / 2 ^ 24 ∷ k.stamp / 2 ^ 16 % 256 ∷ k.stamp / 2 ^ 8 % 256 ∷ k.stamp % 256
    ∷ k.poisoned ∷ k.transaction ∷ k.price / 256 ∷ k.price % 256 ∷ []

-- an idle turn writes the kind alone
abbrev pub sent_room : Reply → List ℕ → List ℕ
sent_room idle old = set old 0 0
sent_room (leaves k s) old = sent_bytes k s
sent_room _ old = old

-- ---- ready: the word and the count

abbrev pub ready_room : Reply → ℕ × ℕ → ℕ × ℕ
ready_room (word w n) old = (w, n)
ready_room _ old = old

-- ---- show: the owner, where the packet starts in its packet memory, and its length

abbrev pub part_room : Reply → ℕ × ℕ × ℕ → ℕ × ℕ × ℕ
part_room r old = part_or old (λ x n. (owner x, slot_at x, n)) r

-- ---- report: the mark

abbrev pub mark_room : Reply → ℕ → ℕ
mark_room (reported n) old = n
mark_room _ old = old

-- ---- bucket: what it counts

abbrev pub bucket_room : Reply → ℕ → ℕ
bucket_room (counted n) old = n
bucket_room _ old = old

-- ---- find: the rule's number, 1 for (a) and so on, and the item; 0 and 0 where no rule is broken

abbrev pub rule_number : Option Broken → ℕ
rule_number None = 0
rule_number (Some b) = letter# b.rule

abbrev pub item_number : Option Broken → ℕ
item_number None = 0
item_number (Some b) = b.item

abbrev pub found_numbers : Option Broken → ℕ × ℕ
found_numbers b = (rule_number b, item_number b)
