-- What each answer of the code means in paper 01: its number for a refusal, its values for anything else. Assumes nothing.
use Rattle.std.specs.Prelude.{List, ℕ, replicate, Result, Ok, Err, Option, None, Some}
use Rattle.ledger.specs.Header as header
use Rattle.ledger.specs.Ledger.{Packet, Place, free, ingress, egress, prefetched}
use Rattle.ledger.specs.Calls.{Side, inside, outside, Reply, refused, done, entry, stitched, idle, leaves, word, found, reported, counted, part}
use Rattle.ledger.specs.declared.Refusal.{Refusal}
use Rattle.ledger.specs.declared.Refusal.TheVariants.{ShortMemory, BadSetting, NoState, NoPort, NoQueue, HeaderSize, Checksum, Source}
use Rattle.ledger.specs.declared.Refusal.TheVariants.{TooShort, NoCredit, NoFreeNode, NothingThere, SlotsInUse, TooMuchCredit, NoSuchId}
use Rattle.ledger.specs.declared.Refusal.TheVariants.{PacketBytes, PacketMemory, HeaderQueue, ReservedBit, NoFit, OtherKind, ShortRoom}
use Rattle.ledger.specs.declared.ListKind.{ListKind}
use Rattle.ledger.specs.declared.ListKind.TheVariants.{Free, Ingress, Egress, Prefetch}
use Rattle.ledger.specs.declared.Exit.{Exit}
use Rattle.ledger.specs.declared.Exit.TheVariants.{Inside, Outside}
use Rattle.ledger.specs.declared.Sent.{Sent}
use Rattle.ledger.specs.declared.EntryId.{EntryId}
use Rattle.ledger.specs.declared.Readiness.{Readiness}
use Rattle.ledger.specs.declared.Load.{Load}
use Rattle.ledger.specs.declared.Load.TheVariants as loads

-- the number of a refusal in the table; 16 on are paper 02's, of which 18, 22, 23, 25 and 26 aren't given yet
abbrev pub number_of : Refusal → ℕ
number_of ShortMemory = 1
number_of BadSetting = 2
number_of NoState = 3
number_of NoPort = 4
number_of NoQueue = 5
number_of HeaderSize = 6
number_of Checksum = 7
number_of Source = 8
number_of TooShort = 9
number_of NoCredit = 10
number_of NoFreeNode = 11
number_of NothingThere = 12
number_of SlotsInUse = 13
number_of TooMuchCredit = 14
number_of NoSuchId = 15
number_of PacketBytes = 16
number_of PacketMemory = 17
number_of HeaderQueue = 19
number_of ReservedBit = 20
number_of NoFit = 21
number_of OtherKind = 24
number_of ShortRoom = 27

abbrev pub kind_of : ListKind → Place
kind_of (Free p) = free p
kind_of (Ingress p) = ingress p
kind_of (Egress p q) = egress p q
kind_of (Prefetch p q) = prefetched p q

abbrev pub exit_of : Exit → Side
exit_of Inside = inside
exit_of Outside = outside

abbrev pub sent_of : Sent → Packet
sent_of k = record {
  node = k.entry.0;
  len = k.length;
  queue = k.queue;
  dest = k.destination;
  stamp = k.timestamp;
  poisoned = k.poisoned;
  transaction = k.transaction;
  price = k.price;
}

-- what arrives, with its bytes
abbrev pub load_of : Load → List ℕ → header.Load
load_of loads.Header b = header.alone b
load_of (loads.Packet n) b = header.whole n b

-- ---- the reply that each answer is

-- a refusal by its number, and any other answer by what it says
abbrev pub reply_by : {T : Type 0} → (T → Reply) → Result T Refusal → Reply
reply_by said (Ok x) = said x
reply_by said (Err r) = refused (number_of r)

abbrev pub plain_reply : Result Unit Refusal → Reply
plain_reply a = reply_by (λ u. done) a

-- the record
abbrev pub stitch_reply : Result (List ℕ) Refusal → Reply
stitch_reply a = reply_by stitched a

abbrev pub entry_reply : Result EntryId Refusal → Reply
entry_reply a = reply_by (λ x. entry x.0) a

-- with nothing ready a turn is idle
abbrev pub left_reply : Option (Sent × Exit) → Reply
left_reply None = idle
left_reply (Some k) = leaves (sent_of k.0) (exit_of k.1)

abbrev pub turn_reply : Result (Option (Sent × Exit)) Refusal → Reply
turn_reply a = reply_by left_reply a

abbrev pub ready_reply : Result Readiness Refusal → Reply
ready_reply a = reply_by (λ w. word w.word w.count) a

-- the list, and the position in it
abbrev pub where_reply : Result (ListKind × ℕ) Refusal → Reply
where_reply a = reply_by (λ v. found (kind_of v.0) v.1) a

abbrev pub report_reply : Result ℕ Refusal → Reply
report_reply a = reply_by reported a

abbrev pub bucket_reply : Result ℕ Refusal → Reply
bucket_reply a = reply_by counted a

-- the node, and how many bytes of its slot
abbrev pub show_reply : Result (EntryId × ℕ) Refusal → Reply
show_reply a = reply_by (λ x. part x.0.0 x.1) a

-- the ten bytes of a reply to a stitch: the record, or zeros where there is none
abbrev pub record_in : Reply → List ℕ
record_in (refused n) = replicate 10 0
record_in done = replicate 10 0
record_in (entry x) = replicate 10 0
record_in (stitched b) = b
record_in idle = replicate 10 0
record_in (leaves k s) = replicate 10 0
record_in (word w n) = replicate 10 0
record_in (found v i) = replicate 10 0
record_in (reported n) = replicate 10 0
record_in (counted n) = replicate 10 0
record_in (part x n) = replicate 10 0

-- the refusal's number; 0 for any other reply
abbrev pub number_in : Reply → ℕ
number_in (refused n) = n
number_in done = 0
number_in (entry x) = 0
number_in (stitched b) = 0
number_in idle = 0
number_in (leaves k s) = 0
number_in (word w n) = 0
number_in (found v i) = 0
number_in (reported n) = 0
number_in (counted n) = 0
number_in (part x n) = 0
