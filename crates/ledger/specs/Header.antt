-- Paper 01, "The ten-byte header", and paper 02, Q-7, "The wide headers": a header's form, its fields, its own refusals (6 to 9, and paper
-- 02's 16, 19 and 20), and the price. Assumes nothing.
use Rattle.std.specs.Prelude.{Bool, false, cond, not, List, [], ◌∷◌, ◌++◌, ℕ, zero, suc, ◌+◌, ◌-◌, ◌*◌, ◌/◌, ◌≤◌, length, get_or, take, eqb, ltb, leb}
use Rattle.std.specs.Int.Count.{count_leading_zeros}
use Rattle.numbers.specs.Bytes.{number}
use Rattle.numbers.specs.Fields.{unpack}
use Rattle.crc.specs.Crc.{crc8}
use Rattle.ledger.specs.Settings.{Settings, ten_bytes}
use Rattle.ledger.specs.Rules.{Rule, refuse}

-- ---- the form of a header

-- what differs from switch to switch: the bits of a port and of a queue, the bytes of the credit on offer
pub record Form : Type 0 where
  pub port_bits : ℕ
  pub queue_bits : ℕ
  pub offer_bytes : ℕ

-- in every switch they are narrow
pub record Narrow (F : Form) : Type 0 where
  pub some_port : 1 ≤ F.port_bits
  pub few_port : F.port_bits ≤ 5
  pub some_queue : 1 ≤ F.queue_bits
  pub few_queue : F.queue_bits ≤ 6
  pub some_offer : 1 ≤ F.offer_bytes
  pub few_offer : F.offer_bytes ≤ 2

-- "as wide as the count less one needs": the bits of that number without its leading zeros
unfoldable pub width_of : ℕ → ℕ
width_of n = 32 - count_leading_zeros 32 (n - 1)

-- of an edition, so many ports and so many queues: the ten-byte header has one byte of credit, the wide ones two
unfoldable pub form_of : ℕ → ℕ → ℕ → Form
form_of e p q = record { port_bits = width_of p; queue_bits = width_of q; offer_bytes = cond (eqb e ten_bytes) 1 2 }

abbrev pub form : Settings → Form
form S = form_of S.edition S.ports S.queues

-- the front, from the destination to the poisoned flag: so many bits, in so many bytes, with zeros to spare up to a byte's end
unfoldable pub front_bits : Form → ℕ
front_bits F = 2 * F.port_bits + F.queue_bits + 14

unfoldable pub front_bytes : Form → ℕ
front_bytes F = (front_bits F + 7) / 8

unfoldable pub spare : Form → ℕ
spare F = 8 * front_bytes F - front_bits F

-- "destination, source, queue, length 13, poisoned 1, reserved zeros up to a byte's end, timestamp 32, credit, transaction 8"; the checksum
-- comes after them
abbrev pub widths : Form → List ℕ
widths F =
    F.port_bits ∷ F.port_bits ∷ F.queue_bits ∷ 13 ∷ 1 ∷ spare F ∷ 32 ∷ 8 * F.offer_bytes ∷ 8 ∷ []

-- the bytes before the checksum, all bytes, and the least length: header and footer
unfoldable pub body_size : Form → ℕ
body_size F = front_bytes F + 4 + F.offer_bytes + 1

unfoldable pub header_size : Form → ℕ
header_size F = body_size F + 1

unfoldable pub least_length : Form → ℕ
least_length F = header_size F + 2

-- ---- its fields

pub record Fields : Type 0 where
  pub dest : ℕ
  pub source : ℕ
  pub queue : ℕ
  pub len : ℕ
  pub poisoned : ℕ
  pub reserved : ℕ
  pub stamp : ℕ
  pub offered : ℕ
  pub transaction : ℕ
  pub check : ℕ

-- the fields of these widths before the checksum, which is a byte, in their order
abbrev pub in_order : List ℕ → ℕ → Fields
in_order fs c = record {
  dest = get_or fs 0 0;
  source = get_or fs 1 0;
  queue = get_or fs 2 0;
  len = get_or fs 3 0;
  poisoned = get_or fs 4 0;
  reserved = get_or fs 5 0;
  stamp = get_or fs 6 0;
  offered = get_or fs 7 0;
  transaction = get_or fs 8 0;
  check = c;
}

unfoldable pub fields_of : Form → List ℕ → Fields
fields_of F h = in_order (unpack (widths F) (number (body_size F) h 0)) (number 1 h (body_size F))

-- ---- its own refusals

-- what bytes can be refused for as a header in a switch of n queues, with what is asked of their size before, of the source and of how many
-- they are in between (paper 02, Q-6: 20 and 19)
abbrev pub header_rules : Form → ℕ → Rule → List Rule → List Rule → List ℕ → List Rule
header_rules F n size source count h =
    size
    ∷ refuse 7 (not (eqb (fields_of F h).check (crc8 (take (body_size F) h))))
    ∷ refuse 20 (not (eqb (fields_of F h).reserved 0))
    ∷ (source ++ (
    refuse 9 (ltb (fields_of F h).len (least_length F))
    ∷ (count ++ (refuse 19 (leb n (fields_of F h).queue) ∷ []))
    ))

-- a header alone has its form's size
abbrev pub other_length : Form → List ℕ → Bool
other_length F h = not (eqb (length h) (header_size F))

-- of a header that arrives nowhere neither its source nor a packet behind it is asked
abbrev pub read_rules : Form → ℕ → List ℕ → List Rule
read_rules F n h = header_rules F n (refuse 6 (other_length F h)) [] [] h

-- ---- what arrives (paper 02, Q-1)

-- a header alone; or a whole packet, for which so many bytes of packet memory are lent
pub data Load : Type 0 where
  alone : List ℕ → Load
  whole : ℕ → List ℕ → Load

-- its bytes: `fields_of` reads the first of them, which of a packet are its header, and no more (`fields_front`)
abbrev pub bytes_in : Load → List ℕ
bytes_in (alone h) = h
bytes_in (whole n b) = b

-- 16 for a packet of fewer bytes than a header has "takes the place of 6"
abbrev pub size_number : Load → ℕ
size_number (alone h) = 6
size_number (whole n b) = 16

abbrev pub missized : Form → Load → Bool
missized F (alone h) = other_length F h
missized F (whole n b) = ltb (length b) (header_size F)

-- "except that the count against the length is made after 9"
abbrev pub miscounted : Form → Load → Bool
miscounted F (alone h) = false
miscounted F (whole n b) = not (eqb (length b) (fields_of F b).len)

-- at port p its source is asked to be that port
abbrev pub arrival_rules : Form → ℕ → ℕ → Load → List Rule
arrival_rules F n p h =
    header_rules F n (refuse (size_number h) (missized F h)) (refuse 8 (not (eqb (fields_of F (bytes_in h)).source p)) ∷ [])
    (refuse 16 (miscounted F h) ∷ [])
    (bytes_in h)

-- ---- the price

-- the price (paper 02, Q-3), of a beat, a queue and a length: queue 0 is free; else the length divided by the beat, rounded up
unfoldable pub price : ℕ → ℕ → ℕ → ℕ
price beat zero len = 0
price beat (suc q) len = (len + (beat - 1)) / beat
