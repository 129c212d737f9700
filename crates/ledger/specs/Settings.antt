-- Paper 01, "What the switch has", and paper 02, Q-7: the settings, which values each may have, and the bytes that a state of such settings
-- takes. Ports and queues are settings like the others: how many there may be, `in_row` alone knows, and `settings` how many go with
-- the ten-byte header. Assumes nothing.
use Rattle.std.specs.Prelude.{Bool, true, cond, not, ◌&&◌, ℕ, zero, suc, ◌+◌, ◌-◌, ◌*◌, eqb, leb}
use Rattle.std.specs.Int.Count.{ones}

pub record Settings : Type 0 where
  pub ports : ℕ
  pub queues : ℕ
  pub nodes : ℕ
  pub beat : ℕ
  pub slots : ℕ
  pub credit : ℕ
  pub edition : ℕ
  pub packets : ℕ

-- the editions of the header: ten bytes, which four ports of 24 queues have, and wide, for every number of them
abbrev pub ten_bytes : ℕ
ten_bytes = 0

abbrev pub wide : ℕ
wide = 1

-- a switch of the ten-byte header by its N, beat, D and K: what the bench program sets up
abbrev pub settings : ℕ → ℕ → ℕ → ℕ → Settings
settings N b D K = record { ports = 4; queues = 24; nodes = N; beat = b; slots = D; credit = K; edition = ten_bytes; packets = 0 }

-- "Within 64 to 512, a beat size has a single one among its bits; nothing else is a beat."
unfoldable pub is_beat : ℕ → Bool
is_beat b = leb 64 b && (leb b 512 && eqb (ones b) 1)

-- ports and queues by edition: "2 to 32 ports and 2 to 64 queues"; the ten-byte one "needs 4 ports and 24 queues" (paper 02, Q-7)
unfoldable pub ports_in : ℕ → ℕ → Bool
ports_in e p = cond (eqb e ten_bytes) (eqb p 4) (leb 2 p && leb p 32)

unfoldable pub queues_in : ℕ → ℕ → Bool
queues_in e q = cond (eqb e ten_bytes) (eqb q 24) (leb 2 q && leb q 64)

-- whether packets are kept, which 1 says (paper 02, Q-1): the ten-byte edition goes "alone with packets"
unfoldable pub packets_in : ℕ → ℕ → Bool
packets_in e k = cond (eqb e ten_bytes) (leb k 1) (eqb k 0)

-- how many settings there are
abbrev pub setting_count : ℕ
setting_count = 8

-- setting i, in the order in which a memory has them, is in its row of the table; N reaches 2,048, the most that an entry id allows
-- (paper 02, Q-5)
abbrev pub in_row : Settings → ℕ → Bool
in_row S zero = ports_in S.edition S.ports
in_row S (suc zero) = queues_in S.edition S.queues
in_row S (suc (suc zero)) = leb 1 S.nodes && leb S.nodes 2048
in_row S (suc (suc (suc zero))) = is_beat S.beat
in_row S (suc (suc (suc (suc zero)))) = leb 1 S.slots && leb S.slots 8
in_row S (suc (suc (suc (suc (suc zero))))) = leb S.credit 65535
in_row S (suc (suc (suc (suc (suc (suc zero)))))) = leb S.edition wide
in_row S (suc (suc (suc (suc (suc (suc (suc i))))))) = packets_in S.edition S.packets

-- each is, of n settings from i on
abbrev pub rows_from : Settings → ℕ → ℕ → Bool
rows_from S i zero = true
rows_from S i (suc n) = in_row S i && rows_from S (suc i) n

unfoldable pub in_rows : Settings → Bool
in_rows S = rows_from S 0 setting_count

-- the first of n settings from i on that is not; the number after them where each is
abbrev pub out_from : Settings → ℕ → ℕ → ℕ
out_from S i zero = i
out_from S i (suc n) = cond (in_row S i) (out_from S (suc i) n) i

unfoldable pub first_out : Settings → ℕ
first_out S = out_from S 0 setting_count

-- entries of the map: one for each destination id (paper 02, Q-7), in every edition
abbrev pub ids : ℕ
ids = 4096

-- buckets of a port: one for a wait of 0, and one for each bit that may be a wait's highest (paper 02, Q-13)
abbrev pub bucket_count : ℕ
bucket_count = 33

-- a port's packet memory (paper 02, Q-1): "N slots of 8,192 bytes"
abbrev pub slot_bytes : ℕ
slot_bytes = 8192

unfoldable pub packet_room : Settings → ℕ
packet_room S = S.nodes * slot_bytes

-- does a switch keep packets
abbrev pub keeps_packets : Settings → Bool
keeps_packets S = not (eqb S.packets 0)

-- lists of a port: free, ingress, and for each queue egress and prefetch
unfoldable pub row : Settings → ℕ
row S = 2 + 2 * S.queues

-- the bytes of a state: settings of 2, the map, for each port the queue last served and the mark, two credits of 2 for each port and queue
-- but 0, 4 for each bucket, 8 for each list, 13 for each node
unfoldable pub size : Settings → ℕ
size S =
    2 * setting_count + ids + 2 * S.ports + 4 * (S.ports * (S.queues - 1)) + 4 * (S.ports * bucket_count) + 8 * (S.ports * row S)
    + 13 * (S.ports * S.nodes)
