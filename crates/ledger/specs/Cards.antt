-- Paper 01, "Bench cards": the starred cards, the cases of paper 02, Q-1, Q-3, Q-5, Q-6, Q-7, Q-9, Q-12 and Q-13, and packets that cross
-- from port to port: a single table. The claim that they hold is that of proofs/Cards.antt. Assumes nothing.
use Rattle.std.specs.Prelude.{◌≡◌, List, [], ◌∷◌, ◌++◌, map, ℕ, zero, suc, ◌+◌, ◌-◌, ◌*◌, ◌/◌, ◌%◌, ◌^◌, length, drop}
use Rattle.crc.specs.Crc.{crc8}
use Rattle.ledger.specs.Settings.{Settings, ten_bytes, wide, settings, size}
use Rattle.ledger.specs.Header.{alone, whole}
use Rattle.ledger.specs.Ledger.{Packet, free, ingress, egress, prefetched, Ledger, buckets, put_in, start}
use Rattle.ledger.specs.Calls.{arrive, stitch, prefetch, credit, map_to, turn, ready, where_is, inside, outside, Reply, refused, done, entry}
use Rattle.ledger.specs.Buckets.{untimed, at, stop, bucket#}
use Rattle.ledger.specs.Calls.{clear, report, bucket, show, stitched, idle, leaves, word, found, reported, counted, part}
use Rattle.ledger.specs.Desk.{none, has, Call, setup, act, replies, after}
use Rattle.ledger.specs.Rounds.{round_reply, answers_in, round, done_by, turn_answers}

-- the nine bytes before the checksum, timestamp and transaction 0; flags: 2 poisoned, 1 the reserved bit
abbrev pub nine : ℕ → ℕ → ℕ → ℕ → ℕ → List ℕ
nine dest source queue len flags =
    (dest * 64 + source * 16 + queue / 2) ∷ (queue % 2 * 128 + len / 64) ∷ (len % 64 * 4 + flags) ∷ 0 ∷ 0 ∷ 0 ∷ 0 ∷ 0 ∷ 0 ∷ []

abbrev pub sealed : List ℕ → List ℕ
sealed bs = bs ++ (crc8 bs ∷ [])

-- a header of these fields, with no flags and its checksum
abbrev pub header : ℕ → ℕ → ℕ → ℕ → List ℕ
header dest source queue len = sealed (nine dest source queue len 0)

abbrev pub zeros : ℕ → List ℕ
zeros zero = []
zeros (suc n) = 0 ∷ zeros n

-- a setup of the ten-byte edition
abbrev pub set_up : ℕ → ℕ → ℕ → ℕ → Call
set_up N b D K = setup (settings N b D K)

-- a header arrives
abbrev pub arrives : ℕ → List ℕ → Call
arrives p h = act (arrive p (alone h))

-- a packet of queue q and this length at port 0, brought into the prefetch slots of port 0
abbrev pub brought : ℕ → ℕ → List Call
brought q len = arrives 0 (header 0 0 q len) ∷ act (stitch 0) ∷ act (prefetch 0 q) ∷ []

-- two of the least length, so that the queue stays ready when one leaves, and credit for both
abbrev pub twice : ℕ → List Call
twice q = brought q 12 ++ (brought q 12 ++ (act (credit 0 q 9) ∷ []))

-- the same for n queues from q on
abbrev pub all_twice : ℕ → ℕ → List Call
all_twice q zero = []
all_twice q (suc n) = twice q ++ all_twice (suc q) n

-- n turns of port 0, and which queues are ready after each
abbrev pub turns : ℕ → List Call
turns zero = []
turns (suc n) = act (turn untimed 0) ∷ act (ready 0) ∷ turns n

-- the queue by which a packet leaves, the ready word, or what a bucket holds; 100 for any other reply
abbrev pub seen : Reply → ℕ
seen (refused n) = 100
seen done = 100
seen (entry x) = 100
seen (stitched b) = 100
seen idle = 100
seen (leaves k s) = k.queue
seen (word w n) = w
seen (found v i) = 100
seen (reported n) = 100
seen (counted n) = n
seen (part x n) = 100

-- A memory of zero bytes, which is no switch state, is called so. A card says how many bytes are lent and what the replies are;
-- or, with 65,536 lent and after so many replies, by which queues packets leave, which queues are ready then and what buckets hold;
-- or, after calls, what a round into a room answers and leaves in it;
-- or, from a ledger to which no calls lead in a lifetime, what the replies are.
pub data Card : Type 0 where
  lent : ℕ → List Call → List Reply → Card
  serves : List Call → ℕ → List ℕ → Card
  rounds : List Call → List ℕ → Reply → List ℕ → Card
  from : Settings → Ledger → List Call → List Reply → Card

-- 65,536 bytes are lent
abbrev pub says : List Call → List Reply → Card
says = lent 65536

abbrev pub Holds : Card → Type 0
Holds (lent bytes calls rs) = replies bytes none calls ≡ rs
Holds (serves calls before qs) = map seen (drop before (replies 65536 none calls)) ≡ qs
Holds (rounds calls room reply told) =
    let D = after 65536 none calls in
    let cs = (done_by D (round (length room))).calls in
    ◌≡◌ {A = Reply × List ℕ} (round_reply D (length room), answers_in (turn_answers cs (replies 65536 D cs)) room) (reply, told)
Holds (from S L calls rs) = replies 65536 (has S L) calls ≡ rs

abbrev pub twelve : List ℕ
twelve = 0 ∷ 0 ∷ 0x30 ∷ 0 ∷ 0 ∷ 0 ∷ 0 ∷ 0 ∷ 0 ∷ 0x72 ∷ []

abbrev pub spoilt : List ℕ
spoilt = 0 ∷ 0 ∷ 0x30 ∷ 0 ∷ 0 ∷ 0 ∷ 0 ∷ 0 ∷ 0 ∷ 0x73 ∷ []

-- destination 1, source 2, queue 23, length 8191, flags 0
abbrev pub full : List ℕ
full = sealed (0x6B ∷ 0xFF ∷ 0xFC ∷ 0 ∷ 0 ∷ 0 ∷ 0 ∷ 0 ∷ 0 ∷ [])

abbrev pub full_record : Reply
full_record = stitched (0x10 ∷ 0 ∷ 0x1F ∷ 0xFF ∷ 23 ∷ 0 ∷ 0 ∷ 0 ∷ 0 ∷ 0 ∷ [])

abbrev pub twelve_record : Reply
twelve_record = stitched (0 ∷ 0 ∷ 0 ∷ 0x0C ∷ 0 ∷ 0 ∷ 0 ∷ 0 ∷ 0 ∷ 0 ∷ [])

-- the packet of node 0 of this queue, length and price, and its record
abbrev pub plain : ℕ → ℕ → ℕ → Packet
plain q len n = record { node = 0; len = len; queue = q; dest = 0; stamp = 0; poisoned = 0; transaction = 0; price = n }

abbrev pub plain_record : ℕ → ℕ → Reply
plain_record q len = stitched (0 ∷ 0 ∷ len / 256 ∷ len % 256 ∷ q ∷ 0 ∷ 0 ∷ 0 ∷ 0 ∷ 0 ∷ [])

-- At beat 64 a packet of this length costs n beats in queue 1: refused where K is one less, taken in where K is n;
-- idle where outward credit is one less, and it leaves with n.
abbrev pub costs : ℕ → ℕ → Card
costs len n =
    says (set_up 1 64 1 (n - 1) ∷ arrives 0 (header 0 0 1 len) ∷ set_up 1 64 1 n ∷ (brought 1 len
    ++ (act (credit 0 1 (n - 1)) ∷ act (turn untimed 0) ∷ act (credit 0 1 1) ∷ act (turn untimed 0) ∷ [])))
    (done ∷ refused 10 ∷ done ∷ entry 0 ∷ plain_record 1 len ∷ entry 0
    ∷ done ∷ idle ∷ done ∷ leaves (plain 1 len n) outside ∷ [])

-- Every fault at once, then one less each time: the first that is left decides. Queue q is one that the switch doesn't have, the only
-- node is taken, and K is 0. (From the 7 on port 0 is halted, so 10 has two reasons; 10 by credit alone is among `unhalting`.)
abbrev pub one_by_one : ℕ → Card
one_by_one q =
    says (set_up 1 64 1 0 ∷ arrives 0 twelve
    ∷ arrives 4 (nine 0 1 q 11 1)
    ∷ arrives 0 (nine 0 1 q 11 1)
    ∷ arrives 0 (nine 0 1 q 11 1 ++ (0 ∷ []))
    ∷ arrives 0 (sealed (nine 0 1 q 11 1))
    ∷ arrives 0 (sealed (nine 0 1 q 11 0))
    ∷ arrives 0 (sealed (nine 0 0 q 11 0))
    ∷ arrives 0 (sealed (nine 0 0 q 12 0))
    ∷ arrives 0 (sealed (nine 0 0 23 12 0))
    ∷ arrives 0 (sealed (nine 0 0 0 12 0)) ∷ [])
    (done ∷ entry 0 ∷ refused 4 ∷ refused 6 ∷ refused 7 ∷ refused 20 ∷ refused 8 ∷ refused 9 ∷ refused 19 ∷ refused 10 ∷ refused 11 ∷ [])

-- destination 3, source 1, queue 5, length 100, poisoned; timestamp 0x01020304, 9 credits on offer, transaction 171
abbrev pub across : List ℕ
across = sealed (0xD2 ∷ 0x81 ∷ 0x92 ∷ 1 ∷ 2 ∷ 3 ∷ 4 ∷ 9 ∷ 171 ∷ [])

-- node x with all that it records
abbrev pub crossed : ℕ → Packet
crossed x = record { node = x; len = 100; queue = 5; dest = 3; stamp = 0x01020304; poisoned = 1; transaction = 171; price = 2 }

-- Two such packets and a free one come in at port 1 and leave by port 2, which destination 3 is mapped to. No port, queue, position, count
-- or field in the answers is 0 where another number is right.
abbrev pub crossing : Card
crossing =
    says (set_up 4 64 2 200 ∷ act (map_to 3 2) ∷ arrives 1 across ∷ arrives 1 across ∷ act (where_is 2049) ∷ act (where_is 2051)
    ∷ act (stitch 1) ∷ act (stitch 1) ∷ act (where_is 2049) ∷ act (prefetch 2 5) ∷ act (prefetch 2 5) ∷ act (where_is 2049) ∷ act (ready 2)
    ∷ arrives 1 (header 3 1 0 12) ∷ act (stitch 1) ∷ act (prefetch 2 0) ∷ act (credit 2 5 3) ∷ act (ready 2) ∷ act (ready 1)
    ∷ act (turn untimed 2) ∷ act (turn untimed 2) ∷ act (ready 2) ∷ act (turn untimed 2) ∷ act (where_is 2048) ∷ [])
    (done ∷ done ∷ entry 2048 ∷ entry 2049 ∷ found (ingress 1) 1 ∷ found (free 1) 1
    ∷ stitched (8 ∷ 0 ∷ 0 ∷ 100 ∷ 5 ∷ 2 ∷ 1 ∷ 2 ∷ 3 ∷ 4 ∷ []) ∷ stitched (8 ∷ 1 ∷ 0 ∷ 100 ∷ 5 ∷ 2 ∷ 1 ∷ 2 ∷ 3 ∷ 4 ∷ [])
    ∷ found (egress 2 5) 1 ∷ entry 2048 ∷ entry 2049 ∷ found (prefetched 2 5) 1 ∷ word 0 0
    ∷ entry 2050 ∷ stitched (8 ∷ 2 ∷ 0 ∷ 12 ∷ 0 ∷ 2 ∷ 0 ∷ 0 ∷ 0 ∷ 0 ∷ []) ∷ entry 2050 ∷ done ∷ word 33 2 ∷ word 0 0
    ∷ leaves (record { node = 2050; len = 12; queue = 0; dest = 3; stamp = 0; poisoned = 0; transaction = 0; price = 0 }) inside
    ∷ leaves (crossed 2048) outside ∷ word 0 0 ∷ idle ∷ found (free 1) 2 ∷ [])

-- a setup of a wide switch of these ports, queues and nodes, beat 64, D 2 and this K
abbrev pub set_up_wide : ℕ → ℕ → ℕ → ℕ → Call
set_up_wide p q n k = setup (record { ports = p; queues = q; nodes = n; beat = 64; slots = 2; credit = k; edition = wide; packets = 0 })

-- the rows of ports, queues, edition and packets; the map's last id, and the first that it hasn't
abbrev pub wide_rows : Card
wide_rows =
    lent 900000 (set_up_wide 1 2 1 0 ∷ set_up_wide 33 2 1 0 ∷ set_up_wide 2 1 1 0 ∷ set_up_wide 2 65 1 0 ∷ set_up_wide 2 2 1 0 ∷ act (map_to 4095 1) ∷ act
    (map_to 4096 1)
    ∷ set_up_wide 32 64 1 0
    ∷ setup (record { ports = 5; queues = 24; nodes = 1; beat = 64; slots = 2; credit = 0; edition = ten_bytes; packets = 0 })
    ∷ setup (record { ports = 4; queues = 24; nodes = 1; beat = 64; slots = 2; credit = 0; edition = 2; packets = 0 })
    ∷ setup (record { ports = 4; queues = 24; nodes = 1; beat = 64; slots = 2; credit = 0; edition = wide; packets = 1 }) ∷ [])
    (refused 2 ∷ refused 2 ∷ refused 2 ∷ refused 2 ∷ done ∷ done ∷ refused 15 ∷ done ∷ refused 2 ∷ refused 2 ∷ refused 2 ∷ [])

-- a wide header of five ports and 17 queues, which take 3 bits and 5: the front of four bytes with seven zeros to spare, then the timestamp,
-- two bytes of credit on offer and the transaction; flags: 128 poisoned, below it the reserved bits
abbrev pub wide_header : ℕ → ℕ → ℕ → ℕ → ℕ → List ℕ
wide_header dest source queue len flags =
    sealed ((dest * 32 + source * 4 + queue / 8) ∷ (queue % 8 * 32 + len / 256) ∷ len % 256 ∷ flags ∷ 1 ∷ 2 ∷ 3 ∷ 4 ∷ 5 ∷ 6 ∷ 171 ∷ [])

-- Such headers at the desk: ten bytes, a reserved bit, a source that is no port, a length one under the least and a queue that the switch
-- doesn't have are refused; one of the last queue, from the last port and of the least length, crosses with all its fields once the halt
-- for the source is cleared.
abbrev pub wide_arrivals : Card
wide_arrivals =
    says (set_up_wide 5 17 1 1 ∷ act (map_to 7 3) ∷ arrives 4 twelve ∷ arrives 4 (wide_header 7 4 16 14 129)
    ∷ arrives 4 (wide_header 7 7 16 14 128) ∷ arrives 4 (wide_header 7 4 16 13 128) ∷ arrives 4 (wide_header 7 4 17 14 128)
    ∷ act (clear 4) ∷ arrives 4 (wide_header 7 4 16 14 128) ∷ act (stitch 4) ∷ act (prefetch 3 16) ∷ act (credit 3 16 1) ∷ act (turn untimed 3) ∷ [])
    (done ∷ done ∷ refused 6 ∷ refused 20 ∷ refused 8 ∷ refused 9 ∷ refused 19
    ∷ done ∷ entry 8192 ∷ stitched (32 ∷ 0 ∷ 0 ∷ 14 ∷ 16 ∷ 3 ∷ 1 ∷ 2 ∷ 3 ∷ 4 ∷ []) ∷ entry 8192 ∷ done
    ∷ leaves (record { node = 8192; len = 14; queue = 16; dest = 7; stamp = 0x01020304; poisoned = 1; transaction = 171; price = 1 }) outside ∷ [])

-- A bad checksum at port 1 halts it: queue 1 is refused 10 with all credit in hand, queue 0 is taken in. A second fault, another port's
-- source, keeps the first mark, and that port isn't marked and goes on. Cleared, queue 1 is taken in, and a source marks.
abbrev pub halting : Card
halting =
    says (set_up 4 64 1 16 ∷ act (report 1) ∷ arrives 1 spoilt ∷ act (report 1) ∷ arrives 1 (header 0 1 1 12) ∷ arrives 1 (header 0 1 0 12)
    ∷ arrives 1 (header 0 2 1 12) ∷ act (report 1) ∷ act (report 2) ∷ arrives 2 (header 0 2 1 12)
    ∷ act (clear 1) ∷ act (report 1) ∷ arrives 1 (header 0 1 1 12) ∷ arrives 1 (header 0 2 1 12) ∷ act (report 1) ∷ act (clear 0) ∷ act (report 1)
    ∷ set_up 4 64 1 16 ∷ act (report 1) ∷ [])
    (done ∷ reported 0 ∷ refused 7 ∷ reported 7 ∷ refused 10 ∷ entry 2048
    ∷ refused 8 ∷ reported 7 ∷ reported 0 ∷ entry 4096
    ∷ done ∷ reported 0 ∷ entry 2049 ∷ refused 8 ∷ reported 8 ∷ done ∷ reported 8
    ∷ done ∷ reported 0 ∷ [])

-- No other refusal of an arrival halts: 4, 6, 20, 9, 19, 10 and 11. Clear and report know the ports that there are, and a state.
abbrev pub unhalting : Card
unhalting =
    says (act (clear 0) ∷ act (report 0) ∷ set_up 1 64 1 0 ∷ act (clear 4) ∷ act (report 4) ∷ arrives 4 spoilt ∷ arrives 3 [] ∷ act (report 3)
    ∷ arrives 3 (sealed (nine 0 3 1 12 1)) ∷ arrives 3 (header 0 3 1 11) ∷ arrives 3 (header 0 3 24 12) ∷ arrives 3 (header 0 3 1 12)
    ∷ arrives 3 (header 0 3 0 12) ∷ arrives 3 (header 0 3 0 12) ∷ act (report 3) ∷ act (report 0) ∷ [])
    (refused 3 ∷ refused 3 ∷ done ∷ refused 4 ∷ refused 4 ∷ refused 4 ∷ refused 6 ∷ reported 0
    ∷ refused 20 ∷ refused 9 ∷ refused 19 ∷ refused 10
    ∷ entry 6144 ∷ refused 11 ∷ reported 0 ∷ reported 0 ∷ [])

-- A halted port sends, and what it has taken in leaves: its turn, stitch and prefetch go on, with the packets of its halted queues.
abbrev pub halted_sends : Card
halted_sends =
    says (set_up 4 64 1 16 ∷ (brought 1 12 ++ (arrives 0 (header 0 0 1 12) ∷ act (credit 0 1 1) ∷ arrives 0 spoilt ∷ act (turn untimed 0)
    ∷ act (stitch 0) ∷ act (prefetch 0 1) ∷ act (ready 0) ∷ arrives 0 (header 0 0 1 12) ∷ [])))
    (done ∷ entry 0 ∷ plain_record 1 12 ∷ entry 0 ∷ entry 1 ∷ done ∷ refused 7 ∷ leaves (plain 1 12 1) outside
    ∷ stitched (0 ∷ 1 ∷ 0 ∷ 12 ∷ 1 ∷ 0 ∷ 0 ∷ 0 ∷ 0 ∷ 0 ∷ []) ∷ entry 1 ∷ word 0 0 ∷ refused 10 ∷ [])

-- a packet of queue 0 with this timestamp comes in at port r, and a turn of port 0 at this time sends it
abbrev pub sent_at : ℕ → ℕ → ℕ → List Call
sent_at r stamp time =
    let h = sealed (r * 16 ∷ 0 ∷ 0x30 ∷ stamp / 2 ^ 24 ∷ stamp / 2 ^ 16 % 256 ∷ stamp / 2 ^ 8 % 256 ∷ stamp % 256 ∷ 0 ∷ 0 ∷ []) in
    arrives r h ∷ act (stitch r) ∷ act (prefetch 0 0) ∷ act (turn (at time) 0) ∷ []

-- what these buckets of port p hold
abbrev pub read : ℕ → List ℕ → List Call
read p bs = map (λ b. act (bucket p b)) bs

-- Waits of 0, 1, 2, 3, 2 ^ 31 and 2 ^ 32 - 1, then 11 by a clock that passed its end: each in the bucket of its highest bit, at the port that
-- took the turn, wherever the packet came in. A turn that is not timed and a timed one that is idle count nothing. Setup clears.
abbrev pub waits : List Call
waits =
    set_up 2 64 1 0
    ∷ (sent_at 0 0 0 ++ (sent_at 0 0 1 ++ (sent_at 0 0 2 ++ (sent_at 1 7 10 ++ (sent_at 0 0 2147483648 ++ (sent_at 0 1 0 ++ (sent_at 0 4294967290 5
    ++ (brought 0 12 ++ (act (turn untimed 0) ∷ act (turn (at 5) 0) ∷ [])))))))))

abbrev pub counting : Card
counting =
    serves (waits ++ (read 0 (0 ∷ 1 ∷ 2 ∷ 3 ∷ 4 ∷ 5 ∷ 31 ∷ 32 ∷ []) ++ (read 1 (0 ∷ 1 ∷ 32 ∷ []) ++ (set_up 2 64 1 0 ∷ read 0 (0 ∷ 2 ∷ 32 ∷ []))))) 34
    (1 ∷ 1 ∷ 2 ∷ 0 ∷ 1 ∷ 0 ∷ 0 ∷ 2 ∷ 0 ∷ 0 ∷ 0 ∷ 100 ∷ 0 ∷ 0 ∷ 0 ∷ [])

-- A timed turn answers as a turn, idle or not, and is refused as one. A bucket is read at a state, of a port and below 33, in that order.
abbrev pub telling : Card
telling =
    says (act (turn (at 9) 0) ∷ act (bucket 0 0) ∷ set_up 1 64 1 1 ∷ act (turn (at 9) 4) ∷ act (turn (at 9) 3) ∷ (brought 1 12
    ++ (act (turn (at 9) 0) ∷ act (credit 0 1 1) ∷ act (turn (at 9) 0) ∷ act (bucket 0 4) ∷ act (bucket 4 33) ∷ act (bucket 3 33) ∷ act (bucket 3 32) ∷ [])))
    (refused 3 ∷ refused 3 ∷ done ∷ refused 4 ∷ idle ∷ entry 0 ∷ plain_record 1 12 ∷ entry 0
    ∷ idle ∷ done ∷ leaves (plain 1 12 1) outside ∷ counted 1 ∷ refused 4 ∷ refused 5 ∷ counted 0 ∷ [])

-- Bucket 0 of port 0 two below its stop, and three packets that wait for nothing.
abbrev pub stopping : Card
stopping =
    let S = settings 1 64 1 0 in
    let sent = leaves (plain 0 12 0) inside in
    from S (put_in buckets (bucket# 0 0) (stop - 2) (start S))
    (sent_at 0 0 0 ++ (read 0 (0 ∷ []) ++ (sent_at 0 0 0 ++ (read 0 (0 ∷ []) ++ (sent_at 0 0 0 ++ read 0 (0 ∷ 1 ∷ []))))))
    (entry 0 ∷ twelve_record ∷ entry 0 ∷ sent ∷ counted 4294967294 ∷ entry 0 ∷ twelve_record ∷ entry 0 ∷ sent ∷ counted 4294967295
    ∷ entry 0 ∷ twelve_record ∷ entry 0 ∷ sent ∷ counted 4294967295 ∷ counted 0 ∷ [])

-- a setup of a state that keeps packets
abbrev pub set_up_keeping : ℕ → ℕ → ℕ → Call
set_up_keeping N K packets =
    setup (record { ports = 4; queues = 24; nodes = N; beat = 64; slots = 1; credit = K; edition = ten_bytes; packets = packets })

-- a whole packet arrives, a header and so many bytes behind it, with a packet memory of n bytes
abbrev pub lands : ℕ → ℕ → List ℕ → ℕ → Call
lands n p h more = act (arrive p (whole n (h ++ zeros more)))

-- the oldest of the slots is asked for, with memories of n bytes, but the last, of m
abbrev pub shows : ℕ → ℕ → ℕ → ℕ → Call
shows n m p q = act (show (n ∷ n ∷ n ∷ m ∷ []) p q)

-- An arrival of the other kind is refused 24, right after 3, whatever else is wrong; then 17, 4, 16, 7, 20, 8, 9, 16, 19, 10 and 11, each
-- with what comes behind it wrong too.
abbrev pub landing : Card
landing =
    says (lands 0 4 [] 0 ∷ set_up_keeping 2 1 2 ∷ set_up 1 64 1 1 ∷ lands 0 4 [] 0 ∷ set_up_keeping 1 1 1 ∷ arrives 4 twelve
    ∷ lands 8191 4 [] 0 ∷ lands 8192 4 [] 0 ∷ lands 8192 0 (nine 0 1 24 11 1) 0
    ∷ lands 8192 0 (nine 0 1 24 11 1) 1 ∷ act (report 0) ∷ act (clear 0)
    ∷ lands 8192 0 (sealed (nine 0 1 24 11 1)) 0 ∷ lands 8192 0 (sealed (nine 0 1 24 11 0)) 0 ∷ act (report 0) ∷ act (clear 0)
    ∷ lands 8192 0 (header 0 0 24 11) 0 ∷ lands 8192 0 (header 0 0 24 65) 54 ∷ lands 8192 0 (header 0 0 24 65) 56
    ∷ lands 8192 0 (header 0 0 24 65) 55 ∷ lands 8192 0 (header 0 0 23 65) 55
    ∷ lands 8192 0 (header 0 0 0 12) 2 ∷ lands 8192 0 (header 0 0 0 12) 2 ∷ [])
    (refused 3 ∷ refused 2 ∷ done ∷ refused 24 ∷ done ∷ refused 24 ∷ refused 17 ∷ refused 4 ∷ refused 16
    ∷ refused 7 ∷ reported 7 ∷ done ∷ refused 20 ∷ refused 8 ∷ reported 8 ∷ done
    ∷ refused 9 ∷ refused 16 ∷ refused 16 ∷ refused 19 ∷ refused 10 ∷ entry 0 ∷ refused 11 ∷ [])

-- A packet from port 1 waits at port 2: what is shown there is the first 65 bytes of its node's slot, in the owner's memory.
abbrev pub showing : Card
showing =
    says (shows 0 0 4 24 ∷ set_up 2 64 1 9 ∷ shows 0 0 4 24 ∷ set_up_keeping 2 9 1 ∷ shows 16384 16383 4 24 ∷ shows 16385 16384 4 24 ∷ shows 16384 16384 4 24
    ∷ shows 16384 16384 2 24 ∷ act (map_to 0 2) ∷ lands 16384 1 (header 0 1 0 12) 2 ∷ lands 16384 1 (header 0 1 5 65) 55 ∷ act (stitch 1) ∷ act (stitch 1)
    ∷ shows 16384 16384 2 5 ∷ act (prefetch 2 5) ∷ shows 16384 16384 2 5 ∷ shows 16384 16384 1 5 ∷ act (credit 2 5 2) ∷ act (turn untimed 2)
    ∷ shows 16384 16384 2 5 ∷ [])
    (refused 3 ∷ done ∷ refused 24 ∷ done ∷ refused 17 ∷ refused 17 ∷ refused 4
    ∷ refused 5 ∷ done ∷ entry 2048 ∷ entry 2049 ∷ stitched (8 ∷ 0 ∷ 0 ∷ 12 ∷ 0 ∷ 2 ∷ 0 ∷ 0 ∷ 0 ∷ 0 ∷ [])
    ∷ stitched (8 ∷ 1 ∷ 0 ∷ 65 ∷ 5 ∷ 2 ∷ 0 ∷ 0 ∷ 0 ∷ 0 ∷ [])
    ∷ refused 12 ∷ entry 2049 ∷ part 2049 65 ∷ refused 12 ∷ done
    ∷ leaves (record { node = 2049; len = 65; queue = 5; dest = 0; stamp = 0; poisoned = 0; transaction = 0; price = 2 }) outside
    ∷ refused 12 ∷ [])

-- before a round: one of queue 0 has come in at port 0, two of queue 5 for port 2 at port 1, with outward credit for one of them, and one of
-- the last queue for port 3 at port 2
abbrev pub waiting : List Call
waiting =
    set_up 4 64 2 200 ∷ act (map_to 3 2) ∷ act (map_to 1 3) ∷ arrives 0 twelve ∷ arrives 1 across ∷ arrives 1 across
    ∷ arrives 2 full ∷ act (credit 2 5 3) ∷ act (credit 3 23 128) ∷ []

-- then all but port 1, which has nothing, send a packet
abbrev pub sixteen : List ℕ
sixteen = 0 ∷ 0 ∷ 0 ∷ 0 ∷ 0 ∷ 1 ∷ 0 ∷ 0 ∷ 0 ∷ 0 ∷ 8 ∷ 0 ∷ 0 ∷ 0 ∷ 16 ∷ 0 ∷ []

abbrev pub cards : List Card
cards =
    says (set_up 1 64 1 16 ∷ arrives 0 (zeros 10) ∷ arrives 1 (zeros 10) ∷ [])
    (done ∷ refused 9 ∷ refused 8 ∷ [])
    ∷ says (set_up 1 64 1 16 ∷ arrives 0 twelve ∷ act (stitch 0) ∷ arrives 0 spoilt ∷ [])
    (done ∷ entry 0 ∷ twelve_record ∷ refused 7 ∷ [])
    ∷ says (set_up 1 64 1 200 ∷ arrives 2 full ∷ act (stitch 2) ∷ act (prefetch 0 23) ∷ act (turn untimed 0) ∷ act (credit 0 23 128) ∷ act (turn untimed 0)
    ∷ arrives 2 full ∷ act (stitch 2) ∷ act (prefetch 0 23) ∷ act (turn untimed 0) ∷ [])
    (done ∷ entry 4096 ∷ full_record ∷ entry 4096 ∷ idle ∷ done
    ∷ leaves (record { node = 4096; len = 8191; queue = 23; dest = 1; stamp = 0; poisoned = 0; transaction = 0; price = 128 }) outside
    ∷ entry 4096 ∷ full_record ∷ entry 4096 ∷ idle ∷ [])
    ∷ says (set_up 1 64 1 16 ∷ arrives 0 twelve ∷ arrives 0 twelve ∷ act (stitch 0) ∷ act (prefetch 0 0) ∷ act (turn untimed 0)
    ∷ arrives 0 twelve ∷ [])
    (done ∷ entry 0 ∷ refused 11 ∷ twelve_record ∷ entry 0 ∷ leaves (plain 0 12 0) inside ∷ entry 0 ∷ [])
    ∷ says (set_up 1 64 1 0 ∷ act (credit 0 1 65535) ∷ act (credit 0 1 0) ∷ act (credit 0 1 1) ∷ [])
    (done ∷ done ∷ done ∷ refused 14 ∷ [])
    ∷ says (set_up 256 64 1 0 ∷ set_up 0 64 1 0 ∷ set_up 2049 64 1 0 ∷ set_up 1133 64 1 0 ∷ set_up 1134 64 1 0 ∷ set_up 2048 64 1 0 ∷ [])
    (done ∷ refused 2 ∷ refused 2 ∷ done ∷ refused 1 ∷ refused 1 ∷ [])
    ∷ lent (size (settings 2048 64 1 0) - 1) (set_up 2048 64 1 0 ∷ []) (refused 1 ∷ [])
    ∷ lent (size (settings 2048 64 1 0))
    (set_up 2048 64 1 0 ∷ act (where_is 8191) ∷ act (where_is 8192) ∷ arrives 3 (header 0 3 0 12) ∷ act (where_is 8191) ∷ [])
    (done ∷ found (free 3) 2047 ∷ refused 15 ∷ entry 6144 ∷ found (free 3) 2046 ∷ [])
    ∷ says (set_up 2 64 1 16 ∷ (brought 0 12 ++ (act (prefetch 0 0) ∷ [])))
    (done ∷ entry 0 ∷ twelve_record ∷ entry 0 ∷ refused 12 ∷ [])
    ∷ serves (set_up 9 64 2 16 ∷ (brought 5 12 ++ (act (credit 0 5 9) ∷ act (turn untimed 0) ∷ (twice 2 ++ (twice 5 ++ (twice 9 ++ turns 3)))))) 27
    (9 ∷ 548 ∷ 2 ∷ 548 ∷ 5 ∷ 548 ∷ [])
    ∷ serves (set_up 49 64 2 16 ∷ (brought 5 12 ++ (act (credit 0 5 9) ∷ act (turn untimed 0) ∷ (all_twice 0 24 ++ turns 24)))) 220 (5 ∷ 16777215 ∷ [])
    ∷ costs 12 1 ∷ costs 64 1 ∷ costs 65 2 ∷ costs 76 2 ∷ costs 8191 128
    ∷ says (set_up 1 64 1 0 ∷ (brought 0 8191 ++ (act (turn untimed 0) ∷ [])))
    (done ∷ entry 0 ∷ plain_record 0 8191 ∷ entry 0 ∷ leaves (plain 0 8191 0) inside ∷ [])
    ∷ says (set_up 1 64 1 1 ∷ arrives 0 (sealed (nine 0 0 23 12 1)) ∷ arrives 0 (header 0 0 24 12)
    ∷ arrives 0 (header 0 0 31 12) ∷ arrives 0 (sealed (nine 0 0 23 12 2)) ∷ [])
    (done ∷ refused 20 ∷ refused 19 ∷ refused 19 ∷ entry 0 ∷ [])
    ∷ one_by_one 24 ∷ one_by_one 31
    ∷ crossing ∷ wide_rows ∷ wide_arrivals
    ∷ halting ∷ unhalting ∷ halted_sends
    ∷ counting ∷ telling ∷ stopping
    ∷ landing ∷ showing
    ∷ rounds [] (zeros 15) (refused 3) (zeros 15)
    ∷ rounds (set_up 2 64 1 0 ∷ arrives 1 (header 0 1 0 12) ∷ arrives 0 twelve ∷ []) (zeros 16) done
    (0 ∷ 0 ∷ 0 ∷ 0 ∷ 0 ∷ 1 ∷ 0 ∷ 0 ∷ 0 ∷ 1 ∷ 0 ∷ 0 ∷ 0 ∷ 1 ∷ 0 ∷ 0 ∷ [])
    ∷ rounds waiting (zeros 15) (refused 27) (zeros 15)
    ∷ rounds waiting (zeros 16) done sixteen
    ∷ rounds waiting (zeros 16 ++ (7 ∷ 7 ∷ [])) done (sixteen ++ (7 ∷ 7 ∷ []))
    ∷ []
