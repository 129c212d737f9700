-- What each act writes, done or refused: an explicit nest of puts into the memory that it was handed. Assumes nothing.
use Rattle.std.specs.Prelude.{cond, List, ℕ, zero, suc, ◌+◌, ◌-◌, eqb}
use Rattle.ledger.specs.Settings.{Settings}
use Rattle.ledger.specs.Header.{form, fields_of, bytes_in}
use Rattle.ledger.specs.Ledger.{owner, Packet, recorded, Place, free, ingress, egress, prefetched, place#, cell, arrival_of, outward_of, last_of, map_of}
use Rattle.ledger.specs.Ready.{ready_word, pick}
use Rattle.ledger.specs.Halt.{marks}
use Rattle.ledger.specs.Buckets.{Clock, untimed, at, wait_of, bucket_of, one_more, bucket#}
use Rattle.ledger.specs.Calls.{Act, arrive, stitch, prefetch, credit, map_to, turn, ready, where_is, clear, report, bucket, show}
use Rattle.layout.specs.declared.Table.{Table}
use Rattle.layout.specs.declared.Table.TheVariants.{Mapped, Last, Halted, Arrival, Outward, Buckets, Head, Length, Stamp, Queue, Dest, Poisoned, Transaction}
use Rattle.layout.specs.declared.Table.TheVariants.{Price}
use Rattle.layout.specs.Tables.{get, put}
use Rattle.layout.specs.Picture.{slot, packet_at, ledger_in}
use Rattle.memory.specs.Ends.{pop_mem, push_mem}

-- the first node of a place's list
abbrev pub head_of : Settings → List ℕ → Place → ℕ
head_of S m v = get S m Head (place# S v)

-- memory with the first node of place v behind the last of place w
unfoldable pub move_mem : Settings → Place → Place → List ℕ → List ℕ
move_mem S v w m = push_mem S (place# S w) (head_of S m v) (pop_mem S (place# S v) m)

-- memory with all that is recorded of packet k
unfoldable pub record_mem : Settings → Packet → List ℕ → List ℕ
record_mem S k m =
    put S Price (slot S k.node) k.price
    (put S Transaction (slot S k.node) k.transaction
    (put S Poisoned (slot S k.node) k.poisoned
    (put S Dest (slot S k.node) k.dest
    (put S Queue (slot S k.node) k.queue
    (put S Stamp (slot S k.node) k.stamp
    (put S Length (slot S k.node) k.len m))))))

-- memory with credit v for port p and queue q in a table of credits; queue 0 has none
unfoldable pub credit_mem : Settings → Table → ℕ → ℕ → ℕ → List ℕ → List ℕ
credit_mem S t p zero v m = m
credit_mem S t p (suc r) v m = put S t (cell S p r) v m

-- an arrival of packet k, whose node is the first free one
unfoldable pub arrive_mem : Settings → ℕ → Packet → List ℕ → List ℕ
arrive_mem S p k m =
    credit_mem S Arrival p k.queue (arrival_of S (ledger_in S m) p k.queue - k.price)
    (push_mem S (place# S (ingress p)) k.node (record_mem S k (pop_mem S (place# S (free p)) m)))

-- packet k, the first of its queue's slots, leaves port p by queue q
unfoldable pub serve_mem : Settings → ℕ → ℕ → Packet → List ℕ → List ℕ
serve_mem S p q k m =
    put S Last p q
    (credit_mem S Outward p q (outward_of S (ledger_in S m) p q - k.price)
    (credit_mem S Arrival (owner k.node) q (arrival_of S (ledger_in S m) (owner k.node) q + k.price)
    (move_mem S (prefetched p q) (free (owner k.node)) m)))

-- the wait of packet k, which a turn of port p sends, is counted in p's buckets if the turn is timed
unfoldable pub tick_mem : Settings → Clock → ℕ → Packet → List ℕ → List ℕ
tick_mem S untimed p k m = m
tick_mem S (at time) p k m =
    let i = bucket# p (bucket_of (wait_of time k.stamp)) in
    put S Buckets i (one_more (get S m Buckets i)) m

abbrev pub turn_mem : Settings → Clock → ℕ → ℕ → List ℕ → List ℕ
turn_mem S c p w m =
    let q = pick (last_of (ledger_in S m) p) w in
    let k = packet_at S m (head_of S m (prefetched p q)) in
    cond (eqb w 0) m (tick_mem S c p k (serve_mem S p q k m))

-- each act where no refusal applies
abbrev pub write : Settings → List ℕ → Act → List ℕ
write S m (arrive p h) = arrive_mem S p (recorded S (head_of S m (free p)) (fields_of (form S) (bytes_in h))) m
write S m (stitch p) =
    let k = packet_at S m (head_of S m (ingress p)) in
    move_mem S (ingress p) (egress (map_of (ledger_in S m) k.dest) k.queue) m
write S m (prefetch p q) = move_mem S (egress p q) (prefetched p q) m
write S m (credit p q n) = credit_mem S Outward p q (outward_of S (ledger_in S m) p q + n) m
write S m (map_to d p) = put S Mapped d p m
write S m (turn c p) = turn_mem S c p (ready_word S (ledger_in S m) p) m
write S m (ready p) = m
write S m (where_is y) = m
write S m (clear p) = put S Halted p 0 m
write S m (report p) = m
write S m (bucket p b) = m
write S m (show ns p q) = m

-- memory with port p marked for refusal n, if it marks the port
unfoldable pub mark_mem : Settings → ℕ → ℕ → List ℕ → List ℕ
mark_mem S p n m = cond (marks S p (get S m Halted p) n) (put S Halted p n m) m

-- what a refusal writes: after an arrival at most the arriving port's mark, else nothing
unfoldable pub refused_mem : Settings → ℕ → Act → List ℕ → List ℕ
refused_mem S n (arrive p h) m = mark_mem S p n m
refused_mem S n (stitch p) m = m
refused_mem S n (prefetch p q) m = m
refused_mem S n (credit p q v) m = m
refused_mem S n (map_to d p) m = m
refused_mem S n (turn c p) m = m
refused_mem S n (ready p) m = m
refused_mem S n (where_is y) m = m
refused_mem S n (clear p) m = m
refused_mem S n (report p) m = m
refused_mem S n (bucket p b) m = m
refused_mem S n (show ns p q) m = m
