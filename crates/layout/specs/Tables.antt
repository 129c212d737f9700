-- The state as a row of tables in lent bytes. A table has an element width in bytes and a number of elements; its start is the sum of
-- the sizes of the tables before it. Nothing else knows an offset. Assumes nothing.
use Rattle.std.specs.Prelude.{List, [], ◌∷◌, map, ℕ, ◌+◌, ◌-◌, ◌*◌, take}
use Rattle.numbers.specs.Bytes.{number, store}
use Rattle.ledger.specs.Settings.{Settings, setting_count, ids, bucket_count, row}
use Rattle.ledger.specs.Ledger.{Column, arrival, outward, last, mapped, halted, buckets}
use Rattle.ledger.specs.Sound.{sum}
use Rattle.layout.specs.declared.Table.{Table}
use Rattle.layout.specs.declared.Table.TheVariants.{Setting, Mapped, Last, Halted, Arrival, Outward, Buckets, Head, Tail, Count, Next, Length, Stamp}
use Rattle.layout.specs.declared.Table.TheVariants.{Queue, Dest, Poisoned, Transaction, Price}

-- the tables in their order: the settings, the columns of numbers, then what there is for each list, then for each node
abbrev pub column_tables : ℕ
column_tables = 6

abbrev pub turn_of : Table → ℕ
turn_of Setting = 0
turn_of Mapped = 1
turn_of Last = 2
turn_of Halted = 3
turn_of Arrival = 4
turn_of Outward = 5
turn_of Buckets = 6
turn_of Head = 1 + column_tables
turn_of Tail = 2 + column_tables
turn_of Count = 3 + column_tables
turn_of Next = 4 + column_tables
turn_of Length = 5 + column_tables
turn_of Stamp = 6 + column_tables
turn_of Queue = 7 + column_tables
turn_of Dest = 8 + column_tables
turn_of Poisoned = 9 + column_tables
turn_of Transaction = 10 + column_tables
turn_of Price = 11 + column_tables

-- bytes of an element
abbrev pub width : Table → ℕ
width Setting = 2
width Mapped = 1
width Last = 1
width Halted = 1
width Arrival = 2
width Outward = 2
width Buckets = 4
width Head = 2
width Tail = 2
width Count = 4
width Next = 2
width Length = 2
width Stamp = 4
width Queue = 1
width Dest = 1
width Poisoned = 1
width Transaction = 1
width Price = 1

-- elements: of credits one for each port and queue but 0, of buckets 33 for each port, of lists' ends and counts one for each list, of
-- records one for each node
abbrev pub cells : Settings → ℕ
cells S = S.ports * (S.queues - 1)

abbrev pub lists : Settings → ℕ
lists S = S.ports * row S

abbrev pub all : Settings → ℕ
all S = S.ports * S.nodes

abbrev pub many : Settings → Table → ℕ
many S Setting = setting_count
many S Mapped = ids
many S Last = S.ports
many S Halted = S.ports
many S Arrival = cells S
many S Outward = cells S
many S Buckets = S.ports * bucket_count
many S Head = lists S
many S Tail = lists S
many S Count = lists S
many S Next = all S
many S Length = all S
many S Stamp = all S
many S Queue = all S
many S Dest = all S
many S Poisoned = all S
many S Transaction = all S
many S Price = all S

-- the table of a column
abbrev pub table_of : Column → Table
table_of arrival = Arrival
table_of outward = Outward
table_of last = Last
table_of mapped = Mapped
table_of halted = Halted
table_of buckets = Buckets

abbrev pub bytes_of : Settings → Table → ℕ
bytes_of S t = many S t * width t

-- the tables by their turns, and their sizes
abbrev pub tables : List Table
tables =
    Setting ∷ Mapped ∷ Last ∷ Halted ∷ Arrival ∷ Outward ∷ Buckets ∷ Head ∷ Tail ∷ Count
    ∷ Next ∷ Length ∷ Stamp ∷ Queue ∷ Dest ∷ Poisoned ∷ Transaction ∷ Price ∷ []

abbrev pub sizes : Settings → List ℕ
sizes S = map (bytes_of S) tables

-- where a table starts
unfoldable pub start_of : Settings → Table → ℕ
start_of S t = sum (λ n. n) (take (turn_of t) (sizes S))

-- element i of a table, and memory with v there
unfoldable pub get : Settings → List ℕ → Table → ℕ → ℕ
get S m t i = number (width t) m (start_of S t + i * width t)

unfoldable pub put : Settings → Table → ℕ → ℕ → List ℕ → List ℕ
put S t i v m = store (width t) m (start_of S t + i * width t) v
