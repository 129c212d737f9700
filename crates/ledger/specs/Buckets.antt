-- Paper 02, Q-13, "How long they wait": the wait of a packet that a timed turn sends, the bucket in which it falls, and what a bucket counts.
-- Assumes nothing.
use Rattle.std.specs.Prelude.{cond, ℕ, suc, ◌+◌, ◌-◌, ◌*◌, ◌%◌, ◌^◌, ltb}
use Rattle.std.specs.Int.Count.{count_leading_zeros}
use Rattle.ledger.specs.Settings.{bucket_count}

-- a turn is given the time, or it isn't
pub data Clock : Type 0 where
  untimed : Clock
  at : ℕ → Clock

-- "the wait is now less timestamp, wrapping": on a clock of 32 bits
unfoldable pub wait_of : ℕ → ℕ → ℕ
wait_of time stamp = (time + (2 ^ 32 - stamp)) % 2 ^ 32

-- "Wait 0 goes to bucket 0, else a wait falls in the bucket of its highest set bit, counted from 1."
unfoldable pub bucket_of : ℕ → ℕ
bucket_of wait = 32 - count_leading_zeros 32 wait

-- "Buckets stop at 4,294,967,295."
abbrev pub stop : ℕ
stop = 4294967295

-- a bucket of n with one more in it
unfoldable pub one_more : ℕ → ℕ
one_more n = cond (ltb n stop) (suc n) n

-- buckets are numbered port by port
unfoldable pub bucket# : ℕ → ℕ → ℕ
bucket# p b = p * bucket_count + b
