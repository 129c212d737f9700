-- Laws of waits and buckets (paper 02, Q-13): which bucket a wait falls in, and what a timed turn's tick leaves. Assumes nothing.
use mathlib.Core.Path.{◌≡◌, refl, sym, ap}
use mathlib.Core.Logic.{◌≢◌}
use mathlib.Core.Bool.{Bool, true, false, cond}
use Prim.Native.Nat.{ℕ, suc, ◌+◌, ◌-◌, ◌%◌, ◌^◌, ◌≤◌, ◌<◌}
use native.Mathlib.Nat.{mod-lt}
use native.Mathlib.Omega.{arith}
use lib.ListN.{set}
use lib.Dec.{ltb}
use lib.Count.{count_leading_zeros, leading_of_zero, leading_top}
use Rattle.ledger.specs.Settings.{Settings, bucket_count}
use Rattle.ledger.specs.Ledger.{Packet, Column, arrival, buckets, tall, Ledger, bucket_at, change, put_in}
use Rattle.ledger.specs.Buckets.{Clock, untimed, at, wait_of, bucket_of, stop, one_more, bucket#}
use Rattle.ledger.specs.Calls.{ticked}
use Rattle.ledger.specs.Sound.{Orderly, Roomy}
use Rattle.ledger.proofs.Tests.{ltb_yes}
use Rattle.ledger.proofs.Columns.{change_other}
use Rattle.ledger.proofs.Keep.{keep_put}

-- ---- waits and their buckets

-- "so a clock that passes its end still gives the wait": the time d that went by since the timestamp
pub wait_is : (stamp d : ℕ) → stamp < 2 ^ 32 → d < 2 ^ 32 → wait_of ((stamp + d) % 2 ^ 32) stamp ≡ d
unfolding wait_of
wait_is stamp d h k = omega arith

pub wait_in : (time stamp : ℕ) → wait_of time stamp < 2 ^ 32
unfolding wait_of
wait_in time stamp = mod-lt (time + (2 ^ 32 - stamp)) (omega arith)

pub bucket_in : (wait : ℕ) → bucket_of wait < bucket_count
unfolding bucket_of
bucket_in wait = omega arith

-- "a wait falls in the bucket of its highest set bit, counted from 1": of a wait in bucket j + 1 bit j is set, and no bit above it
pub bucket_of_some : (wait : ℕ) → 0 < wait → wait < 2 ^ 32 → (j : ℕ) × (bucket_of wait ≡ suc j) × (2 ^ j ≤ wait) × (wait < 2 ^ suc j)
unfolding bucket_of
bucket_of_some wait some low =
    let t = leading_top 32 wait some low in
    (t.0, (let e : 32 - count_leading_zeros 32 wait ≡ suc t.0 = omega (arith, t.1) in e), t.2, t.3)

-- "Wait 0 goes to bucket 0"
pub bucket_of_none : bucket_of 0 ≡ 0
unfolding bucket_of
bucket_of_none = ap (λ (n : ℕ). 32 - n) (leading_of_zero 32)

-- ---- bucket numbers

pub bucket_lt : (S : Settings) (p b : ℕ) → p < S.ports → b < bucket_count → bucket# p b < tall S buckets
unfolding bucket#
bucket_lt S p b hp hb = omega arith

pub bucket_apart : (p r b d : ℕ) → b < bucket_count → d < bucket_count → bucket# p b ≡ bucket# r d → (p ≡ r) × (b ≡ d)
unfolding bucket#
bucket_apart p r b d hb hd e = (omega arith, omega arith)

-- ---- one more

-- it never falls
pub one_more_le : (n : ℕ) → n ≤ one_more n
unfolding one_more
one_more_le n = go (ltb n stop)
  where
    go : (b : Bool) → n ≤ cond b (suc n) n
    go true = omega arith
    go false = omega arith

pub one_more_in : (n : ℕ) → n < suc stop → one_more n < suc stop
unfolding one_more
one_more_in n h = go (ltb n stop) refl
  where
    go : (b : Bool) → ltb n stop ≡ b → cond b (suc n) n < suc stop
    go true e = let l = ltb_yes n stop e in omega arith
    go false e = h

-- ---- what a tick leaves: the ledger, or one bucket of it changed

pub not_arrival : buckets ≢ arrival
not_arrival i = let z : ◌≡◌ {A = ℕ} 0 1 = cc in omega arith

module _ (c : Clock) (p : ℕ) (k : Packet) (L : Ledger) where
  pub ticked_by : (P : Ledger → Type 0) → P L → ((i v : ℕ) → P (put_in buckets i v L)) → P (ticked c p k L)
  unfolding ticked
  ticked_by P f g = go c
    where
      go : (d : Clock) → P (ticked d p k L)
      go untimed = f
      go (at time) = let b = bucket_of (wait_of time k.stamp) in g (bucket# p b) (one_more (bucket_at L p b))

  pub ticked_lists : (ticked c p k L).lists ≡ L.lists
  ticked_lists = ticked_by (λ N. N.lists ≡ L.lists) refl (λ i v. unfold change in refl)

  pub ticked_numbers : (d : Column) → d ≢ buckets → (ticked c p k L).numbers d ≡ L.numbers d
  ticked_numbers d other =
      ticked_by (λ N. N.numbers d ≡ L.numbers d) refl (λ i v. change_other buckets (λ xs. set xs i v) L d (λ e. other (sym e)))

  pub ticked_orderly : (S : Settings) → Roomy S → Orderly S L → p < S.ports → Orderly S (ticked c p k L)
  unfolding ticked
  ticked_orderly S ok s hp = go c
    where
      go : (d : Clock) → Orderly S (ticked d p k L)
      go untimed = s
      go (at time) =
          let b = bucket_of (wait_of time k.stamp) in
          keep_put S ok L s buckets not_arrival (bucket# p b) (one_more (bucket_at L p b))
          (one_more_in (bucket_at L p b) (s.ranges.numbers_in buckets (bucket# p b) (bucket_lt S p b hp (bucket_in (wait_of time k.stamp)))))
