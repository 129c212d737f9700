-- Paper 02, Q-13, on memory: what a timed turn makes of a turn's bytes, and that no bucket is read. Assumes nothing.
use Rattle.std.specs.Prelude.{◌≡◌, cond, List, ℕ, ◌<◌, length, get_or}
use Rattle.ledger.specs.Settings.{Settings}
use Rattle.ledger.specs.Ledger.{buckets, tall, bound}
use Rattle.ledger.specs.Buckets.{untimed, at}
use Rattle.ledger.specs.Calls.{turn, Reply, refused}
use Rattle.ledger.specs.Desk.{Call, act}
use Rattle.ledger.specs.Order.{named}
use Rattle.ledger.specs.Tally.{AgreeBut, WaitsUnread}
use Rattle.layout.specs.declared.Table.TheVariants.{Buckets}
use Rattle.layout.specs.Tables.{put}
use Rattle.layout.specs.Picture.{settings_in, opens}
use Rattle.memory.specs.Writes.{tick_mem}
use Rattle.memory.specs.Memory.{picture, M}
use Rattle.memory.specs.Demands.{on_memory}
use Rattle.memory.specs.Rounds.{round_on}
use Rattle.memory.specs.Runs.{run_on}
use Rattle.memory.specs.Audit.{audit_on}
use Rattle.memory.specs.Repair.{repaired}

-- what a turn of port p answers and leaves, with the wait of the packet that it sent counted
abbrev pub as_timed : Settings → ℕ → ℕ → Reply × List ℕ → Reply × List ℕ
as_timed S time p out = (out.0, named out.1 (λ x. out.1) (λ b. out.1) (λ k. tick_mem S (at time) p k out.1) out.0)

-- "Sending is as before", on every memory: a timed turn answers as the turn does, and what it leaves differs in a bucket's four bytes at most
unfoldable pub TimedBytes : Type 0
TimedBytes = (m : List ℕ) (time p : ℕ) → M (act (turn (at time) p)) m ≡ as_timed (settings_in m) time p (M (act (turn untimed p)) m)

-- whatever number is put in a bucket: a switch state is one still, any other memory isn't, and what they picture differs in buckets alone
unfoldable pub BucketsFree : Type 0
BucketsFree =
    (m : List ℕ) → ((j : ℕ) → get_or m j 0 < 256) → (i v : ℕ) → i < tall (settings_in m) buckets → v < bound (settings_in m) buckets
    → AgreeBut (picture m) (picture (put (settings_in m) Buckets i v m))

-- and memories that differ so answer every call but the reading one alike, and go on differing so
unfoldable pub WaitsUnreadInMemory : Type 0
WaitsUnreadInMemory =
    (m n : List ℕ) → length m ≡ length n → AgreeBut (picture m) (picture n) → (cs : List Call) → WaitsUnread on_memory picture m n cs

-- nor do rounds and audits: a round answers alike, its room included, and leaves memories that differ so; an audit's answer and room are one
unfoldable pub RoundsUnread : Type 0
RoundsUnread =
    (m n : List ℕ) → length m ≡ length n → AgreeBut (picture m) (picture n) → (room : List ℕ)
    → ((round_on m room).0 ≡ (round_on n room).0) × ((round_on m room).2 ≡ (round_on n room).2) × AgreeBut (picture (round_on m room).1)
    (picture (round_on n room).1)

-- nor does a run: its report and its room are one
unfoldable pub RunsUnread : Type 0
RunsUnread =
    (m n : List ℕ) → length m ≡ length n → AgreeBut (picture m) (picture n) → (s room : List ℕ)
    → ((run_on m s room).0 ≡ (run_on n s room).0) × ((run_on m s room).2 ≡ (run_on n s room).2)
    × AgreeBut (picture (run_on m s room).1) (picture (run_on n s room).1)

unfoldable pub AuditsUnread : Type 0
AuditsUnread = (m n : List ℕ) → length m ≡ length n → AgreeBut (picture m) (picture n) → (room : List ℕ) → audit_on m room ≡ audit_on n room

-- nor do repairs: whatever number is put in a bucket, the answer is the same, and where the repair is done, so is every byte after it
unfoldable pub RepairsUnread : Type 0
RepairsUnread =
    (m : List ℕ) (i v : ℕ) → i < tall (settings_in m) buckets
    → let n = put (settings_in m) Buckets i v m in repaired n ≡ cond (opens m) (repaired m) (refused 3, n)
