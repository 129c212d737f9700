-- What a timed turn comes to, with no code, and what the count of a wait stands on. Assumes nothing.
use Rattle.std.proofs.Common.{◌≡◌, ℕ, ◌<◌, List, ap, arith}
use Rattle.ledger.specs.Settings.{Settings}
use Rattle.ledger.specs.Ledger.{Packet}
use Rattle.ledger.specs.Buckets.{untimed, at}
use Rattle.std.specs.Prelude.{Result, Ok, Err, Option, IsErrAnd}
use Rattle.ledger.specs.declared.Refusal.{Refusal}
use Rattle.ledger.specs.declared.Sent.{Sent}
use Rattle.ledger.specs.declared.Exit.{Exit}
use Rattle.ledger.specs.Answers.{number_of, turn_reply}
use Rattle.ledger.specs.Calls.{Side, Reply, refused, idle, leaves, turn, rules, result}
use Rattle.ledger.proofs.Tests.{leb_no}
use Rattle.ledger.proofs.Buckets.{bucket_in}
use Rattle.std.proofs.lemmas.Bool.Decides.{nat_tests}
use Rattle.parts.proofs.Laws.{bucket_is}
use Rattle.ledger.proofs.Steps.{guarded}
use Rattle.layout.specs.Picture.{ledger_in, StateOf}
use Rattle.memory.specs.Writes.{tick_mem, write, refused_mem}
use Rattle.memory.specs.Memory.{acted}
use Rattle.memory.proofs.Tally.{timed_acts}

-- a wait's bucket is one of the port's
pub ruleset counts = (nat_tests, bucket_in, bucket_is)

-- ---- a timed turn

module _ (S : Settings) (m : List ℕ) (s : StateOf S m) (time p : ℕ) where
  -- a turn that sends is one of a port that the switch has
  pub sends_port : (k : Packet) (t : Side) (m' : List ℕ) → (leaves k t, m') ≡ acted S m (turn untimed p) → p < S.ports
  unfolding acted
  sends_port k t m' e =
      guarded {X = Reply × List ℕ} (λ out. leaves k t ≡ out.0 → p < S.ports) (rules S (ledger_in S m) (turn untimed p))
      (λ n. (refused n, refused_mem S n (turn untimed p) m)) ((result S (ledger_in S m) (turn untimed p)).0, write S m (turn untimed p))
      (λ n i. absurd (let z : ◌≡◌ {A = ℕ} 0 1 = cc in omega arith))
      (λ c i. leb_no S.ports p c.0)
      (ap (λ (out : Reply × List ℕ). out.0) e)

  -- and its wait is counted
  pub timed_leaves : (k : Packet) (t : Side) (m' m'' : List ℕ) → (leaves k t, m') ≡ acted S m (turn untimed p) → m'' ≡ tick_mem S (at time) p k m'
      → (leaves k t, m'') ≡ acted S m (turn (at time) p)
  timed_leaves k t m' m'' e f = rw (timed_acts S m s time p, ← e, f)

  -- one that is idle or refused is as it was
  pub timed_idle : (m' : List ℕ) → (idle, m') ≡ acted S m (turn untimed p) → (idle, m') ≡ acted S m (turn (at time) p)
  timed_idle m' e = rw (timed_acts S m s time p, ← e)

  pub timed_refused : (r : Result (Option (Sent × Exit)) Refusal) (no' : Refusal) (m' : List ℕ) → IsErrAnd r (λ e. e ≡ no')
      → (refused (number_of no'), m') ≡ acted S m (turn untimed p) → (turn_reply r, m') ≡ acted S m (turn (at time) p)
  timed_refused (Ok x) no' m' h e = absurd h
  timed_refused (Err n) no' m' h e = rw (h, timed_acts S m s time p, ← e)
