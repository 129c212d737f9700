-- `waits::timed_turn` meets its contract: it is the turn, and where a packet left its wait is counted. Assumes nothing.
use Rattle.std.proofs.Common.{◌≡◌, ℕ, List, length, ap, arith}
use Rattle.ledger.specs.Buckets.{untimed}
use Rattle.ledger.specs.Calls.{Reply, leaves, turn}
use Rattle.ledger.specs.Answers.{sent_of, exit_of}
use Rattle.layout.specs.Shapes.{settings_of}
use Rattle.memory.specs.Writes.{tick_mem}
use Rattle.memory.specs.Memory.{acted}
use Rattle.memory.proofs.Rounds.{works_after}
use Rattle.waits.proofs.Laws.{sends_port, timed_leaves, timed_idle, timed_refused}
use Rattle.waits.proofs.timed_turn.Goals as goal
use Rattle.waits.proofs.timed_turn.Goals.{In-Some}

-- the packet that left, as the turn answers it
sent : (c : In-Some) → let a = c.args in
    (leaves (sent_of c.in-Some.k) (exit_of c.in-Some.field-0-1), c.turn.new.m) ≡ acted (settings_of a.s) a.m.now (turn untimed a.port)
sent c = rw c.in-Some.is at c.in_ok-left.ensures

pub returns-in_err-left : goal.returns-in_err-left
returns-in_err-left c = timed_refused _ _ c.requires.state c.args.time c.args.port _ _ _ c.from_residual.ensures.1 c.in_err-left.ensures

pub count-requires : goal.count-requires
count-requires c =
    let after = works_after c.args.s c.args.m.now (turn untimed c.args.port) c.requires in
    record {
      long = omega (arith, ap (λ (o : Reply × List ℕ). length o.1) c.turn.ensures, after.state.long);
      port = sends_port _ _ c.requires.state c.args.time c.args.port _ _ _ (sent (goal.at.count-requires c).In-Some);
    }

pub returns-in-Some : goal.returns-in-Some
unfolding tick_mem
returns-in-Some c =
    rw c.in-Some.is (timed_leaves _ _ c.requires.state c.args.time c.args.port _ _ _ _ (sent (goal.at.returns-in-Some c).In-Some)
    (rw (c.count.ensures, c.wait_of.ensures)))

pub returns-in_default : goal.returns-in_default
returns-in_default c = rw c.in_default.is (timed_idle _ _ c.requires.state c.args.time c.args.port _ (rw c.in_default.is at c.in_ok-left.ensures))
