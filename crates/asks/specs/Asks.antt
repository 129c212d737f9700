-- The act that each task of a run is, and where its field stands. Assumes nothing.
use Rattle.std.specs.Prelude.{◌≡◌, List, ℕ, ◌+◌, ◌≤◌, ◌<◌, length, take, drop, Option, None, Some}
use Rattle.ledger.specs.Header.{alone}
use Rattle.ledger.specs.Buckets.{untimed}
use Rattle.ledger.specs.Calls as act
use Rattle.memory.specs.Runs.{Ask, does, bad, ended}
use Rattle.asks.specs.declared.Task.{Task}
use Rattle.asks.specs.declared.Task.TheVariants.{Arrive, Stitch, Prefetch, Turn, Credit, Map}
use Rattle.asks.specs.declared.Asked.{Asked}
use Rattle.asks.specs.declared.Asked.TheVariants.{Call, Bad, End}

-- the act of a task, s being the fields that it was read in
abbrev pub task_act : List ℕ → Task → act.Act
task_act s (Arrive port at size) = act.arrive port (alone (take size (drop at s)))
task_act s (Stitch port) = act.stitch port
task_act s (Prefetch port queue) = act.prefetch port queue
task_act s (Turn port) = act.turn untimed port
task_act s (Credit port queue amount) = act.credit port queue amount
task_act s (Map id port) = act.map_to id port

abbrev pub ask_of : List ℕ → Asked → Ask
ask_of s (Call task next) = does (task_act s task) next
ask_of s Bad = bad
ask_of s End = ended

-- a bench's order that is no task is bad
abbrev pub asked_of : Option Task → ℕ → Asked
asked_of None next = Bad
asked_of (Some task) next = Call task next

-- an arrival's header stands within the n bytes
abbrev pub HeaderIn : ℕ → Task → Type 0
HeaderIn n (Arrive port at size) = at + size ≤ n
HeaderIn n _ = Unit

-- a call from place `at` has a field of some bytes, all of them among the n
abbrev pub Within : ℕ → ℕ → Asked → Type 0
Within at n (Call task next) = (at < next) × (next ≤ n) × HeaderIn n task
Within at n _ = Unit

-- a whole field's value and what is past it
pub record Stands (s : List ℕ) (v len next size : ℕ) : Type 0 where
  pub ends : next ≡ v + len
  pub within : next ≤ length s
  pub small : size ≤ 12
