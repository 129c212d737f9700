-- What the code of a turn asks and gives. Assumes nothing.
use Rattle.std.specs.Prelude.{◌≡◌, List, ℕ, ◌≤◌, ◌<◌, length}
use Rattle.ledger.specs.Settings.{size}
use Rattle.ledger.specs.Ledger.{prefetched, place#, outward_of, last_of}
use Rattle.ledger.specs.Ready.{ready_word, pick}
use Rattle.ledger.specs.Answers.{sent_of}
use Rattle.ledger.specs.declared.Sent.{Sent}
use Rattle.layout.specs.declared.shape.Shape.{Shape}
use Rattle.layout.specs.declared.Table.TheVariants.{Count}
use Rattle.layout.specs.Tables.{get}
use Rattle.layout.specs.Shapes.{settings_of}
use Rattle.layout.specs.Picture.{packet_at, ledger_in}
use Rattle.memory.specs.Judged.{Works}
use Rattle.memory.specs.Writes.{head_of, serve_mem}

-- a port of a state
pub record AtPort (s : Shape) (p : ℕ) (m : List ℕ) : Type 0 where
  pub works : Works s m
  pub port : p < s.ports

-- a queue of a port
pub record AtQueue (s : Shape) (p q : ℕ) (m : List ℕ) : Type 0 where
  pub works : Works s m
  pub port : p < s.ports
  pub queue : q < s.queues

-- the credits and the last served queue that a departure changes stand in the memory m of a state of shape s
pub record CanSettle (s : Shape) (p q home : ℕ) (m : List ℕ) : Type 0 where
  pub long : size (settings_of s) ≤ length m
  pub port : p < s.ports
  pub queue : q < s.queues
  pub owner_in : home < s.ports

-- a queue whose oldest packet can leave: there is one, and outward credit covers it
pub record CanServe (s : Shape) (p q : ℕ) (m : List ℕ) : Type 0 where
  pub works : Works s m
  pub port : p < s.ports
  pub queue : q < s.queues
  pub some : 0 < get (settings_of s) m Count (place# (settings_of s) (prefetched p q))
  pub covered : (packet_at (settings_of s) m (head_of (settings_of s) m (prefetched p q))).price ≤ outward_of (settings_of s) (ledger_in (settings_of s) m) p q

-- a port of a state and its ready word, in which some bit is set
pub record HasWord (s : Shape) (p word : ℕ) (m : List ℕ) : Type 0 where
  pub works : Works s m
  pub port : p < s.ports
  pub word_is : word ≡ ready_word (settings_of s) (ledger_in (settings_of s) m) p
  pub some : word ≡ 0 → ⊥

-- the queue that a turn of the port serves
pub record Picked (s : Shape) (p q : ℕ) (m : List ℕ) : Type 0 where
  pub next : q ≡ pick (last_of (ledger_in (settings_of s) m) p) (ready_word (settings_of s) (ledger_in (settings_of s) m) p)
  pub can : CanServe s p q m

-- it has left, and its node is x
pub record Departed (s : Shape) (p q : ℕ) (m m' : List ℕ) (x : ℕ) : Type 0 where
  pub node : x ≡ head_of (settings_of s) m (prefetched p q)
  pub memory : m' ≡ serve_mem (settings_of s) p q (packet_at (settings_of s) m (head_of (settings_of s) m (prefetched p q))) m

pub record Served (s : Shape) (p q : ℕ) (m m' : List ℕ) (k : Sent) : Type 0 where
  pub packet : sent_of k ≡ packet_at (settings_of s) m (head_of (settings_of s) m (prefetched p q))
  pub memory : m' ≡ serve_mem (settings_of s) p q (packet_at (settings_of s) m (head_of (settings_of s) m (prefetched p q))) m
