-- What judging an arrival gives, what the code's answer means, and what its parts ask. Assumes nothing.
use Rattle.std.specs.Prelude.{Result, Ok, Err, ◌≡◌, List, [], ◌∷◌, ◌++◌, ℕ, ◌^◌, ◌≤◌, ◌<◌, length}
use Rattle.ledger.specs.Settings.{Settings, size}
use Rattle.ledger.specs.Rules.{Rule, refuse, guard}
use Rattle.ledger.specs.Header.{Fields, form, fields_of, Load, bytes_in, arrival_rules}
use Rattle.ledger.specs.Ledger.{Packet, recorded, free, place#, arrival_of}
use Rattle.ledger.specs.Calls.{arrive, no_port, other_kind, wrong_memory, last_rules, rules}
use Rattle.ledger.specs.Answers.{number_of, sent_of}
use Rattle.ledger.specs.declared.Refusal.{Refusal}
use Rattle.ledger.specs.declared.Sent.{Sent}
use Rattle.layout.specs.declared.shape.Shape.{Shape}
use Rattle.layout.specs.declared.Table.TheVariants.{Count}
use Rattle.layout.specs.Tables.{get}
use Rattle.layout.specs.Shapes.{settings_of}
use Rattle.layout.specs.Picture.{ledger_in}
use Rattle.memory.specs.Ends.{Tidy}
use Rattle.memory.specs.Judged.{Judgement, good, bad}
use Rattle.memory.specs.Writes.{head_of}

pub data Admission : Type 0 where
  accepted : Packet → Admission
  rejected : ℕ → Admission

abbrev pub admitted_of : Result Sent Refusal → Admission
admitted_of (Ok k) = accepted (sent_of k)
admitted_of (Err r) = rejected (number_of r)

-- what a header with these fields makes of port p's first free node
abbrev pub packet_for : Settings → List ℕ → ℕ → Fields → Packet
packet_for S m p f = recorded S (head_of S m (free p)) f

-- what h makes of it
abbrev pub packet_of : Settings → List ℕ → ℕ → Load → Packet
packet_of S m p h = packet_for S m p (fields_of (form S) (bytes_in h))

-- the first refusal that applies, or else the packet
unfoldable pub judged_arrival : Settings → List ℕ → ℕ → Load → Admission
judged_arrival S m p h = guard (rules S (ledger_in S m) (arrive p h)) rejected (accepted (packet_of S m p h))

-- those that are tested before the port
abbrev pub kind_rules : Settings → Load → List Rule
kind_rules S h = refuse 24 (other_kind S h) ∷ refuse 17 (wrong_memory S h) ∷ []

unfoldable pub judged_kind : Settings → Load → Judgement
judged_kind S h = guard (kind_rules S h) bad good

-- and from it on
unfoldable pub judged_at : Settings → List ℕ → ℕ → Load → Admission
judged_at S m p h =
    guard (no_port S p ∷ (arrival_rules (form S) S.queues p h ++ last_rules S (ledger_in S m) p (packet_of S m p h))) rejected (accepted (packet_of S m p h))

-- the same where the port is right and the header has no fault of its own
unfoldable pub judged_fields : Settings → List ℕ → ℕ → Fields → Admission
judged_fields S m p f = guard (last_rules S (ledger_in S m) p (packet_for S m p f)) rejected (accepted (packet_for S m p f))

-- a header whose price fits
pub record CanPrice (s : Shape) (f : Fields) : Type 0 where
  pub len : f.len < 2 ^ 13

-- and a port of a memory long enough, and a queue of the switch
pub record CanAdmit (s : Shape) (p : ℕ) (f : Fields) (m : List ℕ) : Type 0 where
  pub priced : CanPrice s f
  pub long : size (settings_of s) ≤ length m
  pub port : p < s.ports
  pub queue : f.queue < s.queues

-- packet k is of port p's first free node, and its price can be paid
pub record CanTakeIn (s : Shape) (p : ℕ) (k : Packet) (m : List ℕ) : Type 0 where
  pub tidy : Tidy (settings_of s) m
  pub port : p < s.ports
  pub queue : k.queue < s.queues
  pub some : 0 < get (settings_of s) m Count (place# (settings_of s) (free p))
  pub node : k.node ≡ head_of (settings_of s) m (free p)
  pub afford : k.price ≤ arrival_of (settings_of s) (ledger_in (settings_of s) m) p k.queue
