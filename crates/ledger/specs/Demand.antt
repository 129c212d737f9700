-- Demand 3, nobody starves, as a statement. Assumes nothing.
use Rattle.std.specs.Prelude.{◌≡◌, ◌⊎◌, Bool, false, List, [], ◌∷◌, ◌++◌, ℕ, ◌+◌, ◌*◌, ◌≤◌, ◌<◌, length, get_or, take, eqb}
use Rattle.ledger.specs.Settings.{Settings, ten_bytes}
use Rattle.ledger.specs.Ledger.{Packet, prefetched, Ledger, list_at, outward_of}
use Rattle.ledger.specs.Ready.{bit}
use Rattle.ledger.specs.Buckets.{Clock}
use Rattle.ledger.specs.Calls.{Act, arrive, stitch, prefetch, credit, map_to, turn, ready, where_is, clear, report, bucket, show, Reply, leaves, side_of}
use Rattle.ledger.specs.Desk.{Desk, has, Call, setup, act, desk, after_calls, SetupsRefused}
use Rattle.ledger.specs.Sound.{sum, Roomy, Orderly, Sound}

-- is the act a turn of port p, timed or not
abbrev pub is_turn : ℕ → Act → Bool
is_turn p (arrive r h) = false
is_turn p (stitch r) = false
is_turn p (prefetch r q) = false
is_turn p (credit r q n) = false
is_turn p (map_to d r) = false
is_turn p (turn c r) = eqb r p
is_turn p (ready r) = false
is_turn p (where_is y) = false
is_turn p (clear r) = false
is_turn p (report r) = false
is_turn p (bucket r b) = false
is_turn p (show ns r q) = false

-- packet k stands in the prefetch slots of port p and queue q, behind `ahead`
pub record Stands (S : Settings) (p q : ℕ) (k : Packet) (ahead : List Packet) (L : Ledger) : Type 0 where
  pub behind : List Packet
  pub there : list_at S L (prefetched p q) ≡ ahead ++ (k ∷ behind)

-- credit in hand for all of these packets: queue 0 needs none
abbrev pub InHand : Settings → Ledger → ℕ → ℕ → List Packet → Type 0
InHand S L p q ks = (q ≡ 0) ⊎ (sum (λ k. k.price) ks ≤ outward_of S L p q)

-- ---- over calls, on whatever takes calls and shows a desk: the desk itself, or a memory

abbrev pub is_turn_call : ℕ → Call → Bool
is_turn_call p (setup T) = false
is_turn_call p (act a) = is_turn p a

-- how many turns of port p are among the calls
abbrev pub turns_in : ℕ → List Call → ℕ
turns_in p [] = 0
turns_in p (c ∷ cs) = bit (is_turn_call p c) + turns_in p cs

-- x shows packet k in the prefetch slots of port p and queue q
pub record ShowsWaiting {X : Type 0} (shows : X → Desk) (S : Settings) (p q : ℕ) (k : Packet) (x : X) : Type 0 where
  pub ledger : Ledger
  pub ahead : List Packet
  pub shown : shows x ≡ has S ledger
  pub stands : Stands S p q k ahead ledger

-- among the calls there is a turn of port p, timed or not, before which it had fewer than n turns, at which packet k leaves by queue q;
-- and at every moment up to then x shows k in its prefetch list
pub record LeavesAmong {X : Type 0} (call : X → Call → Reply × X) (shows : X → Desk) (S : Settings) (p q : ℕ) (k : Packet) (n : ℕ)
    (x : X) (cs : List Call) : Type 0 where
  pub moment : ℕ
  pub among : moment < length cs
  pub soon : turns_in p (take moment cs) < n
  pub clock : Clock
  pub a_turn : get_or cs moment (act (ready 0)) ≡ act (turn clock p)
  pub it_leaves : (call (after_calls call x (take moment cs)) (act (turn clock p))).0 ≡ leaves k (side_of q)
  pub until_then : (i : ℕ) → i ≤ moment → ShowsWaiting shows S p q k (after_calls call x (take i cs))

-- Nobody starves from here on, where x shows the ledger L: a packet of a port below P and a queue below Q, in the prefetch slots behind
-- `ahead` and with credit in hand for all of these, leaves by turn Q × (length ahead + 1) of its port, whatever calls come, accepted or
-- refused, setting up anew excepted. (A repair is none of these calls: it begins a ledger anew, as a setup does.)
abbrev pub NobodyStarvesFrom : {X : Type 0} → (X → Call → Reply × X) → (X → Desk) → Settings → Ledger → ℕ → ℕ → X → Type 0
NobodyStarvesFrom call shows S L P Q x =
    (p q : ℕ) → p < P → q < Q
    → (ahead : List Packet) (k : Packet) → Stands S p q k ahead L
    → InHand S L p q (ahead ++ (k ∷ []))
    → (cs : List Call) → SetupsRefused call x cs → Q * (length ahead + 1) ≤ turns_in p cs
    → LeavesAmong call shows S p q k (Q * (length ahead + 1)) x cs

-- at the desk, whatever its memory's length n: for any number of ports and queues
unfoldable pub NobodyStarvesAtDesk : Type 0
NobodyStarvesAtDesk =
    (n : ℕ) (S : Settings) → Roomy S → (L : Ledger) → Orderly S L → NobodyStarvesFrom (desk n) (λ D. D) S L S.ports S.queues (has S L)

-- and of the ten-byte edition, as paper 01 says it: turn 24 (k + 1)
unfoldable pub NobodyStarvesAtDesk24 : Type 0
NobodyStarvesAtDesk24 =
    (n : ℕ) (S : Settings) (L : Ledger) → Sound S L → S.edition ≡ ten_bytes → NobodyStarvesFrom (desk n) (λ D. D) S L 4 24 (has S L)
