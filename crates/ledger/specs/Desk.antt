-- The desk: all thirteen calls, with turn timed or not and arrive of a header or of a whole packet, on a lent memory of which only its length
-- and what it pictures count. Setup, and refusal 3, stand here; the round, which is a list of calls, in Rounds.antt. Assumes nothing.
use Rattle.std.specs.Prelude.{◌≡◌, Bool, true, false, not, List, [], ◌∷◌, ℕ, ltb}
use Rattle.ledger.specs.Settings.{Settings, in_rows, size}
use Rattle.ledger.specs.Rules.{Rule, refuse, guard}
use Rattle.ledger.specs.Ledger.{Ledger, start}
use Rattle.ledger.specs.Calls.{Act, is_arrival, Reply, refused, done, is_refused, step}

-- no switch state; or one, with its settings and its ledger
pub data Desk : Type 0 where
  none : Desk
  has : Settings → Ledger → Desk

pub data Call : Type 0 where
  setup : Settings → Call
  act : Act → Call

abbrev pub is_setup : Call → Bool
is_setup (setup T) = true
is_setup (act a) = false

abbrev pub is_arrival_call : Call → Bool
is_arrival_call (setup T) = false
is_arrival_call (act a) = is_arrival a

-- memory of n bytes: a setting not in its row, then memory shorter than its settings need
abbrev pub setup_rules : ℕ → Settings → List Rule
setup_rules n S = refuse 2 (not (in_rows S)) ∷ refuse 1 (ltb n (size S)) ∷ []

abbrev pub on_desk : Settings → Reply × Ledger → Reply × Desk
on_desk S out = (out.0, has S out.1)

-- one call at a desk whose memory has n bytes: the answer, and the desk after it
abbrev pub desk : ℕ → Desk → Call → Reply × Desk
desk n D (setup T) = guard (setup_rules n T) (λ r. (refused r, D)) (done, has T (start T))
desk n none (act a) = (refused 3, none)
desk n (has S L) (act a) = on_desk S (step S L a)

-- ---- calls one after another, on whatever takes calls: a desk, or a memory

module _ {X : Type 0} (call : X → Call → Reply × X) where
  -- what they leave
  abbrev pub after_calls : X → List Call → X
  after_calls x [] = x
  after_calls x (c ∷ cs) = after_calls (call x c).1 cs

  -- and their answers
  abbrev pub answers_of : X → List Call → List Reply
  answers_of x [] = []
  answers_of x (c ∷ cs) = (call x c).0 ∷ answers_of (call x c).1 cs

  -- "accepted or refused, setting up anew excepted": every setup among them is refused
  abbrev pub SetupsRefused : X → List Call → Type 0
  SetupsRefused x [] = Unit {0}
  SetupsRefused x (c ∷ cs) = (is_setup c ≡ true → is_refused (call x c).0 ≡ true) × SetupsRefused (call x c).1 cs

-- at a desk whose memory has n bytes
abbrev pub replies : ℕ → Desk → List Call → List Reply
replies n = answers_of (desk n)

abbrev pub after : ℕ → Desk → List Call → Desk
after n = after_calls (desk n)
