-- Paper 02, Q-12: the round, and what is done at a desk when rounds and looks come among the calls. Assumes nothing.
use Rattle.std.specs.Prelude.{Bool, true, false, List, [], ◌∷◌, ◌++◌, map, ℕ, zero, suc, ◌*◌, ◌/◌, ◌%◌, length, get_or, drop, ltb}
use Rattle.ledger.specs.Settings.{Settings}
use Rattle.ledger.specs.Rules.{Rule, refuse, guard}
use Rattle.ledger.specs.Buckets.{untimed}
use Rattle.ledger.specs.Calls.{Act, arrive, stitch, prefetch, credit, map_to, turn, ready, where_is, Reply, refused, done, entry, stitched, idle}
use Rattle.ledger.specs.Calls.{clear, report, bucket, show, leaves, word, found, reported, counted, part}
use Rattle.ledger.specs.Desk.{Desk, none, has, Call, setup, act}

-- ---- what a round does

-- the acts of f 0, then those of f 1, and so on below n
abbrev pub each : (ℕ → List Act) → ℕ → List Act
each f zero = []
each f (suc n) = each f n ++ f n

abbrev pub stitches : Settings → List Act
stitches S = each (λ p. stitch p ∷ []) S.ports

abbrev pub prefetches : Settings → List Act
prefetches S = each (λ p. each (λ q. prefetch p q ∷ []) S.queues) S.ports

abbrev pub turns : Settings → List Act
turns S = each (λ p. turn untimed p ∷ []) S.ports

-- "one stitch at each port in order; then one prefetch for each port and queue; then one turn at each port"; none of them is timed
unfoldable pub round_acts : Settings → List Act
round_acts S = stitches S ++ (prefetches S ++ turns S)

-- with n bytes lent for the turns: "refusing 27 if lent less than four bytes a port"
abbrev pub round_rules : Settings → ℕ → List Rule
round_rules S n = refuse 27 (ltb n (4 * S.ports)) ∷ []

-- 3 comes first
abbrev pub round_reply : Desk → ℕ → Reply
round_reply none n = refused 3
round_reply (has S L) n = guard (round_rules S n) refused done

-- ---- answers in a room

-- four bytes: refusal number, 1 if idle, entry id (2) or 0; a stitch's id is in the first two bytes of its record
unfoldable pub answer_bytes : Reply → List ℕ
answer_bytes (refused n) = n ∷ 0 ∷ 0 ∷ 0 ∷ []
answer_bytes done = 0 ∷ 0 ∷ 0 ∷ 0 ∷ []
answer_bytes (entry x) = 0 ∷ 0 ∷ x / 256 ∷ x % 256 ∷ []
answer_bytes (stitched b) = 0 ∷ 0 ∷ get_or b 0 0 ∷ get_or b 1 0 ∷ []
answer_bytes idle = 0 ∷ 1 ∷ 0 ∷ 0 ∷ []
answer_bytes (leaves k s) = 0 ∷ 0 ∷ k.node / 256 ∷ k.node % 256 ∷ []
answer_bytes (word w n) = 0 ∷ 0 ∷ 0 ∷ 0 ∷ []
answer_bytes (found v i) = 0 ∷ 0 ∷ 0 ∷ 0 ∷ []
answer_bytes (reported n) = 0 ∷ 0 ∷ 0 ∷ 0 ∷ []
answer_bytes (counted n) = 0 ∷ 0 ∷ 0 ∷ 0 ∷ []
answer_bytes (part x n) = 0 ∷ 0 ∷ 0 ∷ 0 ∷ []

unfoldable pub bytes_of : List Reply → List ℕ
bytes_of [] = []
bytes_of (r ∷ rs) = answer_bytes r ++ bytes_of rs

-- the room with answers in it: past them it stays
unfoldable pub answers_in : List Reply → List ℕ → List ℕ
answers_in rs room = bytes_of rs ++ drop (4 * length rs) room

-- ---- what is done at a desk: a call, a round with so many bytes lent for its turns, a run, by the acts that its fields ask of a switch
-- of these settings (paper 02, Q-10), or a look, which changes nothing: an audit, a finding, a repair that is refused

pub data Deed : Type 0 where
  one : Call → Deed
  round : ℕ → Deed
  runs : (Settings → List Act) → Deed
  look : Deed

-- the calls that a deed is, one by one; and whether it is a round, a refused one being none
pub record Carried : Type 0 where
  pub a_round : Bool
  pub calls : List Call

abbrev pub nothing : Carried
nothing = record { a_round = false; calls = [] }

-- "refusals inside are passed over": the round goes on with its next call
abbrev pub whole_round : Settings → Carried
whole_round S = record { a_round = true; calls = map act (round_acts S) }

abbrev pub done_by : Desk → Deed → Carried
done_by D (one c) = record { a_round = false; calls = c ∷ [] }
done_by none (round n) = nothing
done_by (has S L) (round n) = guard (round_rules S n) (λ r. nothing) (whole_round S)
done_by none (runs f) = nothing
done_by (has S L) (runs f) = record { a_round = false; calls = map act (f S) }
done_by D look = nothing

-- of a call and its answer: the answer, if the call is a turn
abbrev pub of_turn : Call → Reply → List Reply
of_turn (setup T) r = []
of_turn (act (arrive p h)) r = []
of_turn (act (stitch p)) r = []
of_turn (act (prefetch p q)) r = []
of_turn (act (credit p q n)) r = []
of_turn (act (map_to d p)) r = []
of_turn (act (turn c p)) r = r ∷ []
of_turn (act (ready p)) r = []
of_turn (act (where_is y)) r = []
of_turn (act (clear p)) r = []
of_turn (act (report p)) r = []
of_turn (act (bucket p b)) r = []
of_turn (act (show ns p q)) r = []

abbrev pub turn_answers : List Call → List Reply → List Reply
turn_answers [] rs = []
turn_answers (c ∷ cs) [] = []
turn_answers (c ∷ cs) (r ∷ rs) = of_turn c r ++ turn_answers cs rs
