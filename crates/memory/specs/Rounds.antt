-- A round on memory: round_on, the function that its contract names. The memory is tested once. That this is what the same calls leave and
-- answer one by one is `round_is_calls` (proofs/Rounds.antt). Assumes nothing.
use Rattle.std.specs.Prelude.{◌≡◌, List, [], ◌∷◌, ◌++◌, ℕ, ◌*◌, ◌<◌, length, get_or, take, drop}
use Rattle.ledger.specs.Settings.{Settings}
use Rattle.ledger.specs.Rules.{guard}
use Rattle.ledger.specs.Ledger.{Ledger}
use Rattle.ledger.specs.Buckets.{Clock}
use Rattle.ledger.specs.Calls.{Act, turn, ready, Reply, refused, done}
use Rattle.ledger.specs.Desk.{has, Call, act, after_calls, answers_of}
use Rattle.ledger.specs.Rounds.{stitches, prefetches, turns, round_acts, round_rules, round_reply, answers_in, round, done_by}
use Rattle.ledger.specs.Rounds.{turn_answers, answer_bytes}
use Rattle.ledger.specs.Door.{LeavesSoonFrom, DoorToDoorFrom, NobodyStarvesInRoundsFrom}
use Rattle.layout.specs.Picture.{settings_in, State}
use Rattle.memory.specs.Memory.{state_dec, picture, acted, M}
use Rattle.memory.specs.Demands.{on_memory}

-- acts one after another on a memory that is a switch state: what they leave, and their answers
abbrev pub after_acts : Settings → List ℕ → List Act → List ℕ
after_acts S m [] = m
after_acts S m (a ∷ acts) = after_acts S (acted S m a).1 acts

abbrev pub answers_to : Settings → List ℕ → List Act → List Reply
answers_to S m [] = []
answers_to S m (a ∷ acts) = (acted S m a).0 ∷ answers_to S (acted S m a).1 acts

-- the answers of a round's turns
abbrev pub turns_told : Settings → List ℕ → List Reply
turns_told S m = answers_to S (after_acts S m (stitches S ++ prefetches S)) (turns S)

-- a round on a memory that is a switch state: the answer, and what it leaves of the memory and of the room that was lent for the turns
unfoldable pub rounded : Settings → List ℕ → List ℕ → Reply × List ℕ × List ℕ
rounded S m room =
    guard (round_rules S (length room)) (λ n. (refused n, m, room)) (done, after_acts S m (round_acts S), answers_in (turns_told S m) room)

abbrev pub round_tested : (m : List ℕ) → Dec (State m) → List ℕ → Reply × List ℕ × List ℕ
round_tested m (yes s) room = rounded (settings_in m) m room
round_tested m (no n) room = (refused 3, m, room)

-- on any memory and any room
unfoldable pub round_on : List ℕ → List ℕ → Reply × List ℕ × List ℕ
round_on m room = round_tested m (state_dec m) room

-- the calls that a round into this room is
abbrev pub round_calls : List ℕ → List ℕ → List Call
round_calls m room = (done_by (picture m) (round (length room))).calls

-- its answer is the desk's, and memory and answers are those of the same calls one by one
unfoldable pub RoundIsCalls : Type 0
RoundIsCalls =
    (m room : List ℕ)
    → round_on m room ≡ (
      round_reply (picture m) (length room),
      after_calls on_memory m (round_calls m room),
      answers_in (turn_answers (round_calls m room) (answers_of on_memory m (round_calls m room))) room,
    )

-- What the caller of a round sees: where call number j of it is the turn of port p, four bytes of the room, from 4 × p on, tell what that
-- call answers.
unfoldable pub RoomTells : Type 0
RoomTells =
    (m room : List ℕ) (j : ℕ) (c : Clock) (p : ℕ) → j < length (round_calls m room) → get_or (round_calls m room) j (act (ready 0)) ≡ act (turn c p)
    → take 4 (drop (4 * p) (round_on m room).2) ≡ answer_bytes (M (act (turn c p)) (after_calls on_memory m (take j (round_calls m room)))).0

-- ---- from door to door, on any memory that is a switch state

unfoldable pub LeavesSoonInMemory : Type 0
LeavesSoonInMemory = (m : List ℕ) (S : Settings) (L : Ledger) → picture m ≡ has S L → LeavesSoonFrom on_memory picture S m

unfoldable pub DoorToDoorInMemory : Type 0
DoorToDoorInMemory = (m : List ℕ) (S : Settings) (L : Ledger) → picture m ≡ has S L → DoorToDoorFrom on_memory picture S L m

unfoldable pub NobodyStarvesInRoundsInMemory : Type 0
NobodyStarvesInRoundsInMemory = (m : List ℕ) (S : Settings) (L : Ledger) → picture m ≡ has S L → NobodyStarvesInRoundsFrom on_memory picture S L m
