-- Paper 02, Q-10: a run on memory: run_on, the function that its contract names. The memory is tested once. That this is what the same calls
-- leave and answer one by one is `run_is_calls` (proofs/Runs.antt). Assumes nothing.
use Rattle.std.specs.Prelude.{◌≡◌, Bool, cond, ◌&&◌, ◌⊎◌, List, [], ◌∷◌, ℕ, zero, suc, ◌+◌, ◌*◌, ◌/◌, ◌≤◌, ◌<◌, eqb, length, get_or, take, drop}
use Rattle.numbers.specs.Bytes.{number}
use Rattle.ledger.specs.Settings.{Settings}
use Rattle.ledger.specs.Header.{form, header_size, alone}
use Rattle.ledger.specs.Calls.{Act, arrive, ready}
use Rattle.ledger.specs.Desk.{Desk, none, has, Call, setup, act, after_calls, answers_of}
use Rattle.ledger.specs.Rounds.{answer_bytes, answers_in, runs, done_by}
use Rattle.fields.specs.Field.{field_at}
use Rattle.fields.specs.Calls.{whole_told}
use Rattle.fields.specs.Orders.{header_in, call_in}
use Rattle.fields.specs.declared.Field.{Field}
use Rattle.fields.specs.declared.Field.TheVariants as field
use Rattle.fields.specs.declared.Read.{Read}
use Rattle.fields.specs.declared.Read.TheVariants as read
use Rattle.layout.specs.Picture.{settings_in, State}
use Rattle.memory.specs.Memory.{state_dec, picture, M}
use Rattle.memory.specs.Demands.{on_memory}
use Rattle.memory.specs.Rounds.{after_acts, answers_to}

-- ---- what the field at a place asks of a run

-- an act, with the place past its field; or the field is bad; or the fields have ended
pub data Ask : Type 0 where
  does : Act → ℕ → Ask
  bad : Ask
  ended : Ask

-- "a lent run of the bench program's fields (setup's is bad)"
abbrev pub of_call : Call → ℕ → Ask
of_call (setup T) next = bad
of_call (act a) next = does a next

abbrev pub of_bench : List ℕ → Read → Ask
of_bench s (read.Call order next) = of_call (call_in order (header_in s order)) next
of_bench s read.Bad = bad
of_bench s read.End = ended

-- an arrival's field whose header has the size of the switch's own: beyond the paper, so that a switch of wide headers has runs too
abbrev pub is_own : ℕ → ℕ → ℕ → Bool
is_own size tag len = eqb tag 2 && eqb len (1 + size)

abbrev pub own_arrival : ℕ → List ℕ → ℕ → Act
own_arrival size s v = arrive (number 1 s v) (alone (take size (drop (v + 1) s)))

abbrev pub whole_asked : ℕ → List ℕ → ℕ → ℕ → ℕ → ℕ → Ask
whole_asked size s tag v len next = cond (is_own size tag len) (does (own_arrival size s v) next) (of_bench s (whole_told s tag v len next))

abbrev pub asked_by : ℕ → List ℕ → Field → Ask
asked_by size s (field.Whole tag v len next) = whole_asked size s tag v len next
asked_by size s field.Cut = bad
asked_by size s field.End = ended

-- at a place of the fields, of a switch whose headers have so many bytes
unfoldable pub asked_at : ℕ → List ℕ → ℕ → Ask
asked_at size s at = asked_by size s (field_at s at)

-- ---- the acts of a run, and why it stops

-- "why it stopped": the fields ended; "a bad field ends the run there"; "at a good field, where four bytes no longer fit"
abbrev pub the_end : ℕ
the_end = 0

abbrev pub bad_field : ℕ
bad_field = 1

abbrev pub no_room : ℕ
no_room = 2

pub record Stretch : Type 0 where
  pub acts : List Act
  pub why : ℕ

abbrev pub stops : ℕ → Stretch
stops n = record { acts = []; why = n }

-- with room for one answer more, and without
abbrev pub goes_on : Ask → (ℕ → Stretch) → Stretch
goes_on (does a next) rest = record { acts = a ∷ (rest next).acts; why = (rest next).why }
goes_on bad rest = stops bad_field
goes_on ended rest = stops the_end

abbrev pub halts : Ask → Stretch
halts (does a next) = stops no_room
halts bad = stops bad_field
halts ended = stops the_end

-- from a place of the fields on, where n answers more fit
unfoldable pub stretch : ℕ → List ℕ → ℕ → ℕ → Stretch
stretch size s zero at = halts (asked_at size s at)
stretch size s (suc n) at = goes_on (asked_at size s at) (λ next. stretch size s n next)

-- the whole run, into a room of n bytes: four for each answer
abbrev pub stretch_of : Settings → List ℕ → ℕ → Stretch
stretch_of S s n = stretch (header_size (form S)) s (n / 4) 0

-- ---- the run

-- "It reports how many fields it did and why it stopped"; or it is refused
pub data Report : Type 0 where
  refused_run : ℕ → Report
  did : ℕ → ℕ → Report

-- on a memory that is a switch state: the report, and what it leaves of the memory and of the room that was lent for the answers
unfoldable pub ran : Settings → List ℕ → List ℕ → List ℕ → Report × List ℕ × List ℕ
ran S m s room =
    let t = stretch_of S s (length room) in
    (did (length t.acts) t.why, after_acts S m t.acts, answers_in (answers_to S m t.acts) room)

abbrev pub run_tested : (m : List ℕ) → Dec (State m) → List ℕ → List ℕ → Report × List ℕ × List ℕ
run_tested m (yes t) s room = ran (settings_in m) m s room
run_tested m (no n) s room = (refused_run 3, m, room)

-- on any memory, any fields and any room
unfoldable pub run_on : List ℕ → List ℕ → List ℕ → Report × List ℕ × List ℕ
run_on m s room = run_tested m (state_dec m) s room

-- ---- as the same calls would one by one

-- the calls that a run of these fields into this room is
abbrev pub run_calls : List ℕ → List ℕ → List ℕ → List Call
run_calls m s room = (done_by (picture m) (runs (λ S. (stretch_of S s (length room)).acts))).calls

abbrev pub report_of : Desk → List ℕ → ℕ → Report
report_of none s n = refused_run 3
report_of (has S L) s n = let t = stretch_of S s n in did (length t.acts) t.why

-- its report is the desk's, and memory and answers are those of the same calls one by one
unfoldable pub RunIsCalls : Type 0
RunIsCalls =
    (m s room : List ℕ)
    → run_on m s room ≡ (
      report_of (picture m) s (length room),
      after_calls on_memory m (run_calls m s room),
      answers_in (answers_of on_memory m (run_calls m s room)) room,
    )

-- What the caller of a run sees: four bytes of the room, from 4 × j on, tell what call number j of it answers.
unfoldable pub AnswersTell : Type 0
AnswersTell =
    (m s room : List ℕ) (j : ℕ) → j < length (run_calls m s room)
    → take 4 (drop (4 * j) (run_on m s room).2)
    ≡ answer_bytes (M (get_or (run_calls m s room) j (act (ready 0))) (after_calls on_memory m (take j (run_calls m s room)))).0

-- ---- which fields a run does, and where and why it stops, in words

-- from place `at` on the fields ask these acts, one after another, and what is behind them stands at place `stop`
abbrev pub AskedInTurn : ℕ → List ℕ → ℕ → List Act → ℕ → Type 0
AskedInTurn size s at [] stop = at ≡ stop
AskedInTurn size s at (a ∷ acts) stop = (next : ℕ) × (asked_at size s at ≡ does a next) × AskedInTurn size s next acts stop

-- a good field stands at a place
abbrev pub GoodAt : ℕ → List ℕ → ℕ → Type 0
GoodAt size s at = (a : Act) × (next : ℕ) × (asked_at size s at ≡ does a next)

-- there the fields have ended; or a bad one stands there; or a good one, where there is no room
abbrev pub StoppedFor : ℕ → List ℕ → ℕ → Type 0 → ℕ → Type 0
StoppedFor size s stop full why =
    ((why ≡ the_end) × (asked_at size s stop ≡ ended))
    ⊎ ((why ≡ bad_field) × (asked_at size s stop ≡ bad))
    ⊎ ((why ≡ no_room) × full × GoodAt size s stop)

-- A run into n bytes of room does the fields from the first on, none left out, as many as have room, up to the first that is bad, the end, or
-- a good one "where four bytes no longer fit".
unfoldable pub RunStops : Type 0
RunStops =
    (S : Settings) (s : List ℕ) (n : ℕ)
    → let size = header_size (form S) in
    let t = stretch_of S s n in
    (4 * length t.acts ≤ n)
    × (stop : ℕ) × AskedInTurn size s 0 t.acts stop × StoppedFor size s stop (n < 4 * length t.acts + 4) t.why
