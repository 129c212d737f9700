-- From door to door, on memory: what is proved of the desk holds of memory, by the square. Assumes nothing.
use mathlib.Core.Path.{◌≡◌, refl, sym, ap, ◌∙◌}
use mathlib.Core.Bool.{Bool, true, false, cond}
use mathlib.Core.List.{List, [], ◌∷◌}
use Prim.Native.Nat.{ℕ}
use Rattle.ledger.specs.Calls.{Reply, refused, done, is_refused}
use Rattle.ledger.specs.Desk.{after_calls}
use Rattle.ledger.proofs.Tests.{true≢false}
use Rattle.ledger.proofs.Rows.{roomy}
use Rattle.ledger.proofs.Courses.{calls_append}
use Rattle.ledger.proofs.Door.{leaves_soon_from, door_to_door_from, nobody_starves_in_rounds_from}
use lib.ListN.{length}
use Rattle.layout.specs.Picture.{settings_in, opens}
use Rattle.memory.specs.Memory.{picture}
use Rattle.memory.specs.Demands.{on_memory}
use Rattle.memory.specs.Repair.{repair_mem, repaired}
use Rattle.memory.specs.Rounds.{round_on, round_calls, RoundIsCalls}
use Rattle.memory.specs.Runs.{Report, run_on, run_calls, RunIsCalls}
use Rattle.memory.specs.Rounds.{LeavesSoonInMemory, DoorToDoorInMemory, NobodyStarvesInRoundsInMemory}
use Rattle.memory.specs.Deeds.{LentDeed, lent_call, lent_round, lent_run, lent_audit, lent_find, lent_repair}
use Rattle.memory.specs.Deeds.{left_by, calls_by, calls_in, is_repair, DeedsAreCalls}
use Rattle.memory.proofs.Demands.{pictured_state, memory_faithful}
use Rattle.memory.proofs.Rounds.{round_is_calls}
use Rattle.memory.proofs.Runs.{run_is_calls}

left_by_round : (m room : List ℕ) → (round_on m room).1 ≡ after_calls on_memory m (round_calls m room)
unfolding RoundIsCalls
left_by_round m room = ap (λ (out : Reply × List ℕ × List ℕ). out.1) (round_is_calls m room)

left_by_run : (m s room : List ℕ) → (run_on m s room).1 ≡ after_calls on_memory m (run_calls m s room)
unfolding RunIsCalls
left_by_run m s room = ap (λ (out : Report × List ℕ × List ℕ). out.1) (run_is_calls m s room)

-- a refused repair leaves memory as it was
pub refused_repair_keeps : (m : List ℕ) → is_refused (repaired m).0 ≡ true → (repaired m).1 ≡ m
unfolding repaired
refused_repair_keeps m = go (opens m)
  where
    out : Bool → Reply × List ℕ
    out b = cond b (done, repair_mem (settings_in m) m) (refused 3, m)

    go : (b : Bool) → is_refused (out b).0 ≡ true → (out b).1 ≡ m
    go true e = absurd (true≢false (sym e))
    go false e = refl

-- a deed that is no repair that stands leaves what its calls leave one by one
pub deed_is_calls : (m : List ℕ) (d : LentDeed) → (is_repair d ≡ true → is_refused (repaired m).0 ≡ true)
    → left_by m d ≡ after_calls on_memory m (calls_by m d)
deed_is_calls m (lent_call c) r = refl
deed_is_calls m (lent_round room) r = left_by_round m room
deed_is_calls m (lent_run s room) r = left_by_run m s room
deed_is_calls m (lent_audit room) r = refl
deed_is_calls m lent_find r = refl
deed_is_calls m lent_repair r = refused_repair_keeps m (r refl)

-- and so do deeds
pub deeds_are_calls : DeedsAreCalls
unfolding DeedsAreCalls
deeds_are_calls m [] r = refl
deeds_are_calls m (d ∷ ds) r =
    let cs = calls_by m d in
    deeds_are_calls (left_by m d) ds r.1
    ∙ ap (λ (n : List ℕ). after_calls on_memory n (calls_in n ds)) (deed_is_calls m d r.0)
    ∙ sym (calls_append on_memory m cs (calls_in (after_calls on_memory m cs) ds))

pub leaves_soon_in_memory : LeavesSoonInMemory
unfolding LeavesSoonInMemory
leaves_soon_in_memory m S L e =
    let s = (pictured_state m S L e).1 in
    leaves_soon_from on_memory picture length memory_faithful S (roomy S s.rows) m L e s.orderly

pub door_to_door_in_memory : DoorToDoorInMemory
unfolding DoorToDoorInMemory
door_to_door_in_memory m S L e =
    let s = (pictured_state m S L e).1 in
    door_to_door_from on_memory picture length memory_faithful S (roomy S s.rows) m L e s.orderly

pub nobody_starves_in_rounds_in_memory : NobodyStarvesInRoundsInMemory
unfolding NobodyStarvesInRoundsInMemory
nobody_starves_in_rounds_in_memory m S L e =
    let s = (pictured_state m S L e).1 in
    nobody_starves_in_rounds_from on_memory picture length memory_faithful S (roomy S s.rows) m L e s.orderly
