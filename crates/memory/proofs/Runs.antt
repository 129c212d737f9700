-- A run is the same calls one by one, and its room tells what each of them answers. Assumes nothing.
use mathlib.Core.Path.{◌≡◌, refl, sym, ap, ◌∙◌, subst}
use mathlib.Core.List.{List, map}
use Prim.Native.Nat.{ℕ, ◌*◌, ◌<◌}
use native.Mathlib.Nat.{not-suc-le-zero}
use native.Mathlib.Omega.{arith}
use lib.ListN.{length, get_or, take, drop, length-map, get_or-map}
use Rattle.ledger.specs.Settings.{Settings}
use Rattle.ledger.specs.Calls.{Act, ready, done}
use Rattle.ledger.specs.Desk.{Desk, Call, act, after_calls, answers_of}
use Rattle.ledger.specs.Rounds.{answer_bytes, answers_in, runs, done_by}
use Rattle.ledger.proofs.Told.{none_told, read_told}
use Rattle.layout.specs.Picture.{settings_in, StateOf, State}
use Rattle.memory.specs.Memory.{state_dec, desk_of, picture, M}
use Rattle.memory.specs.Demands.{on_memory}
use Rattle.memory.specs.Rounds.{answers_to}
use Rattle.memory.specs.Runs.{Report, refused_run, stretch_of, ran, run_tested, run_on, report_of, RunIsCalls, AnswersTell}
use Rattle.memory.proofs.Rounds.{acts_leave, acts_answer, answers_length, answer_at, call_after, take_map}

-- the calls of a run of fields into a room, at a desk that a memory pictures
abbrev calls_at : Desk → List ℕ → List ℕ → List Call
calls_at D s room = (done_by D (runs (λ S. (stretch_of S s (length room)).acts))).calls

pub run_is_calls : RunIsCalls
unfolding RunIsCalls run_on picture ran
run_is_calls m s room = go (state_dec m)
  where
    S : Settings
    S = settings_in m

    acts : List Act
    acts = (stretch_of S s (length room)).acts

    Same : Desk → Report × List ℕ × List ℕ → Type 0
    Same D out =
        let cs = calls_at D s room in
        out ≡ (report_of D s (length room), after_calls on_memory m cs, answers_in (answers_of on_memory m cs) room)

    go : (d : Dec (State m)) → Same (desk_of m d) (run_tested m d s room)
    go (yes t) = rw (acts_leave S m refl t acts, acts_answer S m refl t acts)
    go (no n) = ap (λ (l : List ℕ). (refused_run 3, m, l)) (sym (none_told room))

-- ---- where a memory is a state of these settings, and where it is none

module _ (m s room : List ℕ) where
  pub run_on_lem : (S : Settings) → settings_in m ≡ S → StateOf S m → ran S m s room ≡ run_on m s room
  unfolding run_on
  run_on_lem S e t = go (state_dec m)
    where
      go : (d : Dec (State m)) → ran S m s room ≡ run_tested m d s room
      go (yes k) = ap (λ (T : Settings). ran T m s room) (sym e)
      go (no n) = absurd (n (subst (λ (T : Settings). StateOf T m) (sym e) t))

  pub run_off : (State m → ⊥) → run_on m s room ≡ (refused_run 3, m, room)
  unfolding run_on
  run_off n = go (state_dec m)
    where
      go : (d : Dec (State m)) → run_tested m d s room ≡ (refused_run 3, m, room)
      go (yes t) = absurd (n t)
      go (no k) = refl

-- ---- what the caller sees

pub answers_tell : AnswersTell
unfolding AnswersTell run_on picture ran
answers_tell m s room j = go (state_dec m)
  where
    S : Settings
    S = settings_in m

    acts : List Act
    acts = (stretch_of S s (length room)).acts

    Tells : Desk → Report × List ℕ × List ℕ → Type 0
    Tells D out =
        let cs = calls_at D s room in
        j < length cs
        → take 4 (drop (4 * j) out.2) ≡ answer_bytes (M (get_or cs j (act (ready 0))) (after_calls on_memory m (take j cs))).0

    go : (d : Dec (State m)) → Tells (desk_of m d) (run_tested m d s room)
    go (yes t) = λ h.
        let few : j < length acts = omega (arith, h, length-map acts act) in
        read_told (answers_to S m acts) room j done (omega (arith, few, answers_length S m acts))
        ∙ ap answer_bytes
        (answer_at S acts m j done (ready 0) few
        ∙ call_after S m refl t (take j acts) (get_or acts j (ready 0))
        ∙ ap (λ (cs : List Call). (M (act (get_or acts j (ready 0))) (after_calls on_memory m cs)).0) (sym (take_map j acts))
        ∙ ap (λ (c : Call). (M c (after_calls on_memory m (take j (map act acts)))).0) (sym (get_or-map act acts j (ready 0))))
    go (no n) = λ h. absurd (not-suc-le-zero h)
