-- Where a run stands between two of its calls: what it did, and that the whole is that and the rest from here. Assumes nothing.
use mathlib.Core.Path.{◌≡◌, refl, sym, ap, ◌∙◌}
use mathlib.Core.List.{List, [], ◌∷◌, ◌++◌, append-nil, append_assoc}
use Prim.Native.Nat.{ℕ, suc, ◌+◌, ◌-◌, ◌*◌, ◌/◌, ◌≤◌, ◌<◌}
use native.Mathlib.Omega.{arith}
use lib.ListN.{length, take, drop, length-append}
use Rattle.ledger.specs.Settings.{Settings}
use Rattle.ledger.specs.Header.{form, header_size}
use Rattle.ledger.specs.Calls.{Act, Reply}
use Rattle.ledger.specs.Rounds.{answers_in}
use Rattle.ledger.proofs.Told.{none_told, told_next}
use Rattle.layout.specs.declared.shape.Shape.{Shape}
use Rattle.layout.specs.Shapes.{settings_of}
use Rattle.memory.specs.Judged.{Works}
use Rattle.memory.specs.Memory.{acted}
use Rattle.memory.specs.Rounds.{after_acts, answers_to}
use Rattle.memory.specs.Runs.{does, asked_at, Stretch, stops, stretch, Report, did, ran}
use Rattle.memory.proofs.Rounds.{after_append, answers_append, answers_length}
use Rattle.memory.proofs.Stretch.{stretch_bad, stretch_ended, stretch_full, stretch_goes}
use Rattle.asks.specs.Asks.{task_act, ask_of}
use Rattle.asks.specs.declared.Task.{Task}
use Rattle.asks.specs.declared.Asked.{Asked}
use Rattle.asks.specs.declared.Asked.TheVariants.{Call, Bad, End}
use Rattle.words.specs.declared.Words.{Words}
use Rattle.words.specs.Kept.{Kept}
use Rattle.tasks.specs.Tasks.{Going, Done}
use Rattle.runs.specs.Runs.{why_of, stop_of}

-- the fields, the memory and the room that a run was lent, and what it found of them before its loop
module _ (s : Shape) (fields m₀ room₀ : List ℕ) (size fits : ℕ) where
  abbrev S : Settings
  S = settings_of s

  abbrev rest : ℕ → ℕ → Stretch
  rest count at = stretch size fields (fits - count) at

  pub record Along (at count : ℕ) (m room : List ℕ) (words : Words) : Type 0 where
    pub acts : List Act
    pub as_many : length acts ≡ count
    pub on : (stretch size fields fits 0).acts ≡ acts ++ (rest count at).acts
    pub why_on : (stretch size fields fits 0).why ≡ (rest count at).why
    pub memory : m ≡ after_acts S m₀ acts
    pub told : room ≡ answers_in (answers_to S m₀ acts) room₀
    pub going : Going s m words

  -- no word is made at first
  pub start_along : {words : Words} → Works s m₀ → Kept s m₀ words → Along 0 0 m₀ room₀ words
  start_along w k =
      let same : fits - 0 ≡ fits = omega arith in
      record {
        acts = [];
        as_many = refl;
        on = rw same;
        why_on = rw same;
        memory = refl;
        told = sym (none_told room₀);
        going = record { works = w; kept = k };
      }

  module _ {at count : ℕ} {m room : List ℕ} {words : Words} (k : Along at count m room words) where
    -- one call more
    pub next_along : (a : Act) (next : ℕ) {m' room' bytes : List ℕ} {words' : Words} → asked_at size fields at ≡ does a next → count < fits
        → Done s a m m' words' bytes → room' ≡ take (4 * count) room ++ (bytes ++ drop (4 * count + 4) room)
        → Along next (count + 1) m' room' words'
    next_along a next {bytes = bytes} e low d put =
        let r : Reply = (acted S m a).0 in
        let more : fits - count ≡ suc (fits - (count + 1)) = omega arith in
        let goes = ap (λ (n : ℕ). stretch size fields n at) more ∙ stretch_goes size fields at a next e (fits - (count + 1)) in
        let rs = answers_to S m₀ k.acts in
        record {
          acts = k.acts ++ (a ∷ []);
          as_many = length-append k.acts (a ∷ []) ∙ omega (arith, k.as_many);
          on = k.on ∙ ap (λ (t : Stretch). k.acts ++ t.acts) goes ∙ sym (append_assoc k.acts (a ∷ []) (rest (count + 1) next).acts);
          why_on = k.why_on ∙ ap (λ (t : Stretch). t.why) goes;
          memory = d.memory ∙ ap (λ (x : List ℕ). (acted S x a).1) k.memory ∙ sym (after_append S m₀ k.acts (a ∷ []));
          told =
              put
              ∙ ap (λ (x : List ℕ). take (4 * count) x ++ (bytes ++ drop (4 * count + 4) x)) k.told
              ∙ ap (λ (b : List ℕ). take (4 * count) (answers_in rs room₀) ++ (b ++ drop (4 * count + 4) (answers_in rs room₀))) d.told
              ∙ told_next rs r room₀ count (answers_length S m₀ k.acts ∙ k.as_many)
              ∙ ap (λ (x : List Reply). answers_in x room₀)
              (ap (λ (x : List ℕ). rs ++ ((acted S x a).0 ∷ [])) k.memory ∙ sym (answers_append S m₀ k.acts (a ∷ [])));
          going = d.going;
        }

    -- the end of the run: at what is no call, or where no more answers fit
    rest_stops : (r : Asked) → ask_of fields r ≡ asked_at size fields at → ((task : Task) (next : ℕ) → r ≡ Call task next → fits ≤ count)
        → rest count at ≡ stops (why_of (stop_of r))
    rest_stops (Call task next) e full =
        let h : fits ≤ count = full task next refl in
        let none : fits - count ≡ 0 = omega arith in
        ap (λ (n : ℕ). stretch size fields n at) none ∙ stretch_full size fields at (task_act fields task) next (sym e)
    rest_stops Bad e full = stretch_bad size fields at (sym e) (fits - count)
    rest_stops End e full = stretch_ended size fields at (sym e) (fits - count)

    pub stops_along : (r : Asked) → ask_of fields r ≡ asked_at size fields at → ((task : Task) (next : ℕ) → r ≡ Call task next → fits ≤ count)
        → size ≡ header_size (form S) → fits ≡ length room₀ / 4
        → ◌≡◌ {A = Report × List ℕ × List ℕ} (did count (why_of (stop_of r)), m, room) (ran S m₀ fields room₀)
    unfolding ran
    stops_along r e full size_is fits-is =
        let stop = rest_stops r e full in
        let all_acts = k.on ∙ ap (λ (t : Stretch). k.acts ++ t.acts) stop ∙ append-nil k.acts in
        rw (← size_is, ← fits-is, all_acts, k.why_on, stop, k.as_many, ← k.memory, ← k.told)
