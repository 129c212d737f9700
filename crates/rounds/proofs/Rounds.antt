-- A loop of acts: where it stands, one number more, and its end; the same with turns told in a room. Assumes nothing.
use mathlib.Core.Path.{◌≡◌, refl, sym, ap, ◌∙◌, subst}
use mathlib.Core.List.{List, [], ◌∷◌, ◌++◌}
use Prim.Native.Nat.{ℕ, ◌+◌, ◌*◌, ◌≤◌, ◌<◌}
use native.Mathlib.Omega.{arith}
use lib.ListN.{length, take, drop}
use Rattle.ledger.specs.Buckets.{untimed}
use Rattle.ledger.specs.Calls.{Act, Reply, turn}
use Rattle.ledger.specs.Rounds.{each, answer_bytes, answers_in}
use Rattle.ledger.proofs.Told.{none_told, told_next}
use Rattle.layout.specs.declared.shape.Shape.{Shape}
use Rattle.layout.specs.Shapes.{settings_of}
use Rattle.memory.specs.Judged.{Works}
use Rattle.memory.specs.Memory.{acted}
use Rattle.memory.specs.Rounds.{after_acts, answers_to}
use Rattle.memory.proofs.Rounds.{after_next, answers_next, as_many_answers, works_after_all}

-- of n numbers those below p are passed: their acts have made m of m₀, and it is a state of the same shape
pub record Passed (s : Shape) (f : ℕ → List Act) (m₀ : List ℕ) (n p : ℕ) (m : List ℕ) : Type 0 where
  pub below : p ≤ n
  pub same_length : length m ≡ length m₀
  pub works : Works s m
  pub done : m ≡ after_acts (settings_of s) m₀ (each f p)

module _ {s : Shape} (f : ℕ → List Act) {m₀ : List ℕ} {n : ℕ} where
  pub passed_none : Works s m₀ → Passed s f m₀ n 0 m₀
  passed_none w = record { below = omega arith; same_length = refl; works = w; done = refl }

  module _ {p : ℕ} {m : List ℕ} (at : Passed s f m₀ n p m) where
    pub passed_next : {m' : List ℕ} → p < n → length m' ≡ length m → m' ≡ after_acts (settings_of s) m (f p) → Passed s f m₀ n (p + 1) m'
    passed_next l h e = record {
      below = omega arith;
      same_length = h ∙ at.same_length;
      works = subst (Works s) (sym e) (works_after_all s m (f p) at.works);
      done = e ∙ rw at.done (sym (after_next (settings_of s) f p m₀));
    }

-- ---- turns, told in a room

abbrev one : ℕ → List Act
one p = turn untimed p ∷ []

-- the turns of the ports below p are told in what was room₀
pub record Telling (s : Shape) (m₀ room₀ : List ℕ) (n p : ℕ) (m room : List ℕ) : Type 0 where
  pub passed : Passed s one m₀ n p m
  pub room_length : length room ≡ length room₀
  pub told : room ≡ answers_in (answers_to (settings_of s) m₀ (each one p)) room₀

module _ {s : Shape} {m₀ : List ℕ} {n : ℕ} where
  pub told_none : (room₀ : List ℕ) → Works s m₀ → Telling s m₀ room₀ n 0 m₀ room₀
  told_none room₀ w = record { passed = passed_none one w; room_length = refl; told = sym (none_told room₀) }

  module _ {room₀ : List ℕ} {p : ℕ} {m room : List ℕ} (at : Telling s m₀ room₀ n p m room) where
    abbrev rs : List Reply
    rs = answers_to (settings_of s) m₀ (each one p)

    abbrev r : Reply
    r = (acted (settings_of s) m (turn untimed p)).0

    answers_one : rs ++ (r ∷ []) ≡ answers_to (settings_of s) m₀ (each one (p + 1))
    answers_one =
        ap (λ (l : List ℕ). rs ++ ((acted (settings_of s) l (turn untimed p)).0 ∷ [])) at.passed.done ∙ sym (answers_next (settings_of s) one p m₀)

    pub told_one : {m' room' : List ℕ} → p < n → length m' ≡ length m → length room' ≡ length room
        → m' ≡ (acted (settings_of s) m (turn untimed p)).1 → room' ≡ take (4 * p) room ++ (answer_bytes r ++ drop (4 * p + 4) room)
        → Telling s m₀ room₀ n (p + 1) m' room'
    told_one l h i e f = record {
      passed = passed_next one at.passed l h e;
      room_length = i ∙ at.room_length;
      told =
          f
          ∙ rw at.told
          (told_next rs r room₀ p (as_many_answers (settings_of s) (turn untimed) p m₀) ∙ ap (λ (x : List Reply). answers_in x room₀) answers_one);
    }
