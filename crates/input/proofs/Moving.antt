-- What is left of the input is moved to the front; with no code. Assumes nothing.
use mathlib.Core.Logic.{inl, inr}
use mathlib.Core.Path.{◌≡◌, refl, sym, ap, ◌∙◌}
use mathlib.Core.List.{List, [], ◌∷◌, ◌++◌}
use Prim.Native.Nat.{ℕ, ◌+◌, ◌-◌, ◌≤◌, ◌<◌}
use native.Mathlib.Numerals.{add-one}
use native.Mathlib.Omega.{arith}
use lib.ListN.{length, get_or, take, drop, set, length-set, length-drop}
use lib.Seq.{take-suc, take-suc-set, drop-drop, drop-set-lt, get_or-drop}
use Rattle.input.specs.Inputs.{unread, Kept}

-- i bytes are moved to the front, and from place i on all stand as they did
pub record Moved (old : List ℕ) (from i : ℕ) (bytes : List ℕ) : Type 0 where
  pub same : length bytes ≡ length old
  pub front : take i bytes ≡ take i (drop from old)
  pub rest : drop i bytes ≡ drop i old

pub moved_step :
    (old : List ℕ) (from i : ℕ) (bytes : List ℕ) → from + i < length old → Moved old from i bytes
    → Moved old from (i + 1) (set bytes i (get_or bytes (from + i) 0))
moved_step old from i bytes h v = record {
  same = length-set bytes i _ ∙ v.same;
  front =
      rw (add-one, byte)
      (take-suc-set bytes i _ (omega (arith, v.same))
      ∙ ap (λ (l : List ℕ). l ++ (get_or (drop from old) i 0 ∷ [])) v.front
      ∙ sym (take-suc (drop from old) i 0 (simp length-drop (omega arith))));
  rest =
      drop-set-lt (i + 1) bytes i _ (omega arith)
      ∙ sym (drop-drop 1 i bytes)
      ∙ ap (drop 1) v.rest
      ∙ drop-drop 1 i old;
}
  where
    byte : get_or bytes (from + i) 0 ≡ get_or (drop from old) i 0
    byte =
        let swap : from + i ≡ i + from = omega arith in
        rw (get_or-drop from old i 0, swap, ← get_or-drop i bytes from 0, v.rest) (get_or-drop i old from 0)

-- what is left is enough
pub kept_there : (bytes : List ℕ) (from to : ℕ) → from ≤ to → Kept bytes from to bytes from to
kept_there bytes from to h = record { place = inl (refl, refl); more = omega arith; front = refl }

-- what is left is moved to the front, and read on from
pub kept_moved :
    (bytes : List ℕ) (from to : ℕ) (between : List ℕ) {rest from' to' : ℕ} {bytes' : List ℕ}
    → rest ≡ to - from → take (to - from) between ≡ unread bytes from to → from' ≡ 0 → rest ≤ to' → take rest bytes' ≡ take rest between
    → Kept bytes from to bytes' from' to'
kept_moved bytes from to between all front start more on = record { place = inr start; more = omega arith; front = rw start (rw all at on ∙ front) }
