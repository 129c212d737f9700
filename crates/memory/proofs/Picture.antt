-- What a memory pictures, by whether it is a switch state; and what it is to open. Assumes nothing.
use mathlib.Core.Path.{◌≡◌, refl, sym, ap, ◌∙◌, subst}
use mathlib.Core.Logic.{◌↔◌}
use mathlib.Core.Bool.{true}
use mathlib.Core.List.{List}
use Prim.Native.Nat.{ℕ, ◌≤◌}
use lib.ListN.{length}
use lib.Dec.{leb}
use Rattle.ledger.specs.Settings.{Settings, in_rows, size}
use Rattle.ledger.specs.Ledger.{Ledger}
use Rattle.ledger.specs.Desk.{none, has}
use Rattle.ledger.proofs.Tests.{leb_is, leb_yes, and_left, and_right}
use Rattle.layout.specs.Picture.{settings_in, opens, ledger_in, StateOf, State}
use Rattle.memory.specs.Memory.{state_dec, desk_of, picture}

pub picture_state : (m : List ℕ) → State m → picture m ≡ has (settings_in m) (ledger_in (settings_in m) m)
unfolding picture
picture_state m s = go (state_dec m)
  where
    go : (d : Dec (State m)) → desk_of m d ≡ has (settings_in m) (ledger_in (settings_in m) m)
    go (yes t) = refl
    go (no n) = absurd (n s)

pub picture_none : (m : List ℕ) → (State m → ⊥) → picture m ≡ none
unfolding picture
picture_none m n = go (state_dec m)
  where
    go : (d : Dec (State m)) → desk_of m d ≡ none
    go (yes s) = absurd (n s)
    go (no k) = refl

pub picture_is : (S : Settings) (m : List ℕ) (L : Ledger) → settings_in m ≡ S → StateOf S m → ledger_in S m ≡ L → picture m ≡ has S L
picture_is S m L e s l =
    picture_state m (subst (λ (T : Settings). StateOf T m) (sym e) s)
    ∙ ap (λ (T : Settings). has T (ledger_in T m)) e
    ∙ ap (has S) l

-- rule (a)
pub opens_means : (m : List ℕ) → (opens m ≡ true) ↔ ((in_rows (settings_in m) ≡ true) × (size (settings_in m) ≤ length m))
opens_means m =
    let S = settings_in m in (
      λ o. (and_left (in_rows S) (leb (size S) (length m)) o, leb_yes (size S) (length m) (and_right (in_rows S) (leb (size S) (length m)) o)),
      λ h. rw (h.0, leb_is (size S) (length m) h.1),
    )
