-- The laws of judging a header: an arrival's verdict by its parts, what a verdict says, and that the answer's meaning determines it. Assumes
-- nothing.
use mathlib.Core.Path.{◌≡◌, refl, sym}
use mathlib.Core.Bool.{Bool, true, false, not}
use mathlib.Core.List.{List, [], ◌∷◌, ◌++◌}
use Prim.Native.Nat.{ℕ}
use lib.Dec.{eqb}
use borrow.Author.Tests.{eq-eqb}
use Rattle.std.specs.Prelude.{Result, Ok, Err}
use Rattle.ledger.specs.Header.{Form, Fields, fields_of, Load, bytes_in, miscounted, arrival_rules}
use Rattle.ledger.specs.Rules.{Rule, refuse, guard, Clear}
use Rattle.ledger.specs.declared.Refusal.{Refusal}
use Rattle.ledger.proofs.Passes.{Passes, passes, guard_after}
use Rattle.ledger.proofs.Answers.{number_inj}
use Rattle.header.specs.Judge.{bad, good, verdict, verdict_of, byte_rules, field_rules, opened, settled}
use Rattle.header.specs.declared.HeaderFields.{HeaderFields}
use Rattle.header.proofs.Reading.{header_of_injective}

-- ---- rules one after another

-- what the first of them refuse is refused, whatever comes after them
pub first_bad_lem : {X : Type 0} (rs ts : List Rule) (f : Fields) (r : ℕ) (no' : ℕ → X) (out : X) → bad r ≡ guard rs bad (good f)
    → no' r ≡ guard (rs ++ ts) no' out
first_bad_lem [] ts f r no' out e = cc
first_bad_lem (refuse n true ∷ rs) ts f r no' out e = cc
first_bad_lem (refuse n false ∷ rs) ts f r no' out e = first_bad_lem rs ts f r no' out e

-- where they find nothing, none of them applies
pub first_good : (rs : List Rule) (f g : Fields) → good g ≡ guard rs bad (good f) → (g ≡ f) × Clear rs
first_good [] f g e = (cc, tt)
first_good (refuse n true ∷ rs) f g e = cc
first_good (refuse n false ∷ rs) f g e = let later = first_good rs f g e in (later.0, (refl, later.1))

-- ---- an arrival

module _ (F : Form) (n p : ℕ) (h : Load) where
  abbrev told : Fields
  told = fields_of F (bytes_in h)

  abbrev behind : List Rule
  behind = refuse 8 (not (eqb told.source p)) ∷ field_rules F n (miscounted F h) told

  pub of_opened : (r : ℕ) → bad r ≡ opened F h → bad r ≡ verdict F n p h
  of_opened r e = first_bad_lem (byte_rules F h) behind told r bad (good told) e

  -- from here on the bytes are right, and f has the header's fields
  module _ (f : Fields) (e : good f ≡ opened F h) where
    rest : guard behind bad (good told) ≡ verdict F n p h
    rest = sym (guard_after (byte_rules F h) behind bad (good told) (first_good (byte_rules F h) told f e).1)

    is : f ≡ told
    is = (first_good (byte_rules F h) told f e).0

    pub of_settled : (m : Bool) → m ≡ miscounted F h → f.source ≡ p → settled F n m f ≡ verdict F n p h
    of_settled m same right = let own = eq-eqb f.source p right in rw (← rest, ← is, own, ← same)

-- ---- what a verdict says

-- a good one: the fields are the header's, and it has no fault
pub good_means : (F : Form) (n p : ℕ) (h : Load) (f : Fields) → good f ≡ verdict F n p h → (f ≡ fields_of F (bytes_in h)) × Passes F n p h
good_means F n p h f e =
    let means = first_good (arrival_rules F n p h) (fields_of F (bytes_in h)) f e in
    (means.0, passes F n p h means.1)

pub verdict_of_injective : (a b : Result HeaderFields Refusal) → verdict_of a ≡ verdict_of b → a ≡ b
verdict_of_injective (Ok a) (Ok b) e = cc (header_of_injective a b (cc))
verdict_of_injective (Ok a) (Err b) e = cc
verdict_of_injective (Err a) (Ok b) e = cc
verdict_of_injective (Err a) (Err b) e = cc (number_inj a b (cc))
