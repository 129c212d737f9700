-- What the two numbers of `vr_find` mean, 1 for rule (a) and so on; and what they say of a repair. Assumes nothing.
use mathlib.Core.Path.{◌≡◌, refl, sym, ap, subst, ◌∙◌}
use mathlib.Core.Logic.{◌↔◌}
use mathlib.Core.Bool.{Bool, true, false}
use mathlib.Core.List.{List}
use Rattle.std.specs.Prelude.{Option, None, Some}
use Prim.Native.Nat.{ℕ}
use native.Mathlib.Omega.{arith}
use Rattle.ledger.specs.declared.Broken.{Broken}
use Rattle.ledger.specs.declared.Rule.{Rule}
use Rattle.ledger.specs.declared.Rule.TheVariants.{A}
use Rattle.ledger.specs.Letters.{letter#}
use Rattle.ledger.specs.Calls.{Reply}
use Rattle.layout.specs.Picture.{opens, State}
use Rattle.memory.specs.Repair.{repaired}
use Rattle.memory.proofs.Repair.{repair_refused, repair_done}
use Rattle.sound.specs.Sound.{broken_in}
use Rattle.findings.specs.Findings.{Finds, Means}
use Rattle.findings.proofs.Findings.{numbered, letter_one, finding_means, finding_a, finding_none}
use Rattle.ledger.specs.Answers.{number_in}
use Rattle.rooms.specs.Rooms.{rule_number, item_number, found_numbers}

module _ (m : List ℕ) (x : Rule) (i : ℕ) where
  -- a finding of rule y and item j, told as the number of x and i
  told : (y : Rule) (j : ℕ) → Finds y j m → ◌≡◌ {A = ℕ × ℕ} (letter# y, j) (letter# x, i) → Finds x i m
  told y j f e =
      let same : y ≡ x = letter_one y x (ap (λ (p : ℕ × ℕ). p.0) e) in
      let item : j ≡ i = ap (λ (p : ℕ × ℕ). p.1) e in
      subst (λ (k : ℕ). Finds x k m) item (subst (λ (r : Rule). Finds r j m) same f)

  by_number : (b : Option Broken) → Means b m → found_numbers b ≡ (letter# x, i) → Finds x i m
  by_number None f e = absurd (let z : 0 ≡ letter# x = ap (λ (p : ℕ × ℕ). p.0) e in omega (arith, (numbered x).low))
  by_number (Some b) f e = told b.rule b.item f e

  -- the number of a rule, and an item: that rule is the first that is broken, and that item the first that shows it
  pub vr_find_means : found_numbers (broken_in m) ≡ (letter# x, i) → Finds x i m
  vr_find_means e = by_number (broken_in m) (finding_means m) e

nothing : (b : Option Broken) → rule_number b ≡ 0 → b ≡ None
nothing None e = refl
nothing (Some b) e = absurd (omega (arith, e, (numbered b.rule).low))

-- rule 0 and item 0 exactly if the memory is a switch state
pub vr_find_none : (m : List ℕ) → (found_numbers (broken_in m) ≡ (0, 0)) ↔ State m
vr_find_none m = (
  λ e. (finding_none m).0 (nothing (broken_in m) (ap (λ (p : ℕ × ℕ). p.0) e)),
  λ s. ap found_numbers ((finding_none m).1 s),
)

-- a repair is refused 3 exactly where the rule is (a)
pub vr_repair_refused : (m : List ℕ) → (number_in (repaired m).0 ≡ 3) ↔ (rule_number (broken_in m) ≡ 1)
vr_repair_refused m = go (opens m) refl
  where
    first : rule_number (broken_in m) ≡ 1 → Finds A (item_number (broken_in m)) m
    first e = vr_find_means m A (item_number (broken_in m)) (ap (λ (n : ℕ). (n, item_number (broken_in m))) e)

    go : (b : Bool) → opens m ≡ b → (number_in (repaired m).0 ≡ 3) ↔ (rule_number (broken_in m) ≡ 1)
    go true o = (
      λ e. absurd (let z : 0 ≡ 3 = sym (ap (λ (out : Reply × List ℕ). number_in out.0) (repair_done m o)) ∙ e in omega arith),
      λ e. absurd ((first e).broken o),
    )
    go false o = (λ e. ap rule_number (finding_a m o), λ e. ap (λ (out : Reply × List ℕ). number_in out.0) (repair_refused m o))
