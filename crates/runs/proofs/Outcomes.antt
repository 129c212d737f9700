-- No two outcomes of a run report the same. Assumes nothing.
use mathlib.Core.Path.{◌≡◌, refl, ap}
use native.Mathlib.Omega.{arith}
use Rattle.std.specs.Prelude.{Result, Ok, Err}
use Rattle.ledger.specs.Answers.{number_of}
use Rattle.ledger.specs.declared.Refusal.{Refusal}
use Rattle.ledger.proofs.Answers.{number_inj}
use Rattle.runs.specs.Runs.{why_of, report_in}
use Rattle.runs.specs.declared.Ran.{Ran}
use Rattle.runs.specs.declared.Why.{Why}
use Rattle.runs.specs.declared.Why.TheVariants.{Ended, BadField, NoRoom}

why_inj : (a b : Why) → why_of a ≡ why_of b → a ≡ b
why_inj Ended Ended e = refl
why_inj Ended BadField e = absurd (omega (arith, e))
why_inj Ended NoRoom e = absurd (omega (arith, e))
why_inj BadField Ended e = absurd (omega (arith, e))
why_inj BadField BadField e = refl
why_inj BadField NoRoom e = absurd (omega (arith, e))
why_inj NoRoom Ended e = absurd (omega (arith, e))
why_inj NoRoom BadField e = absurd (omega (arith, e))
why_inj NoRoom NoRoom e = refl

ran_alike : (r t : Ran) → r.count ≡ t.count → r.why ≡ t.why → r ≡ t
ran_alike r t p q i = record { count = p i; why = q i }

pub outcome_inj : (r t : Result Ran Refusal) → report_in r ≡ report_in t → r ≡ t
outcome_inj (Ok r) (Ok t) e =
    let c : r.count ≡ t.count = cc in
    let w : why_of r.why ≡ why_of t.why = cc in
    ap Ok (ran_alike r t c (why_inj r.why t.why w))
outcome_inj (Ok r) (Err n) e = cc
outcome_inj (Err n) (Ok t) e = cc
outcome_inj (Err n) (Err k) e = let i : number_of n ≡ number_of k = cc in ap Err (number_inj n k i)
