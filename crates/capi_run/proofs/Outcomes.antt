-- vr_run has one outcome: any two that its contract allows are identical, the number, the memory and the rooms. Assumes nothing.
use mathlib.Core.Path.{sym, ap, ◌∙◌}
use mathlib.Core.List.{List}
use Prim.Native.Nat.{ℕ}
use Rattle.ledger.specs.Outcome.{OneOutcome}
use Rattle.capi_run.specs.contracts.vr_run
use Rattle.capi_run.proofs.vr_run.Reads as vr_run_says

pub vr_run_one : OneOutcome vr_run.ended vr_run_says.Learnt
vr_run_one κs a r r₂ left left₂ p q =
    let e = p ∙ sym q in (
      ap (λ (o : ℕ × List ℕ × List ℕ × ℕ × ℕ). o.0) e,
      ap (λ (o : ℕ × List ℕ × List ℕ × ℕ × ℕ). (o.1, (tt, (o.2, (o.3, (o.4, tt)))))) e,
    )
