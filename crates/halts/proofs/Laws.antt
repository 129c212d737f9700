-- What clear, report and rule (i) come to, with no code. Assumes nothing.
use mathlib.Core.Path.{◌≡◌, refl, sym, ap, ◌∙◌}
use mathlib.Core.Logic.{◌↔◌}
use mathlib.Core.List.{List}
use Prim.Native.Nat.{ℕ, ◌≤◌, ◌<◌}
use Rattle.ledger.specs.Settings.{Settings}
use Rattle.ledger.specs.Ledger.{mark_of}
use Rattle.ledger.specs.Halt.{is_mark}
use Rattle.ledger.specs.Calls.{refused, done, reported, clear, report}
use Rattle.ledger.specs.Sound.{Marked}
use Rattle.std.specs.Prelude.{None}
use Rattle.ledger.proofs.Tests.{leb_is, leb_not}
use Rattle.layout.specs.declared.Table.TheVariants.{Halted}
use Rattle.layout.specs.Tables.{get, put}
use Rattle.layout.specs.Picture.{ledger_in}
use Rattle.memory.specs.Judged.{judged}
use Rattle.memory.specs.Memory.{acted}
use Rattle.memory.proofs.Judged.{acted_good, acted_bad}
use Rattle.parts.proofs.Laws.{mark_is}
use Rattle.ranges.proofs.First.{first_all}
use Rattle.halts.specs.Marks.{marks_found}

-- ---- clear and report

module _ (S : Settings) (m : List ℕ) (p : ℕ) where
  pub clear_no_port : S.ports ≤ p → (refused 4, m) ≡ acted S m (clear p)
  clear_no_port h = sym (acted_bad S m (clear p) refl 4 (unfold judged in rw (leb_is S.ports p h)))

  pub clears : p < S.ports → (done, put S Halted p 0 m) ≡ acted S m (clear p)
  clears h = sym (acted_good S m (clear p) (unfold judged in rw (leb_not S.ports p h)))

  pub report_no_port : S.ports ≤ p → refused 4 ≡ (acted S m (report p)).0
  report_no_port h = sym (ap (λ out. out.0) (acted_bad S m (report p) refl 4 (unfold judged in rw (leb_is S.ports p h))))

  pub reports : p < S.ports → reported (mark_of (ledger_in S m) p) ≡ (acted S m (report p)).0
  reports h = sym (ap (λ out. out.0) (acted_good S m (report p) (unfold judged in rw (leb_not S.ports p h))))

-- ---- rule (i)

-- nothing is found exactly where the rule holds
pub marks_mean : (S : Settings) (m : List ℕ) → (marks_found S m ≡ None) ↔ Marked S (ledger_in S m)
unfolding marks_found
marks_mean S m =
    let each = first_all (λ p. is_mark (get S m Halted p)) S.ports in (
      λ e p h. ap is_mark (mark_is S m p h) ∙ each.0 e p h,
      λ k. each.1 (λ p h. ap is_mark (sym (mark_is S m p h)) ∙ k p h),
    )
