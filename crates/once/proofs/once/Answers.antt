-- `once::once` meets its contract. The loop's invariant: what is found in all lists is what is found from `l` on. Assumes nothing.
use mathlib.Core.Path.{refl, sym, ◌∙◌}
use native.Mathlib.Omega.{arith}
use Rattle.once.proofs.Bits.{marks_length}
use Rattle.once.proofs.Walk.{scan_start, scan_no, scan_yes, scan_end}
use Rattle.once.proofs.once.Goals as goal

pub loop-l-init : goal.loop-l-init
loop-l-init c = (refl, scan_start _ _ _ c.requires.clear)

pub returns-then-not-walk_list : goal.returns-then-not-walk_list
returns-then-not-walk_list c = sym (scan_no c.loop-l.invariant.1 (omega arith) (sym c.walk_list.ensures.answer ∙ c.if-not-walk_list.true))

pub loop-l-preserved : goal.loop-l-preserved
loop-l-preserved c =
    let yes = c.if-not-walk_list.false in (
      c.walk_list.auto.marks ∙ c.loop-l.invariant.0,
      scan_yes c.loop-l.invariant.1 (omega arith) (sym c.walk_list.ensures.answer ∙ yes) _
          (marks_length _ _ ∙ sym (marks_length _ _)) (c.walk_list.ensures.after yes),
    )

pub returns : goal.returns
returns c =
    c.first_unmarked.ensures ∙ sym (scan_end c.loop-l.invariant.1 (omega arith))
