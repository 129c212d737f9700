-- `sound::whole_in` meets its contract: the numbers, the marks, and then what one walk decides. Assumes nothing.
use mathlib.Core.Path.{sym, ap, ◌∙◌}
use mathlib.Core.Bool.{not, false≢true}
use Rattle.ranges.proofs.Slots.{ranges_low}
use Rattle.sound.proofs.Walks.{kept_clean, not_kept, none_is, found_not}
use Rattle.sound.proofs.whole_in.Goals as goal
use Rattle.sound.proofs.whole_in.Goals.{then-is_none, else-is_none}

pub returns-then-is_none-2 : goal.returns-then-is_none-2
returns-then-is_none-2 c =
    let R = c.args.s.laid.roomy in
    let told = c.one_walk.ensures in
    elim c.if-is_none.branch [
      | then-is_none w ↦
          let low = sym c.number_outside.ensures ∙ none_is _ w.if-is_none.ensures in
          let marked = sym w.wrong_mark.ensures
          ∙ none_is _ (w.is_none-then-is_none.ensures ∙ ap not (sym w.value-is ∙ c.if-is_none-2.true)) in
          record {
            yes = λ e. kept_clean _ _ R low marked _ told (sym c.is_ok.ensures.value ∙ e);
            no = λ e. not_kept _ _ R _ told (sym c.is_ok.ensures.value ∙ e);
          }
      | else-is_none w ↦ absurd (false≢true (sym (w.value-is ∙ w.if-is_none.false) ∙ c.if-is_none-2.true))
    ]

pub returns-else-is_none-2 : goal.returns-else-is_none-2
returns-else-is_none-2 c =
    let R = c.args.s.laid.roomy in
    record {
      yes = λ e. absurd (false≢true (sym c.if-is_none-2.false ∙ e));
      no = λ e k. elim c.if-is_none.branch [
        | then-is_none w ↦
            found_not _ (w.is_none-then-is_none.ensures ∙ ap not (sym w.value-is ∙ c.if-is_none-2.false)) (w.wrong_mark.ensures ∙ k.marked)
        | else-is_none w ↦ found_not _ w.if-is_none.ensures (c.number_outside.ensures ∙ ranges_low _ _ R k.ranges)
      ];
    }
