-- `ranges::in_range` meets its contract: a number by the numbers' test, a prefetch list by its count. Assumes nothing.
use mathlib.Core.Path.{refl, sym, ap, ◌∙◌}
use Prim.Native.Nat.{ℕ, ◌-◌}
use native.Mathlib.Omega.{arith}
use lib.Dec.{leb}
use Rattle.layout.specs.declared.Table.TheVariants.{Count}
use Rattle.layout.specs.Tables.{get}
use Rattle.layout.specs.Shapes.{settings_of}
use Rattle.ranges.proofs.Items.{fits_list, prefetch_lt}
use Rattle.ranges.proofs.in_range.Goals as goal

pub get-count-requires : goal.get-count-requires
get-count-requires c =
    let a = c.args in
    let many = c.number_items-n.ensures in
    let low = prefetch_lt (settings_of a.s) a.m.now (a.i - c.number_items-n.result) (omega arith) (omega (arith, many, c.requires.low)) in
    record { long = c.requires.held.long; wide = refl; inside = omega (arith, c.prefetch_list.ensures) }

pub returns : goal.returns
returns c =
    let a = c.args in
    let read = c.get-count.ensures ∙ ap (get (settings_of a.s) a.m.now Count) c.prefetch_list.ensures in
    ap (λ (v : ℕ). leb v a.s.slots) read
    ∙ sym (fits_list (settings_of a.s) a.m.now a.i (a.i - c.number_items-n.result) (omega (arith, c.number_items-n.ensures)))
