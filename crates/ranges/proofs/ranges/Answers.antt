-- `ranges::ranges` meets its contract: a number that is out of range is the first item that is, and else the lists decide. Assumes nothing.
use mathlib.Core.Path.{sym, ap, ◌∙◌}
use Prim.Native.Nat.{ℕ, ◌+◌, ◌*◌}
use Rattle.layout.specs.Shapes.{settings_of}
use Rattle.ranges.specs.First.{first}
use Rattle.ranges.specs.Ranges.{fits_at, ranges_found}
use Rattle.ranges.proofs.Slots.{low_found}
use Rattle.ranges.proofs.ranges.Goals as goal

pub returns-in-Some : goal.returns-in-Some
returns-in-Some c =
    sym (low_found (settings_of c.args.s) c.args.m.now c.args.s.laid.roomy _ (sym c.number_outside.ensures ∙ c.in-Some.is))

pub returns : goal.returns
unfolding ranges_found
returns c =
    let S = settings_of c.args.s in
    c.first_outside.ensures ∙ ap (λ (n : ℕ). first (fits_at S c.args.m.now) (n + S.ports * S.queues)) c.number_items-from.ensures
