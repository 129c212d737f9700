-- `paid::add_price` meets its contract. Assumes nothing.
use mathlib.Core.Path.{◌≡◌, ap, ap₂, ◌∙◌}
use Prim.Native.Nat.{ℕ, ◌-◌, ◌<◌}
use native.Mathlib.Omega.{arith}
use lib.ListN.{length, get_or}
use Rattle.ledger.specs.Ledger.{owner, cell}
use Rattle.layout.specs.Shapes.{settings_of}
use Rattle.paid.proofs.Passing.{sum_at, cell_in}
use Rattle.paid.proofs.add_price.Goals as goal
use Rattle.paid.proofs.add_price.Goals.{After-cell_of-c}

cell_is : (c : After-cell_of-c)
    → let a = c.args in c.cell_of-c.result ≡ cell (settings_of a.s) (owner a.x.0) (a.queue - 1)
cell_is c =
    c.cell_of-c.ensures ∙ ap₂ (λ (p q : ℕ). cell (settings_of c.args.s) p (q - 1)) (c.from.ensures ∙ c.port.ensures) c.from-then-queue-ne0.ensures

low : (c : After-cell_of-c) → c.cell_of-c.result < length c.args.sums.now
low c = let p = c.requires in omega (arith, cell_is c, cell_in _ _ _ _ _ p.held p.home (omega arith) p.inside)

pub offset_bounds-sums-c : goal.offset_bounds-sums-c
offset_bounds-sums-c c = omega (arith, low (goal.at.offset_bounds-sums-c c).After-cell_of-c, c.well_formed)

pub bounds-sums-c : goal.bounds-sums-c
bounds-sums-c c = low (goal.at.bounds-sums-c c).After-cell_of-c

pub overflow_add-sums : goal.overflow_add-sums
overflow_add-sums c =
    omega (
      arith,
      ap (λ (i : ℕ). get_or c.args.sums.now i 0) (cell_is (goal.at.overflow_add-sums c).After-cell_of-c),
      sum_at _ _ (owner c.args.x.0) c.args.queue _ c.requires.held (omega arith),
    )

pub bounds-sums-c-then-queue-ne0 : goal.bounds-sums-c-then-queue-ne0
bounds-sums-c-then-queue-ne0 c = low (goal.at.bounds-sums-c-then-queue-ne0 c).After-cell_of-c
