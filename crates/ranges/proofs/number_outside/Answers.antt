-- `ranges::number_outside` meets its contract: where the map's highest entry is a port, the marks decide. Assumes nothing.
use mathlib.Core.Path.{◌∙◌}
use Prim.Native.Nat.{zero-le}
use native.Mathlib.Omega.{arith}
use Rattle.layout.specs.Shapes.{settings_of}
use Rattle.ranges.proofs.First.{first_none}
use Rattle.ranges.proofs.Highest.{last_decide}
use Rattle.ranges.proofs.number_outside.Goals as goal

pub first_outside-requires : goal.first_outside-requires
first_outside-requires c = record { held = c.requires; here = zero-le; most = omega arith; before = first_none _ }

pub returns-then-from-s : goal.returns-then-from-s
returns-then-from-s c =
    let a = c.args in
    c.first_outside.ensures ∙ last_decide (settings_of a.s) a.m.now (omega (arith, c.from.ensures, c.highest_entry.ensures))

pub first_outside-requires-2 : goal.first_outside-requires-2
first_outside-requires-2 c = record {
  held = c.requires;
  here = zero-le;
  most = omega (arith, c.number_items.ensures);
  before = first_none _;
}
