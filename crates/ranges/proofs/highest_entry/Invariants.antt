-- What the loop of `ranges::highest_entry` keeps.
use mathlib.Core.Path.{◌≡◌}
use Rattle.layout.specs.declared.Table.TheVariants.{Mapped}
use Rattle.layout.specs.Tables.{get}
use Rattle.layout.specs.Shapes.{settings_of}
use Rattle.ranges.specs.Ranges.{highest}
use Rattle.ranges.proofs.highest_entry.Given as goal

abbrev pub invariant-loop-i : goal.invariant-loop-i
invariant-loop-i l = l.top ≡ highest (get (settings_of l.s) l.m Mapped) l.i
