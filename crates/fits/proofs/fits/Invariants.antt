-- What the loop of `fits::fits` keeps.
use Prim.Native.Nat.{◌-◌}
use mathlib.Core.Path.{◌≡◌}
use Rattle.layout.specs.Tables.{lists}
use Rattle.layout.specs.Shapes.{settings_of}
use Rattle.fits.specs.Fits.{fits_from}
use Rattle.fits.proofs.fits.Given as goal

abbrev pub invariant-loop-l : goal.invariant-loop-l
invariant-loop-l l =
    fits_from l.rule (settings_of l.s) l.m l.l (lists (settings_of l.s) - l.l) ≡ fits_from l.rule (settings_of l.s) l.m l.from
    (lists (settings_of l.s) - l.from)
