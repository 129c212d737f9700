-- What the loop of `fits::list_fits` keeps.
use Prim.Native.Nat.{◌-◌}
use Rattle.layout.specs.Shapes.{settings_of}
use Rattle.layout.specs.Picture.{packet_at}
use Rattle.fits.specs.Fits.{rule_test, list_found}
use Rattle.fits.proofs.Walk.{Left}
use Rattle.fits.proofs.list_fits.Given as goal

abbrev pub invariant-loop : goal.invariant-loop
invariant-loop l =
    Left (λ y. rule_test l.rule (settings_of l.s) l.port l.column (packet_at (settings_of l.s) l.m y)) (settings_of l.s) l.m
    (list_found l.rule (settings_of l.s) l.m l.l) (l.count - l.counter) l.x
