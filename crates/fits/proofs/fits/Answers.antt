-- `fits::fits` meets its contract. The loop's invariant: the lists that are left say what all say. Assumes nothing.
use mathlib.Core.Path.{sym, ◌∙◌}
use native.Mathlib.Omega.{arith}
use Rattle.fits.proofs.Walk.{fits_end, fits_stop, fits_next}
use Rattle.fits.proofs.fits.Goals as goal

pub returns-in-Some : goal.returns-in-Some
returns-in-Some c = sym (fits_stop _ _ _ c.loop-l.l (omega arith) _ (sym c.list_fits.ensures ∙ c.in-Some.is)) ∙ c.loop-l.invariant

pub loop-l-preserved : goal.loop-l-preserved
loop-l-preserved c = sym (fits_next _ _ _ c.loop-l.l (omega arith) (sym c.list_fits.ensures ∙ c.in_default.is)) ∙ c.loop-l.invariant

pub returns : goal.returns
returns c = sym (fits_end _ _ _ _ _ (omega arith)) ∙ c.loop-l.invariant
