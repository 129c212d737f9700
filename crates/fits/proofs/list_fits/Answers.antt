-- `fits::list_fits` meets its contract. The loop's invariant: what is left of the list says what the whole says, and holds nodes alone.
-- Assumes nothing.
use Prim.Native.Nat.{◌%◌}
use mathlib.Core.Path.{refl, sym, ◌∙◌}
use native.Mathlib.Omega.{arith}
use Rattle.memory.proofs.Chains.{slot_lt}
use Rattle.fits.specs.Walk.{Spoken}
use Rattle.fits.proofs.Walk.{left_start, left_none, left_node, left_bad, left_next}
use Rattle.fits.proofs.list_fits.Goals as goal
use Rattle.fits.proofs.list_fits.Goals.{In-loop}

-- where the walk stands: at a node of a list that the rule speaks of
here : (c : In-loop)
    → let a = c.args in Spoken a.rule (a.l % a.s.row) a.s c.loop.x a.m.now
here c =
    let w = c.requires.walkable in
    record {
      seen = record { long = w.tidy.long; node = left_node c.loop.invariant (omega arith) };
      spoken = rw c.spares.ensures at c.if-spares.false;
    }

pub loop-init : goal.loop-init
loop-init c =
    let p = c.requires in
    let w = p.walkable in
    rw c.get-x.ensures
    (left_start c.args.rule _ _ _ c.args.s.laid.row_is w.tidy p.inside (rw c.spares.ensures at c.if-spares.false) (omega (arith, c.get-count.ensures)))

pub holds-requires : goal.holds-requires
holds-requires c = here c

pub returns-then-not-holds : goal.returns-then-not-holds
returns-then-not-holds c = rw c.from.ensures (left_bad c.loop.invariant (omega arith) (sym c.holds.ensures ∙ c.if-not-holds.true))

pub get-x-requires-in-loop : goal.get-x-requires-in-loop
get-x-requires-in-loop c =
    let n = (here (goal.at.get-x-requires-in-loop c).In-loop).seen in
    record { long = n.long; wide = refl; inside = rw c.slot_of.ensures (slot_lt _ _ n.node) }

pub loop-preserved : goal.loop-preserved
loop-preserved c =
    rw (c.get-x-in-loop.ensures, c.slot_of.ensures)
    (left_next c.loop.invariant (omega arith) (omega arith) (sym c.holds.ensures ∙ c.if-not-holds.false))

pub returns : goal.returns
returns c = left_none c.loop.invariant (omega arith)
