-- `once::walk_list` meets its contract. The loop's invariant: what is found in the whole list is what is found in what is left of it.
-- Assumes nothing.
use borrow.Author.Rules.{rules}
use mathlib.Core.Path.{◌≡◌, refl, sym, ap, ◌∙◌}
use mathlib.Core.Bool.{true, false≢true}
use native.Mathlib.Omega.{arith}
use lib.Dec.{eqb}
use Rattle.layout.specs.Shapes.{settings_of}
use Rattle.memory.proofs.Chains.{slot_lt}
use Rattle.once.specs.Bits.{marks_in}
use Rattle.once.specs.Once.{is_new}
use Rattle.once.proofs.Bits.{marks_length}
use Rattle.once.proofs.Marks.{new}
use Rattle.once.proofs.Walk.{walk_start, walk_stuck, walk_step, walk_end}
use Rattle.once.proofs.walk_list.Goals as goal
use Rattle.once.proofs.walk_list.Goals.{Else-not-meet}

pub loop-init : goal.loop-init
loop-init c =
    (refl, rw (c.get-tail.ensures, c.get-x.ensures) (walk_start _ _ _ _ (marks_length _ _) (omega (arith, c.get-count.ensures))))

-- the node that is met is new
new_here : (c : Else-not-meet)
    → let S = settings_of c.args.s in
    is_new S (marks_in S c.loop.marks) c.loop.x ≡ true
new_here c = sym c.meet.ensures.answer ∙ c.if-not-meet.false

pub returns-then-not-meet : goal.returns-then-not-meet
returns-then-not-meet c =
    record {
      answer = sym (walk_stuck c.loop.invariant.1 (omega arith) (sym c.meet.ensures.answer ∙ c.if-not-meet.true));
      after = λ e. absurd (false≢true e);
    }

pub get-x-requires-in-loop : goal.get-x-requires-in-loop
get-x-requires-in-loop c =
    record {
      long = search rules;
      wide = refl;
      inside = rw c.slot_of.ensures (slot_lt _ _ (new _ _ _ (new_here (goal.at.get-x-requires-in-loop c).Else-not-meet)).node);
    }

pub loop-preserved : goal.loop-preserved
loop-preserved c = (
  c.meet.auto.marks ∙ c.loop.invariant.0,
  rw (c.get-x-in-loop.ensures, c.slot_of.ensures, c.meet.ensures.after c.if-not-meet.false)
      (walk_step c.loop.invariant.1 (omega arith) (new_here (goal.at.loop-preserved c).Else-not-meet)),
)

pub returns : goal.returns
returns c =
    let w = walk_end c.loop.invariant.1 (omega arith) in
    record { answer = ap (eqb _) c.get-tail.ensures ∙ sym w.0; after = λ e. w.1 }
