-- `whole::whole` meets its contract. The loop's invariant: the walk stands at the first list of the port. Assumes nothing.
use mathlib.Core.Path.{◌≡◌, refl, sym, ap, ◌∙◌}
use Prim.Native.Nat.{◌*◌, ◌≤◌}
use native.Mathlib.Nat.{mul-le-mul_right}
use native.Mathlib.Omega.{arith}
use Rattle.std.specs.Prelude.{None}
use Rattle.ledger.specs.Settings.{row}
use Rattle.layout.specs.Tables.{lists}
use Rattle.layout.specs.Shapes.{settings_of}
use Rattle.once.specs.Once.{once_found}
use Rattle.fits.specs.declared.NodeRule.{NodeRule}
use Rattle.fits.specs.declared.NodeRule.TheVariants.{Record}
use Rattle.fits.specs.Fits.{fits_found}
use Rattle.paid.specs.Paid.{sums_of, due_found, paid_found}
use Rattle.paid.proofs.Passing.{sums_held}
use Rattle.whole.specs.Whole.{Listed}
use Rattle.whole.proofs.Lists.{lists_start, end_fits, end_sums, end_slots, end_once, end_left, payable}
use Rattle.whole.proofs.whole.Goals as goal
use Rattle.whole.proofs.whole.Goals.{After-first_due, After-loop-port, Else-met-s}

-- no list is left
past : (c : After-loop-port) → let S = settings_of c.args.s in lists S ≤ c.loop-port.port * row S
past c = mul-le-mul_right (row (settings_of c.args.s)) c.loop-port-test.false

once_kept : (c : Else-met-s) → let a = c.args in once_found (settings_of a.s) a.m.now ≡ None
once_kept c = end_once c.loop-port.invariant.1 (past (goal.at.Else-met-s c).After-loop-port) (c.if-met-s.false ∙ c.args.s.laid.all_are)

fits_kept : (c : Else-met-s) (rule : NodeRule) → let a = c.args in fits_found rule (settings_of a.s) a.m.now ≡ None
fits_kept c = end_fits c.loop-port.invariant.1 (past (goal.at.Else-met-s c).After-loop-port)

sums_are : (c : Else-met-s) → let a = c.args in c.loop-port.sums ≡ sums_of (settings_of a.s) a.m.now
sums_are c = end_sums c.loop-port.invariant.1 (past (goal.at.Else-met-s c).After-loop-port)

-- the rules of lists are kept
listed : (c : Else-met-s) → let a = c.args in Listed (settings_of a.s) a.m.now
listed c = record {
  slots = end_slots c.loop-port.invariant.1 (past (goal.at.Else-met-s c).After-loop-port);
  once = once_kept c;
  fits = fits_kept c;
}

-- the sums that were lent are those of the memory
due : (c : After-first_due) → let a = c.args in c.first_due.result ≡ paid_found (settings_of a.s) a.m.now
due c =
    let a = c.args in
    c.first_due.ensures ∙ ap (due_found (settings_of a.s) a.m.now) (sums_are (goal.at.After-first_due c).Else-met-s)

pub loop-port-init : goal.loop-port-init
loop-port-init c = (refl, lists_start c.requires (omega arith))

pub returns-then-met-s : goal.returns-then-met-s
returns-then-met-s c =
    let all : c.loop-port.port ≡ c.args.s.ports = omega arith in
    let all_are = c.args.s.laid.all_are in (
      end_left c.loop-port.invariant.1 (past (goal.at.returns-then-met-s c).After-loop-port) (λ d. c.if-met-s.true (d ∙ sym all_are)),
      record { most = omega arith; rest = rw all at c.loop-port.invariant.1.fits },
    )

pub first_due-requires : goal.first_due-requires
first_due-requires c =
    let p = c.requires in
    record {
      long = p.blank.long;
      held = rw (sums_are c) (sums_held _ _ (payable _ _ p.blank.long (once_kept c) (fits_kept c Record)) c.args.s.laid.roomy);
    }

pub returns-in-Some : goal.returns-in-Some
returns-in-Some c = (listed (goal.at.returns-in-Some c).Else-met-s, sym (due (goal.at.returns-in-Some c).After-first_due) ∙ c.in-Some.is)

pub returns-in-None : goal.returns-in-None
returns-in-None c = (listed (goal.at.returns-in-None c).Else-met-s, sym (due (goal.at.returns-in-None c).After-first_due) ∙ c.in-None.is)
