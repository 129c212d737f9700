-- `runs::run` meets its contract. The loop's invariant: what was done, and that the whole is that and the rest from here. Assumes nothing.
use mathlib.Core.Path.{◌≡◌, refl, sym}
use Prim.Native.Nat.{◌+◌, ◌-◌, ◌/◌, ◌≤◌}
use native.Mathlib.Omega.{arith}
use lib.ListN.{length}
use Rattle.ledger.specs.Header.{form, header_size, least_length}
use Rattle.ledger.proofs.Header.{narrow, header_small}
use Rattle.layout.specs.Shapes.{settings_of}
use Rattle.runs.proofs.Along.{start_along, next_along, stops_along}
use Rattle.runs.proofs.run.Goals as goal
use Rattle.runs.proofs.run.Goals.{Start}

-- the size of the switch's headers
sized : (st : Start) → st.args.s.least ≡ header_size (form (settings_of st.args.s)) + 2
unfolding least_length
sized st = st.args.s.laid.least_is

less : (st : Start) → st.args.s.least - 2 ≡ header_size (form (settings_of st.args.s))
less st = omega (arith, sized st)

small : (st : Start) → st.args.s.least - 2 ≤ 12
small st =
    let r = st.args.s.laid.roomy in
    let s = st.args.s in
    let thin = narrow s.edition s.ports s.queues r.some_ports r.few_ports r.some_queues r.few_queues in
    omega (arith, less st, (header_small (form (settings_of s)) thin).1)

pub overflow_sub-size : goal.overflow_sub-size
overflow_sub-size c = omega (arith, sized (goal.at.overflow_sub-size c).Start)

pub loop-done-init : goal.loop-done-init
loop-done-init c = start_along _ _ _ _ _ _ c.requires (c.new-words.ensures _ _)

pub asked_at-asked-requires : goal.asked_at-asked-requires
asked_at-asked-requires c = small (goal.at.asked_at-asked-requires c).Start

pub asked_at-requires : goal.asked_at-requires
asked_at-requires c = small (goal.at.asked_at-requires c).Start

pub returns-in_default : goal.returns-in_default
returns-in_default c =
    rw c.why_of.ensures
    (stops_along _ _ _ _ _ _ c.loop-done.invariant c.asked_at-asked.result c.asked_at-asked.ensures.asked
    (λ task next e. absurd (c.in_default.not-Call task next e)) (less (goal.at.returns-in_default c).Start) refl)

pub loop-done-preserved : goal.loop-done-preserved
loop-done-preserved c =
    next_along _ _ _ _ _ _ c.loop-done.invariant _ _ (sym c.in-Call.ensures.asked) c.loop-done-test.true c.carry_out-bytes.ensures c.put.ensures

pub returns : goal.returns
returns c =
    let all : c.loop-done.done ≡ length c.args.room.now / 4 = omega arith in
    rw c.why_of-2.ensures
    (rw all at (stops_along _ _ _ _ _ _ c.loop-done.invariant c.asked_at.result c.asked_at.ensures.asked
    (λ task next e. c.loop-done-test.false) (less (goal.at.returns c).Start) refl))
