-- `tasks::carry_out` meets its contract: task by task. Assumes nothing.
use mathlib.Core.Path.{◌≡◌, refl, ap}
use Prim.Native.Nat.{◌+◌, ◌-◌}
use native.Mathlib.Omega.{arith}
use Rattle.ledger.specs.Calls.{arrive}
use Rattle.asks.specs.Asks.{task_act}
use Rattle.tasks.proofs.Laws.{done_untouched, as_task}
use Rattle.tasks.proofs.carry_out.Goals as goal

pub returns-in-Arrive : goal.returns-in-Arrive
returns-in-Arrive c =
    let a = c.args in
    let i = c.in-Arrive in
    let whole : i.at + i.size - i.at ≡ i.size = omega arith in
    as_task a.s _ _ (ap (task_act a.fields.now) i.is)
    (rw whole at (done_untouched a.s a.m.now a.words.now c.requires.going (arrive _ _) _ c.arrive.ensures c.of_entry.ensures (λ r t. refl)))

pub returns-in-Stitch : goal.returns-in-Stitch
returns-in-Stitch c =
    let a = c.args in
    as_task a.s _ _ (ap (task_act a.fields.now) c.in-Stitch.is)
    (done_untouched a.s a.m.now a.words.now c.requires.going _ _ c.stitch.ensures c.of_stitched.ensures (λ r t. refl))

pub returns-in-Map : goal.returns-in-Map
returns-in-Map c =
    let a = c.args in
    as_task a.s _ _ (ap (task_act a.fields.now) c.in-Map.is)
    (done_untouched a.s a.m.now a.words.now c.requires.going _ _ c.map_to.ensures c.of_plain.ensures (λ r t. refl))
