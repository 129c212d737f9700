-- `capi::vr_where` meets its contract: a number past every entry id is refused, and the room stays. Assumes nothing.
use mathlib.Core.Path.{◌∙◌}
use Prim.Native.Nat.{◌<◌}
use native.Mathlib.Omega.{arith}
use Rattle.capi.proofs.Laws.{room_stays}
use Rattle.capi.proofs.vr_where.Goals as goal

pub returns-in_default : goal.returns-in_default
returns-in_default c =
    let a = c.args in
    let past : 65535 < a.entry = omega (arith, c.in_default.ensures) in
    let told = c.where_past.ensures a.entry past in
    let w = rw told at c.put_place.ensures in
    rw (w.0, w.1 ∙ room_stays a.mem.now a.place.now 0 a.entry past)
