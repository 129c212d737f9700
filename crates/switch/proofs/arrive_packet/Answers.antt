-- `switch::arrive_packet` meets its contract: where the packet is taken in, its node's slot lies in the packet memory. Assumes nothing.
use mathlib.Core.Path.{sym, ap}
use mathlib.Core.List.{List}
use Prim.Native.Nat.{ℕ}
use native.Mathlib.Omega.{arith}
use lib.ListN.{length}
use Rattle.ledger.specs.Calls.{Reply}
use Rattle.memory.proofs.Packets.{memory_kept_within}
use Rattle.switch.proofs.arrive_packet.Goals as goal

pub keep-requires : goal.keep-requires
keep-requires c =
    let a = c.args in
    let taken = ap (λ (out : Reply × List ℕ). out.0) c.in_ok-id.ensures in
    let w = memory_kept_within a.m.now a.port (length a.kept.now) a.packet.now c.in_ok-id.id.0 (sym taken) in
    (w.slot, omega (arith, w.short))
