-- Each C function has one outcome: any two that its contract allows are identical, the number, the memory and the room. The contract is what
-- the toolchain reads of the function's own `ensures`, so a change of it changes the theorem. Assumes nothing.
use mathlib.Core.Path.{◌≡◌, refl, sym, ap, ◌∙◌}
use mathlib.Core.List.{List, []}
use Prim.Native.Nat.{ℕ}
use native.Mathlib.Omega.{arith}
use lib.ListN.{get_or, replicate}
use Rattle.ledger.specs.Outcome.{Contract, OneOutcome}
use Rattle.ledger.specs.Buckets.{untimed}
use Rattle.ledger.specs.Calls.{turn}
use Rattle.ledger.specs.Desk.{act}
use Rattle.memory.specs.Memory.{M}
use Rattle.memory.proofs.Demands.{off_state}
use Rattle.memory.proofs.Image.{zero_no_state}
use Rattle.switch.proofs.Outcomes.{parted, roomed, lent}
use Rattle.rooms.specs.Rooms.{told}
use Rattle.capi.specs.contracts.vr_size
use Rattle.capi.proofs.vr_size.Reads as vr_size_says
use Rattle.capi.specs.contracts.vr_setup
use Rattle.capi.proofs.vr_setup.Reads as vr_setup_says
use Rattle.capi.specs.contracts.vr_arrive
use Rattle.capi.proofs.vr_arrive.Reads as vr_arrive_says
use Rattle.capi.specs.contracts.vr_arrive_packet
use Rattle.capi.proofs.vr_arrive_packet.Reads as vr_arrive_packet_says
use Rattle.capi.specs.contracts.vr_show
use Rattle.capi.proofs.vr_show.Reads as vr_show_says
use Rattle.capi.specs.contracts.vr_stitch
use Rattle.capi.proofs.vr_stitch.Reads as vr_stitch_says
use Rattle.capi.specs.contracts.vr_prefetch
use Rattle.capi.proofs.vr_prefetch.Reads as vr_prefetch_says
use Rattle.capi.specs.contracts.vr_credit
use Rattle.capi.proofs.vr_credit.Reads as vr_credit_says
use Rattle.capi.specs.contracts.vr_map
use Rattle.capi.proofs.vr_map.Reads as vr_map_says
use Rattle.capi.specs.contracts.vr_turn
use Rattle.capi.proofs.vr_turn.Reads as vr_turn_says
use Rattle.capi.specs.contracts.vr_ready
use Rattle.capi.proofs.vr_ready.Reads as vr_ready_says
use Rattle.capi.specs.contracts.vr_where
use Rattle.capi.proofs.vr_where.Reads as vr_where_says
use Rattle.capi.specs.contracts.vr_round
use Rattle.capi.proofs.vr_round.Reads as vr_round_says
use Rattle.capi.specs.contracts.vr_audit
use Rattle.capi.proofs.vr_audit.Reads as vr_audit_says
use Rattle.capi.specs.contracts.vr_find
use Rattle.capi.proofs.vr_find.Reads as vr_find_says
use Rattle.capi.specs.contracts.vr_repair
use Rattle.capi.proofs.vr_repair.Reads as vr_repair_says
use Rattle.capi.specs.contracts.vr_read_header
use Rattle.capi.proofs.vr_read_header.Reads as vr_read_header_says
use Rattle.capi.specs.contracts.vr_write_header
use Rattle.capi.proofs.vr_write_header.Reads as vr_write_header_says
use Rattle.capi.specs.contracts.vr_clear
use Rattle.capi.proofs.vr_clear.Reads as vr_clear_says
use Rattle.capi.specs.contracts.vr_report
use Rattle.capi.proofs.vr_report.Reads as vr_report_says
use Rattle.capi.specs.contracts.vr_timed_turn
use Rattle.capi.proofs.vr_timed_turn.Reads as vr_timed_turn_says
use Rattle.capi.specs.contracts.vr_bucket
use Rattle.capi.proofs.vr_bucket.Reads as vr_bucket_says

-- what equals the same four has equal parts
packed : {X B : Type 0} (at : List ℕ → List ℕ → ℕ → B) {r r₂ : X} {m m₂ k k₂ : List ℕ} {x x₂ : ℕ} {out : X × List ℕ × List ℕ × ℕ}
    → (r, m, k, x) ≡ out → (r₂, m₂, k₂, x₂) ≡ out → (r ≡ r₂) × (at m k x ≡ at m₂ k₂ x₂)
packed {X} at p q =
    (ap (λ (o : X × List ℕ × List ℕ × ℕ). o.0) (p ∙ sym q), ap (λ (o : X × List ℕ × List ℕ × ℕ). at o.1 o.2 o.3) (p ∙ sym q))

pub vr_size_one : OneOutcome vr_size.ended vr_size_says.Learnt
vr_size_one κs a r r₂ left left₂ p q = (p ∙ sym q, refl)

pub vr_setup_one : OneOutcome vr_setup.ended vr_setup_says.Learnt
vr_setup_one κs a r r₂ left left₂ p q = parted (λ m. (m, left.1)) p q

pub vr_arrive_one : OneOutcome vr_arrive.ended vr_arrive_says.Learnt
vr_arrive_one κs a r r₂ left left₂ p q = roomed (λ m x. (m, (tt, (tt, (x, tt))))) p q

pub vr_arrive_packet_one : OneOutcome vr_arrive_packet.ended vr_arrive_packet_says.Learnt
vr_arrive_packet_one κs a r r₂ left left₂ p q = packed (λ m k x. (m, (k, (tt, (tt, (x, tt)))))) p q

pub vr_stitch_one : OneOutcome vr_stitch.ended vr_stitch_says.Learnt
vr_stitch_one κs a r r₂ left left₂ p q = roomed (λ m x. (m, (tt, (x, tt)))) p q

pub vr_prefetch_one : OneOutcome vr_prefetch.ended vr_prefetch_says.Learnt
vr_prefetch_one κs a r r₂ left left₂ p q = roomed (λ m x. (m, (tt, (tt, (x, tt))))) p q

pub vr_credit_one : OneOutcome vr_credit.ended vr_credit_says.Learnt
vr_credit_one κs a r r₂ left left₂ p q = parted (λ m. (m, left.1)) p q

pub vr_map_one : OneOutcome vr_map.ended vr_map_says.Learnt
vr_map_one κs a r r₂ left left₂ p q = parted (λ m. (m, left.1)) p q

pub vr_turn_one : OneOutcome vr_turn.ended vr_turn_says.Learnt
vr_turn_one κs a r r₂ left left₂ p q = roomed (λ m x. (m, (tt, (x, tt)))) p q

pub vr_timed_turn_one : OneOutcome vr_timed_turn.ended vr_timed_turn_says.Learnt
vr_timed_turn_one κs a r r₂ left left₂ p q = roomed (λ m x. (m, (tt, (tt, (x, tt))))) p q

pub vr_round_one : OneOutcome vr_round.ended vr_round_says.Learnt
vr_round_one κs a r r₂ left left₂ p q = roomed (λ m x. (m, (x, tt))) p q

pub vr_repair_one : OneOutcome vr_repair.ended vr_repair_says.Learnt
vr_repair_one κs a r r₂ left left₂ p q = parted (λ m. (m, left.1)) p q

pub vr_clear_one : OneOutcome vr_clear.ended vr_clear_says.Learnt
vr_clear_one κs a r r₂ left left₂ p q = parted (λ m. (m, left.1)) p q

-- the memory of these is lent for reading only: what is left is the rooms
pub vr_report_one : OneOutcome vr_report.ended vr_report_says.Learnt
vr_report_one κs a r r₂ left left₂ p q = parted (λ x. (tt, (tt, (x, tt)))) p q

pub vr_bucket_one : OneOutcome vr_bucket.ended vr_bucket_says.Learnt
vr_bucket_one κs a r r₂ left left₂ p q = parted (λ x. (tt, (tt, (tt, (x, tt))))) p q

pub vr_ready_one : OneOutcome vr_ready.ended vr_ready_says.Learnt
vr_ready_one κs a r r₂ left left₂ p q = parted (λ x. (tt, (tt, (x.0, (x.1, tt))))) p q

pub vr_show_one : OneOutcome vr_show.ended vr_show_says.Learnt
vr_show_one κs a r r₂ left left₂ p q = parted (λ x. (tt, (tt, (tt, (tt, (tt, (tt, (tt, (x.0, (x.1, (x.2, tt))))))))))) p q

pub vr_where_one : OneOutcome vr_where.ended vr_where_says.Learnt
vr_where_one κs a r r₂ left left₂ p q = parted (λ x. (tt, (tt, (x, tt)))) p q

pub vr_audit_one : OneOutcome vr_audit.ended vr_audit_says.Learnt
vr_audit_one κs a r r₂ left left₂ p q = parted (λ x. (tt, (x, tt))) p q

pub vr_find_one : OneOutcome vr_find.ended vr_find_says.Learnt
vr_find_one κs a r r₂ left left₂ p q = (refl, ap (λ (x : ℕ × ℕ). (tt, (x.0, (x.1, tt)))) (p ∙ sym q))

pub vr_read_header_one : OneOutcome vr_read_header.ended vr_read_header_says.Learnt
vr_read_header_one κs a r r₂ left left₂ p q = parted (λ x. (tt, (tt, (tt, (tt, (x, tt)))))) p q

pub vr_write_header_one : OneOutcome vr_write_header.ended vr_write_header_says.Learnt
vr_write_header_one κs a r r₂ left left₂ p q = roomed (λ b n. (tt, (tt, (tt, (tt, (b, (n, tt))))))) p q

-- a contract of turn that says the number and the memory alone would not do: any sixteen bytes might stand in the room
abbrev pub room_unsaid : Contract vr_turn.ended
room_unsaid κs a r left = (r, left.0.now) ≡ told (M (act (turn untimed a.1.0)) a.0.now)

pub room_needed : OneOutcome vr_turn.ended room_unsaid → ⊥
room_needed one =
    let e : (3, []) ≡ told (M (act (turn untimed 0)) []) = ap told (sym (off_state [] (zero_no_state 0) (turn untimed 0))) in
    let t = one ([], ([], tt)) (lent [], (0, (lent (replicate 16 0), tt))) 3 3 ([], (tt, (replicate 16 0, tt))) ([], (tt, (replicate 16 1, tt))) e e in
    let z : ◌≡◌ {A = ℕ} 0 1 = ap (λ (x : List ℕ × (Unit {0} × (List ℕ × Unit {0}))). get_or x.1.1.0 0 0) t.1 in
    omega arith
