-- Each call has one outcome: any two that its contract allows are identical, the typed answer and the memory; of the round and of the run, the room too. The
-- contract is what the toolchain reads of the function's own `ensures` (`Learnt`: what a caller learns), so a change of it changes the theorem.
-- Assumes nothing.
use mathlib.Core.Path.{◌≡◌, refl, sym, ap, ◌∙◌}
use mathlib.Core.List.{List, [], ◌∷◌}
use Prim.Native.Nat.{ℕ}
use native.Mathlib.Omega.{arith}
use denote.Ref.{Bor, MutBor}
use lib.ListN.{length, get_or, replicate, length-replicate}
use Rattle.std.specs.Prelude.{Result, Ok, Err}
use Rattle.ledger.specs.Answers.{reply_by, stitch_reply}
use Rattle.ledger.specs.Outcome.{Contract, OneOutcome}
use Rattle.ledger.specs.Header.{alone}
use Rattle.ledger.specs.Calls.{Act, Reply, refused, done, stitched}
use Rattle.ledger.specs.Calls as calls
use Rattle.ledger.specs.Desk.{Desk, none, has, act, desk}
use Rattle.ledger.specs.Cards.{set_up as starts, arrives, twelve, twelve_record}
use Rattle.ledger.specs.declared.Refusal.{Refusal}
use Rattle.ledger.specs.declared.Refusal.TheVariants.{NoState}
use Rattle.ledger.proofs.Cards.{cards_hold}
use Rattle.ledger.proofs.Answers.{plain_inj, stitch_inj, entry_inj, turn_inj, ready_inj, where_inj, report_inj, bucket_inj, show_inj}
use Rattle.memory.specs.Memory.{picture, M}
use Rattle.memory.proofs.Demands.{memory_faithful, off_state}
use Rattle.memory.proofs.Image.{zero_no_state, zero_picture}
use Rattle.runs.proofs.Outcomes.{outcome_inj}
use Rattle.switch.specs.contracts.set_up
use Rattle.switch.proofs.set_up.Reads as set_up_says
use Rattle.switch.specs.contracts.arrive
use Rattle.switch.proofs.arrive.Reads as arrive_says
use Rattle.switch.specs.contracts.arrive_packet
use Rattle.switch.proofs.arrive_packet.Reads as arrive_packet_says
use Rattle.switch.specs.contracts.show_at
use Rattle.switch.proofs.show_at.Reads as show_at_says
use Rattle.switch.specs.contracts.show
use Rattle.switch.proofs.show.Reads as show_says
use Rattle.switch.specs.contracts.stitch
use Rattle.switch.proofs.stitch.Reads as stitch_says
use Rattle.switch.specs.contracts.prefetch
use Rattle.switch.proofs.prefetch.Reads as prefetch_says
use Rattle.switch.specs.contracts.credit
use Rattle.switch.proofs.credit.Reads as credit_says
use Rattle.switch.specs.contracts.map_to
use Rattle.switch.proofs.map_to.Reads as map_to_says
use Rattle.switch.specs.contracts.turn
use Rattle.switch.proofs.turn.Reads as turn_says
use Rattle.switch.specs.contracts.timed_turn
use Rattle.switch.proofs.timed_turn.Reads as timed_turn_says
use Rattle.switch.specs.contracts.bucket
use Rattle.switch.proofs.bucket.Reads as bucket_says
use Rattle.switch.specs.contracts.ready
use Rattle.switch.proofs.ready.Reads as ready_says
use Rattle.switch.specs.contracts.where_is
use Rattle.switch.proofs.where_is.Reads as where_is_says
use Rattle.switch.specs.contracts.where_past
use Rattle.switch.proofs.where_past.Reads as where_past_says
use Rattle.switch.specs.contracts.round
use Rattle.switch.proofs.round.Reads as round_says
use Rattle.switch.specs.contracts.run
use Rattle.switch.proofs.run.Reads as run_says
use Rattle.switch.specs.contracts.audit
use Rattle.switch.proofs.audit.Reads as audit_says
use Rattle.switch.specs.contracts.find
use Rattle.switch.proofs.find.Reads as find_says
use Rattle.switch.specs.contracts.repair
use Rattle.switch.proofs.repair.Reads as repair_says
use Rattle.switch.specs.contracts.clear
use Rattle.switch.proofs.clear.Reads as clear_says
use Rattle.switch.specs.contracts.report
use Rattle.switch.proofs.report.Reads as report_says

-- what equals the same pair has equal parts; `at` puts the second where the function's parameters have it
pub parted : {A B C : Type 0} (at : B → C) {x y : A} {m n : B} {out : A × B} → (x, m) ≡ out → (y, n) ≡ out → (x ≡ y) × (at m ≡ at n)
parted {A} {B} at p q = (ap (λ (o : A × B). o.0) (p ∙ sym q), ap (λ (o : A × B). at o.1) (p ∙ sym q))

-- the same with a room
pub roomed : {X A B : Type 0} (at : List ℕ → A → B) {r r₂ : X} {m m₂ : List ℕ} {x x₂ : A} {out : X × List ℕ × A}
    → (r, m, x) ≡ out → (r₂, m₂, x₂) ≡ out → (r ≡ r₂) × (at m x ≡ at m₂ x₂)
roomed {X} {A} at p q = (ap (λ (o : X × List ℕ × A). o.0) (p ∙ sym q), ap (λ (o : X × List ℕ × A). at o.1 o.2) (p ∙ sym q))

-- so an equation of reply and memory fixes answer and memory, where no two answers have the same reply; `others` are lent for reading only
module _ {A : Type 0} {reply : A → Reply} (inj : (a b : A) → reply a ≡ reply b → a ≡ b) {C : Type 0} (others : C) where
  fixed : {a b : A} {m n : List ℕ} {out : Reply × List ℕ} → (reply a, m) ≡ out → (reply b, n) ≡ out
      → (a ≡ b) × (◌≡◌ {A = List ℕ × C} (m, others) (n, others))
  fixed {a} {b} p q = let t = parted (λ m. m) p q in (inj a b t.0, ap (λ (m : List ℕ). (m, others)) t.1)

pub set_up_one : OneOutcome set_up.ended set_up_says.Learnt
set_up_one κs a r r₂ left left₂ p q = fixed plain_inj left.1 p q

pub arrive_one : OneOutcome arrive.ended arrive_says.Learnt
arrive_one κs a r r₂ left left₂ p q = fixed entry_inj left.1 p q

-- a whole packet's equation fixes the packet memory too
pub arrive_packet_one : OneOutcome arrive_packet.ended arrive_packet_says.Learnt
arrive_packet_one κs a r r₂ left left₂ p q =
    let t = roomed {B = List ℕ × (List ℕ × (Unit {0} × (Unit {0} × Unit {0})))} (λ m k. (m, (k, (tt, (tt, tt))))) p q in (entry_inj r r₂ t.0, t.1)

pub stitch_one : OneOutcome stitch.ended stitch_says.Learnt
stitch_one κs a r r₂ left left₂ p q = fixed stitch_inj left.1 p q

pub prefetch_one : OneOutcome prefetch.ended prefetch_says.Learnt
prefetch_one κs a r r₂ left left₂ p q = fixed entry_inj left.1 p q

pub credit_one : OneOutcome credit.ended credit_says.Learnt
credit_one κs a r r₂ left left₂ p q = fixed plain_inj left.1 p q

pub map_to_one : OneOutcome map_to.ended map_to_says.Learnt
map_to_one κs a r r₂ left left₂ p q = fixed plain_inj left.1 p q

pub turn_one : OneOutcome turn.ended turn_says.Learnt
turn_one κs a r r₂ left left₂ p q = fixed turn_inj left.1 p q

pub timed_turn_one : OneOutcome timed_turn.ended timed_turn_says.Learnt
timed_turn_one κs a r r₂ left left₂ p q = fixed turn_inj left.1 p q

-- a round's equation fixes the room with answer and memory
pub round_one : OneOutcome round.ended round_says.Learnt
round_one κs a r r₂ left left₂ p q = let t = roomed {B = List ℕ × (List ℕ × Unit {0})} (λ m x. (m, (x, tt))) p q in (plain_inj r r₂ t.0, t.1)

-- and so does a run's
pub run_one : OneOutcome run.ended run_says.Learnt
run_one κs a r r₂ left left₂ p q =
    let t = roomed {B = List ℕ × (Unit {0} × (List ℕ × Unit {0}))} (λ m x. (m, (tt, (x, tt)))) p q in (outcome_inj r r₂ t.0, t.1)

pub repair_one : OneOutcome repair.ended repair_says.Learnt
repair_one κs a r r₂ left left₂ p q = fixed plain_inj left.1 p q

pub clear_one : OneOutcome clear.ended clear_says.Learnt
clear_one κs a r r₂ left left₂ p q = fixed plain_inj left.1 p q

-- the memory of these is lent for reading only: nothing is left that could differ but the audit's room
pub report_one : OneOutcome report.ended report_says.Learnt
report_one κs a r r₂ left left₂ p q = (report_inj r r₂ (p ∙ sym q), refl)

pub bucket_one : OneOutcome bucket.ended bucket_says.Learnt
bucket_one κs a r r₂ left left₂ p q = (bucket_inj r r₂ (p ∙ sym q), refl)

pub show_at_one : OneOutcome show_at.ended show_at_says.Learnt
show_at_one κs a r r₂ left left₂ p q = (show_inj r r₂ (p ∙ sym q), refl)

-- Of show: the same number, the same bytes, at the same place of the same block. A reference is no more than these.
part_alike : (k k₂ : Bor (List ℕ)) → ◌≡◌ {A = List ℕ × (ℕ × ℕ)} (k.now, k.ref_ptr) (k₂.now, k₂.ref_ptr) → k ≡ k₂
part_alike k k₂ e i = record { ref_ptr = ap (λ (o : List ℕ × (ℕ × ℕ)). o.1) e i; now = ap (λ (o : List ℕ × (ℕ × ℕ)). o.0) e i }

pub show_one : OneOutcome show.ended show_says.Learnt
show_one κs a r r₂ left left₂ p q =
    (part_alike r r₂ (p.1 ∙ sym q.1), ap (λ (n : ℕ). (tt, (tt, (tt, (tt, (n, tt)))))) (p.0 ∙ sym q.0))

pub audit_one : OneOutcome audit.ended audit_says.Learnt
audit_one κs a r r₂ left left₂ p q = let t = parted {C = Unit {0} × (List ℕ × Unit {0})} (λ x. (tt, (x, tt))) p q in (plain_inj r r₂ t.0, t.1)

pub find_one : OneOutcome find.ended find_says.Learnt
find_one κs a r r₂ left left₂ p q = (p ∙ sym q, refl)

pub ready_one : OneOutcome ready.ended ready_says.Learnt
ready_one κs a r r₂ left left₂ p q = (ready_inj r r₂ (p ∙ sym q), refl)

pub where_is_one : OneOutcome where_is.ended where_is_says.Learnt
where_is_one κs a r r₂ left left₂ p q = (where_inj r r₂ (p ∙ sym q), refl)

pub where_past_one : OneOutcome where_past.ended where_past_says.Learnt
where_past_one κs a r r₂ left left₂ p q = (where_inj r r₂ (p 65536 (omega arith) ∙ sym (q 65536 (omega arith))), refl)

-- the same in the contract's own words: a memory is its bytes, wherever it lies
abbrev pub lent : List ℕ → MutBor (List ℕ)
lent m = record { ref_ptr = (0, 0); ghost_name = 0; now = m }

module _ (m : List ℕ) (port : ℕ) where
  abbrev out : Reply × List ℕ
  out = M (act (calls.stitch port)) m

  pub stitch_in_words :
      (r r₂ : Result (List ℕ) Refusal) (left left₂ : List ℕ)
      → (stitch_reply r, left) ≡ out
      → (stitch_reply r₂, left₂) ≡ out
      → (r ≡ r₂) × (left ≡ left₂)
  stitch_in_words r r₂ left left₂ p q =
      let u = stitch_one ([], tt) (lent m, (port, tt)) r r₂ (left, (tt, tt)) (left₂, (tt, tt)) p q in
      (u.0, ap (λ (x : List ℕ × (Unit {0} × Unit {0})). x.0) u.1)

-- The record has to be said. Of what the toolchain reads of stitch all but the record's bytes:
abbrev pub with_record : List ℕ → Result (List ℕ) Refusal → Result (List ℕ) Refusal
with_record b (Ok c) = Ok b
with_record b (Err n) = Err n

abbrev pub record_unsaid : Contract stitch.ended
record_unsaid κs a r left = (b : List ℕ) × stitch_says.Learnt κs a (with_record b r) left

-- A state that stitch stitches on: 65,536 bytes that a switch was set up in, where the packet of a card has arrived at port 0. Memory answers
-- as the desk does, by whose cards the record is known.
module _ (m : List ℕ) (D : Desk) (e : picture m ≡ D) (a : Act) where
  any_length : (n k : ℕ) (E : Desk) → desk n E (act a) ≡ desk k E (act a)
  any_length n k none = refl
  any_length n k (has S L) = refl

  acts_alike : ◌≡◌ {A = Reply × Desk} ((M (act a) m).0, picture (M (act a) m).1) (desk 65536 D (act a))
  acts_alike = memory_faithful m (act a) ∙ ap (λ (E : Desk). desk (length m) E (act a)) e ∙ any_length (length m) 65536 D

abbrev first_memory : List ℕ
first_memory = (M (starts 1 64 1 16) (replicate 65536 0)).1

abbrev arrived_memory : List ℕ
arrived_memory = (M (arrives 0 twelve) first_memory).1

first_desk : picture first_memory ≡ (desk 65536 none (starts 1 64 1 16)).1
first_desk =
    let m : List ℕ = replicate 65536 0 in
    ap (λ (o : Reply × Desk). o.1) (memory_faithful m (starts 1 64 1 16))
    ∙ ap (λ (n : ℕ). (desk n (picture m) (starts 1 64 1 16)).1) (length-replicate {A = ℕ} 65536 0)
    ∙ ap (λ (D : Desk). (desk 65536 D (starts 1 64 1 16)).1) (zero_picture 65536)

stitches : (M (act (calls.stitch 0)) arrived_memory).0 ≡ twelve_record
stitches =
    let arrival = acts_alike first_memory _ first_desk (calls.arrive 0 (alone twelve)) in
    let second = ap (λ (o : Reply × Desk). o.1) arrival in
    ap (λ (o : Reply × Desk). o.0) (acts_alike arrived_memory _ second (calls.stitch 0))
    ∙ ap (λ (rs : List Reply). get_or rs 2 done) cards_hold.1.0

pub second_needed : OneOutcome stitch.ended record_unsaid → ⊥
second_needed one =
    let left : List ℕ = (M (act (calls.stitch 0)) arrived_memory).1 in
    let b : List ℕ = 0 ∷ 0 ∷ 0 ∷ 12 ∷ 0 ∷ 0 ∷ 0 ∷ 0 ∷ 0 ∷ 0 ∷ [] in
    let e : ◌≡◌ {A = Reply × List ℕ} (stitched b, left) (M (act (calls.stitch 0)) arrived_memory) = ap (λ (r : Reply). (r, left)) (sym stitches) in
    let t = one ([], tt) (lent arrived_memory, (0, tt)) (Ok (replicate 10 0)) (Ok (replicate 10 1)) (left, (tt, tt)) (left, (tt, tt)) (b, e) (b, e) in
    let z : ◌≡◌ {A = ℕ} 0 1 = ap (λ (r : Result (List ℕ) Refusal). first_byte r) t.0 in
    omega arith
  where
    first_byte : Result (List ℕ) Refusal → ℕ
    first_byte (Ok c) = get_or c 0 0
    first_byte (Err n) = 2

-- And it has to stand in the answer. Ten bytes beside an answer, fixed by this equation alone, would not do: beside a refusal any might stand.
abbrev pub beside : Result Unit Refusal → List ℕ → Reply
beside a bytes = reply_by (λ u. stitched bytes) a

abbrev pub FirstAlone : Type 0
FirstAlone =
    (m : List ℕ) (port : ℕ) (a a₂ : Result Unit Refusal) (bytes bytes₂ left left₂ : List ℕ)
    → (beside a bytes, left) ≡ M (act (calls.stitch port)) m
    → (beside a₂ bytes₂, left₂) ≡ M (act (calls.stitch port)) m
    → bytes ≡ bytes₂

pub first_alone_leaves_choice : FirstAlone → ⊥
first_alone_leaves_choice one =
    let e : (refused 3, []) ≡ M (act (calls.stitch 0)) [] = sym (off_state [] (zero_no_state 0) (calls.stitch 0)) in
    let t = one [] 0 (Err NoState) (Err NoState) (replicate 10 0) (replicate 10 1) [] [] e e in
    let z : ◌≡◌ {A = ℕ} 0 1 = ap (λ (b : List ℕ). get_or b 0 0) t in
    omega arith
