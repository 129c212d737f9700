-- Paper 02, Q-1, on memory: what is proved of whole packets on the desk, by the square. That a packet which is taken in and a part which show
-- answers lie within their slots holds of any memory: an answer other than a refusal says enough. Assumes nothing.
use mathlib.Core.Path.{◌≡◌, sym, ◌∙◌}
use mathlib.Core.List.{List}
use Prim.Native.Nat.{ℕ}
use native.Mathlib.Omega.{arith}
use lib.ListN.{length}
use Rattle.ledger.specs.Settings.{Settings}
use Rattle.ledger.specs.Header.{whole}
use Rattle.ledger.specs.Ledger.{Ledger}
use Rattle.ledger.specs.Calls.{arrive, show, entry, part}
use Rattle.ledger.specs.Desk.{has, act}
use Rattle.ledger.specs.Sound.{Roomy, Sound}
use Rattle.ledger.specs.Packets.{Memories, Sized, packet, keeps, StoredAt, SlotsStay, ShownAsArrivedFrom}
use Rattle.ledger.proofs.Rows.{roomy}
use Rattle.ledger.proofs.Packets.{KeptWithin, kept_within, PartWithin, part_within}
use Rattle.ledger.proofs.Slots.{arrival_stored, slots_stay}
use Rattle.ledger.proofs.ShownAsArrived.{shown_as_arrived}
use Rattle.layout.specs.Picture.{settings_in, ledger_in, State}
use Rattle.memory.specs.Memory.{picture, M}
use Rattle.memory.specs.Demands.{on_memory}
use Rattle.memory.proofs.Picture.{picture_state}
use Rattle.memory.proofs.Demands.{pictured_state, memory_faithful, on_state, answered_state}

-- ---- of any memory

module _ (m : List ℕ) where
  abbrev S : Settings
  S = settings_in m

  abbrev L : Ledger
  L = ledger_in (settings_in m) m

  pub memory_kept_within : (p n : ℕ) (b : List ℕ) (x : ℕ) → (M (act (arrive p (whole n b))) m).0 ≡ entry x → KeptWithin S L p n b x
  memory_kept_within p n b x e =
      let t : State m = answered_state m (arrive p (whole n b)) (λ i. let z : ◌≡◌ {A = ℕ} 0 1 = cc in omega arith) in
      kept_within S (roomy S t.sound.rows) L t.sound.orderly p n b x
      (sym (on_state m S L (picture_state m t) (arrive p (whole n b))) ∙ e)

  pub memory_part_within : (ns : List ℕ) (p q x n : ℕ) → (M (act (show ns p q)) m).0 ≡ part x n → PartWithin S L ns p q x n
  memory_part_within ns p q x n e =
      let t : State m = answered_state m (show ns p q) (λ i. let z : ◌≡◌ {A = ℕ} 0 1 = cc in omega arith) in
      part_within S (roomy S t.sound.rows) L t.sound.orderly ns p q x n (sym (on_state m S L (picture_state m t) (show ns p q)) ∙ e)

-- ---- of a memory that is a switch state

module _ (m : List ℕ) (S : Settings) (L : Ledger) (e : picture m ≡ has S L) where
  s : Sound S L
  s = (pictured_state m S L e).1

  ok : Roomy S
  ok = roomy S s.rows

  -- an arrival stores its packet in its node's slot; the rest of that slot and all other slots stay
  pub memory_arrival_stored : (p n : ℕ) (b : List ℕ) (y : ℕ) → (M (act (arrive p (whole n b))) m).0 ≡ entry y
      → (ks : Memories) → Sized S ks → StoredAt S y b ks (keeps (packet p b) (entry y) ks)
  memory_arrival_stored = arrival_stored on_memory picture length memory_faithful S ok m L e s.orderly

  -- no call writes the slot of a node that isn't free, but the arrival that takes it
  pub memory_slots_stay : SlotsStay on_memory S L m
  memory_slots_stay = slots_stay on_memory picture length memory_faithful S ok m L e s.orderly

  -- and over any calls in which every setup is refused, a packet is shown as it arrived until a turn sends it
  pub memory_shown_as_arrived : ShownAsArrivedFrom on_memory picture S m
  memory_shown_as_arrived = shown_as_arrived on_memory picture length memory_faithful S ok m L e s.orderly
