-- Whole packets: what the contracts of arrive_packet and show say of their memories is what is promised of the memories of all ports.
-- Assumes nothing.
use mathlib.Core.Path.{◌≡◌, refl, sym, ap, ◌∙◌}
use mathlib.Core.Bool.{not}
use mathlib.Core.List.{List, [], ◌∷◌}
use Prim.Native.Nat.{ℕ, min, ◌<◌}
use native.Mathlib.Omega.{arith}
use denote.Ref.{Bor}
use lib.ListN.{length, get_or, get_or-map}
use lib.Dec.{eqb}
use Rattle.ledger.specs.Settings.{Settings}
use Rattle.ledger.specs.Header.{whole}
use Rattle.ledger.specs.Ledger.{owner}
use Rattle.ledger.specs.Calls.{Reply, refused, done, entry, stitched, idle, leaves, word, found, reported, counted, part, arrive, show}
use Rattle.ledger.specs.Desk.{act}
use Rattle.ledger.specs.Packets.{Memories, lengths, slot_at, bytes_at, part_in, packet, keeps}
use Rattle.ledger.proofs.Tests.{true≢false, eqb_is}
use Rattle.ledger.proofs.Rows.{packets_four}
use Rattle.layout.specs.Picture.{settings_in, State}
use Rattle.memory.specs.Memory.{M}
use Rattle.memory.specs.Packets.{packet_on}
use Rattle.memory.proofs.Demands.{answered_state}
use Rattle.memory.proofs.Packets.{memory_part_within}
use Rattle.packets.specs.Parts.{nowhere, shown_of}

-- four memories, by their ports
abbrev pub four : List ℕ → List ℕ → List ℕ → List ℕ → Memories
four a b c d p = get_or (a ∷ b ∷ c ∷ d ∷ []) (min p 3) []

-- with four ports, their lengths are those that show is told
pub four_lengths : (S : Settings) → S.ports ≡ 4 → (a b c d : List ℕ)
    → lengths S (four a b c d) ≡ length a ∷ length b ∷ length c ∷ length d ∷ []
four_lengths S e a b c d = rw e

-- the bytes that show hands back are those that its answer stands for
pub shown_bytes : (r : Reply) (a b c d : Bor (List ℕ)) → (shown_of r (a ∷ b ∷ c ∷ d ∷ [])).0 ≡ part_in (four a.now b.now c.now d.now) r
shown_bytes (refused n) a b c d = refl
shown_bytes done a b c d = refl
shown_bytes (entry x) a b c d = refl
shown_bytes (stitched s) a b c d = refl
shown_bytes idle a b c d = refl
shown_bytes (leaves k s) a b c d = refl
shown_bytes (word w n) a b c d = refl
shown_bytes (found v i) a b c d = refl
shown_bytes (reported n) a b c d = refl
shown_bytes (counted n) a b c d = refl
shown_bytes (part x n) a b c d = ap (bytes_at (slot_at x) n) (sym (get_or-map (λ (k : Bor (List ℕ)). k.now) (a ∷ b ∷ c ∷ d ∷ []) (min (owner x) 3) nowhere))

-- and the owner is one of four ports
pub owner_in_four : (m ns : List ℕ) (p q x n : ℕ) → (M (act (show ns p q)) m).0 ≡ part x n → owner x < 4
owner_in_four m ns p q x n e =
    let w = memory_part_within m ns p q x n e in
    let t : State m = answered_state m (show ns p q) (λ i. let z : ◌≡◌ {A = ℕ} 0 1 = cc in omega arith) in
    let some : (settings_in m).packets ≡ 0 → ⊥ = λ z. true≢false (sym w.keeps ∙ ap (λ (k : ℕ). not (eqb k 0)) z) in
    let is = packets_four (settings_in m) t.sound.rows some in
    omega (arith, w.home)

-- an arrival of a whole packet is the desk's, with as many bytes lent as its port's memory has; and what it leaves of that memory is what
-- becomes of its port's
pub packet_by_port : (m : List ℕ) (ks : Memories) (p : ℕ) (b : List ℕ) →
    let out = M (act (arrive p (whole (length (ks p)) b))) m in
    packet_on m (ks p) p b ≡ (out.0, out.1, keeps (packet p b) out.0 ks p)
unfolding packet_on
packet_by_port m ks p b = rw (eqb_is p p refl)
