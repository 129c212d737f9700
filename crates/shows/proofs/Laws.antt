-- What the judge of a show comes to, and what is shown once it lets the call go, with no code. Assumes nothing.
use mathlib.Core.Path.{◌≡◌, refl, sym, ap, ◌∙◌}
use mathlib.Core.Bool.{Bool, true, ◌||◌}
use mathlib.Core.List.{List, [], ◌∷◌}
use Prim.Native.Nat.{ℕ, ◌+◌, ◌≤◌, ◌<◌}
use native.Mathlib.Omega.{arith}
use lib.ListN.{length, get_or-map, length-map}
use Rattle.std.proofs.Common.{min}
use Rattle.ledger.specs.Settings.{Settings, packet_room}
use Rattle.ledger.specs.Ledger.{is_node, Packet, prefetched, place#, PlaceIn}
use Rattle.ledger.specs.Calls.{Reply, part, show, other_size, other_sizes}
use Rattle.std.specs.List.{list_any}
use Rattle.std.specs.Borrow.{Bor}
use Rattle.ledger.proofs.Tests.{leb_no}
use Rattle.ledger.proofs.Lists.{All-at}
use Rattle.ledger.proofs.Places.{place#_lt}
use Rattle.ledger.proofs.Rows.{roomy}
use Rattle.ledger.specs.Packets.{slot_at}
use Rattle.layout.specs.declared.shape.Shape.{Shape}
use Rattle.layout.specs.Tables.{lists}
use Rattle.layout.specs.Shapes.{settings_of}
use Rattle.layout.specs.Picture.{packet_at, settings_in, ledger_in, StateOf}
use Rattle.memory.specs.Writes.{head_of}
use Rattle.memory.specs.Judged.{good, judged, Works}
use Rattle.memory.specs.Memory.{acted}
use Rattle.memory.proofs.Chains.{head_is_node, state_tidy}
use Rattle.memory.proofs.Paint.{counted_some}
use Rattle.memory.proofs.Square.{first_held}
use Rattle.memory.proofs.Judged.{judged_clear, acted_good}
use Rattle.memory.proofs.Demands.{on_works}
use Rattle.memory.proofs.Packets.{memory_part_within}
use Rattle.packets.specs.Parts.{nowhere, among, sizes_of}

-- one size after another is tested
pub any_other : (S : Settings) (ns : List ℕ) → list_any (other_size S) ns ≡ other_sizes S ns
any_other S [] = refl
any_other S (n ∷ ns) = ap (λ (b : Bool). other_size S n || b) (any_other S ns)

-- what is known once the judge let a show go
pub record Shows (S : Settings) (m : List ℕ) (ns : List ℕ) (p q : ℕ) : Type 0 where
  pub port : p < S.ports
  pub queue : q < S.queues
  pub inside : place# S (prefetched p q) < lists S
  pub node : is_node S (head_of S m (prefetched p q)) ≡ true
  pub outcome : (acted S m (show ns p q)).0 ≡ part (head_of S m (prefetched p q)) (packet_at S m (head_of S m (prefetched p q))).len

pub shown : (S : Settings) (m : List ℕ) → StateOf S m → (ns : List ℕ) (p q : ℕ) → good ≡ judged S (ledger_in S m) (show ns p q) → Shows S m ns p q
shown S m s ns p q e =
    let c = judged_clear S (ledger_in S m) (show ns p q) (sym e) in
    let hp : p < S.ports = leb_no S.ports p c.1.1.0 in
    let hq : q < S.queues = leb_no S.queues q c.1.1.1.0 in
    let v_in : PlaceIn S (prefetched p q) = (hp, hq) in
    let full = c.1.1.1.1.0 in
    let there = place#_lt S (prefetched p q) v_in in
    let first = first_held S (roomy S s.sound.rows) m s (prefetched p q) v_in (omega arith) full in
    record {
      port = hp;
      queue = hq;
      inside = there;
      node = head_is_node S m (state_tidy S m s) (place# S (prefetched p q)) there (counted_some S m (place# S (prefetched p q)) there full);
      outcome = ap (λ (out : Reply × List ℕ). out.0) (acted_good S m (show ns p q) (sym e))
          ∙ ap (λ (k : Packet). part k.node k.len) first
          ∙ (unfold packet_at in refl);
    }

-- a packet that is shown lies within whichever of the four memories
pub shown_within : (s : Shape) (m : List ℕ) → Works s m → (ks : List (Bor (List ℕ))) → length ks ≡ 4 → (p q x n o : ℕ)
    → part x n ≡ (acted (settings_of s) m (show (sizes_of ks) p q)).0 → slot_at x + n ≤ length (among o ks).now
shown_within s m w ks four p q x n o e =
    let is = e ∙ ap (λ (out : Reply × List ℕ). out.0) (on_works s m w (show (sizes_of ks) p q)) in
    let k = memory_part_within m (sizes_of ks) p q x n (sym is) in
    let P : ℕ → Type 0 = λ n. n ≡ packet_room (settings_in m) in
    let size : length (among o ks).now ≡ packet_room (settings_in m) =
    sym (get_or-map (λ (k : Bor (List ℕ)). length k.now) ks (min o 3) nowhere)
    ∙ All-at P (sizes_of ks) 0 k.rooms (min o 3) (simp length-map (omega arith)) in
    omega (arith, k.fits)
