-- What the acts of prefetch and stitch come to, with no code. Assumes nothing.
use mathlib.Core.Path.{◌≡◌, refl, sym, ap, ◌∙◌, subst}
use mathlib.Core.Bool.{true}
use mathlib.Core.List.{List}
use Prim.Native.Nat.{ℕ, ◌<◌}
use native.Mathlib.Omega.{arith}
use Rattle.ledger.specs.Settings.{Settings, ids}
use Rattle.ledger.specs.Ledger.{is_node, Packet, ingress, egress, prefetched, place#, map_of, mapped, PlaceIn}
use Rattle.ledger.specs.Calls.{entry, stitched, stitch, prefetch, stitch_record, first_of}
use Rattle.ledger.proofs.Header.{dest_mapped}
use Rattle.ledger.proofs.Tests.{leb_no}
use Rattle.ledger.proofs.Places.{place#_lt}
use Rattle.ledger.proofs.Keep.{Fits, first_fits}
use Rattle.ledger.proofs.Rows.{roomy}
use Rattle.layout.specs.declared.Table.TheVariants.{Count}
use Rattle.layout.specs.Tables.{get}
use Rattle.layout.specs.Picture.{packet_at, ledger_in, StateOf}
use Rattle.memory.specs.Ends.{pop_mem, push_mem}
use Rattle.memory.specs.Writes.{head_of, move_mem}
use Rattle.memory.specs.Judged.{good, judged}
use Rattle.memory.specs.Memory.{acted}
use Rattle.memory.proofs.Chains.{head_is_node, state_tidy}
use Rattle.memory.proofs.Paint.{counted_some}
use Rattle.memory.proofs.Square.{first_held}
use Rattle.memory.proofs.Judged.{judged_clear, acted_good}

-- what is known once the judge let a prefetch go
pub record Goes (S : Settings) (m : List ℕ) (p q : ℕ) : Type 0 where
  pub port : p < S.ports
  pub queue : q < S.queues
  pub some : 0 < get S m Count (place# S (egress p q))
  pub outcome : acted S m (prefetch p q)
      ≡ (entry (head_of S m (egress p q)), push_mem S (place# S (prefetched p q)) (head_of S m (egress p q)) (pop_mem S (place# S (egress p q)) m))

pub gone_on : (S : Settings) (m : List ℕ) → StateOf S m → (p q : ℕ) → good ≡ judged S (ledger_in S m) (prefetch p q) → Goes S m p q
unfolding move_mem
gone_on S m s p q e =
    let c = judged_clear S (ledger_in S m) (prefetch p q) (sym e) in
    let hp : p < S.ports = leb_no S.ports p c.0 in
    let hq : q < S.queues = leb_no S.queues q c.1.0 in
    let first = first_held S (roomy S s.sound.rows) m s (egress p q) (hp, hq) (omega arith) c.1.1.0 in
    record {
      port = hp;
      queue = hq;
      some = counted_some S m (place# S (egress p q)) (place#_lt S (egress p q) (hp, hq)) c.1.1.0;
      outcome = acted_good S m (prefetch p q) (sym e)
          ∙ ap (λ (k : Packet). (entry k.node, move_mem S (egress p q) (prefetched p q) m)) first
          ∙ (unfold packet_at in refl);
    }

-- ---- stitch

-- what is known once the judge let a stitch go: k is the packet, to the port that the map names
pub record Stitches (S : Settings) (m : List ℕ) (p : ℕ) (k : Packet) (to : ℕ) : Type 0 where
  pub port : p < S.ports
  pub some : 0 < get S m Count (place# S (ingress p))
  pub node : is_node S (head_of S m (ingress p)) ≡ true
  pub dest_in : k.dest < ids
  pub to_in : to < S.ports
  pub queue_in_range : k.queue < S.queues
  pub outcome : acted S m (stitch p)
      ≡ (stitched (stitch_record k to), push_mem S (place# S (egress to k.queue)) (head_of S m (ingress p)) (pop_mem S (place# S (ingress p)) m))

pub stitched_on : (S : Settings) (m : List ℕ) → StateOf S m → (p : ℕ) → good ≡ judged S (ledger_in S m) (stitch p)
    → (k : Packet) → k ≡ packet_at S m (head_of S m (ingress p)) → (to : ℕ) → to ≡ map_of (ledger_in S m) k.dest → Stitches S m p k to
unfolding move_mem
stitched_on S m s p e k ik to it =
    let c = judged_clear S (ledger_in S m) (stitch p) (sym e) in
    let ok = roomy S s.sound.rows in
    let hp : p < S.ports = leb_no S.ports p c.0 in
    let v_in : PlaceIn S (ingress p) = (hp, omega (arith, ok.some_queues)) in
    let first = first_held S ok m s (ingress p) v_in (omega arith) c.1.0 in
    let fk : first_of S (ledger_in S m) (ingress p) ≡ k = first ∙ sym ik in
    let f = subst (λ (j : Packet). Fits S (ingress p) j) fk (first_fits S ok (ledger_in S m) s.sound.orderly (ingress p) v_in c.1.0) in
    let some = counted_some S m (place# S (ingress p)) (place#_lt S (ingress p) v_in) c.1.0 in
    let mapped_in = dest_mapped S ok k.dest f.2.dest_in in
    record {
      port = hp;
      some = some;
      node = head_is_node S m (state_tidy S m s) (place# S (ingress p)) (place#_lt S (ingress p) v_in) some;
      dest_in = mapped_in;
      to_in = rw it (s.sound.orderly.ranges.numbers_in mapped k.dest mapped_in);
      queue_in_range = f.2.queue_in_range;
      outcome = acted_good S m (stitch p) (sym e) ∙ rw (fk, ← ik, ← it);
    }
