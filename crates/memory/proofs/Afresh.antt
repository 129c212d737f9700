-- "After repair demand 3 counts afresh"; and where a repair that stands is among the deeds, nothing of it holds. Assumes nothing.
use mathlib.Core.Path.{◌≡◌, sym, ap, ◌∙◌}
use mathlib.Core.Logic.{◌≢◌}
use mathlib.Core.Bool.{true, false}
use mathlib.Core.List.{List, [], ◌∷◌}
use Prim.Native.Nat.{ℕ, zero, suc, ◌≤◌, ◌<◌}
use native.Mathlib.Omega.{arith}
use lib.ListN.{length, get_or, length-append}
use Rattle.ledger.specs.Settings.{Settings}
use Rattle.ledger.specs.Ledger.{entry_id, owner, is_node, Packet, Place, free, prefetched, column, place#, mapped, buckets, Ledger, list_at, start, PlaceIn}
use Rattle.ledger.specs.Calls.{Reply}
use Rattle.ledger.specs.Desk.{has}
use Rattle.ledger.specs.Ready.{bit}
use Rattle.ledger.specs.Demand.{ShowsWaiting}
use Rattle.ledger.specs.Sound.{sum, one}
use Rattle.ledger.specs.Packets.{Memories}
use Rattle.ledger.specs.Repair.{restart}
use Rattle.ledger.proofs.Tests.{true≢false}
use Rattle.ledger.proofs.Lists.{uncounted}
use Rattle.ledger.proofs.Places.{node_of}
use Rattle.ledger.proofs.Start.{bares_length, bares_in, start_free, start_else}
use Rattle.ledger.specs.Buckets.{bucket#}
use Rattle.ledger.proofs.Repair.{restarted}
use Rattle.ledger.proofs.Tally.{start_none}
use Rattle.layout.specs.Picture.{settings_in, opens, ledger_in}
use Rattle.memory.specs.Memory.{picture}
use Rattle.memory.specs.Repair.{repaired}
use Rattle.memory.specs.Deeds.{LentDeed, lent_find, lent_repair}
use Rattle.memory.specs.Deeds.{found_by, Told, LeavesInDeeds, KeepsOrderInDeeds, PoolKeptInDeeds, CountsAfresh, HoldsInDeeds, AfreshAfterRepair}
use Rattle.memory.specs.Deeds.{AsArrivedInDeeds, SumSinceRepair}
use Rattle.memory.proofs.Demands.{pictured_state}
use Rattle.memory.proofs.Repair.{repair_refused, repair_picture}
use Rattle.memory.proofs.Deeds.{opens_state, holds_in_deeds, sum_since}

pub afresh_after_repair : AfreshAfterRepair
unfolding AfreshAfterRepair HoldsInDeeds
afresh_after_repair m o = holds_in_deeds (repaired m).1 (settings_in m) _ (repair_picture m o)

-- the buckets are as in the starting ledger
pub sum_since_repair : SumSinceRepair
unfolding SumSinceRepair AfreshAfterRepair
sum_since_repair m o =
    let S : Settings = settings_in m in
    sum_since (repaired m).1 S _ (afresh_after_repair m o)
    (λ p hp b hb.
    ap (λ (xs : List ℕ). get_or xs (bucket# p b) 0)
    ((restarted S ((ledger_in S m).numbers mapped)).same_numbers buckets (λ e. let z : ◌≡◌ {A = ℕ} 0 1 = cc in omega arith))
    ∙ start_none S p hp b hb)

-- ---- what is excluded

-- where rule (a) is broken nothing counts afresh: there is no switch state
pub not_afresh : (m : List ℕ) → opens m ≡ false → (S : Settings) (N : Ledger) → CountsAfresh S N (repaired m).1 → ⊥
not_afresh m n S N c =
    let same : (repaired m).1 ≡ m = ap (λ (out : Reply × List ℕ). out.1) (repair_refused m n) in
    let s = (pictured_state m S N (ap picture (sym same) ∙ c.now.shown)).0 in
    true≢false (sym (opens_state m s) ∙ n)

-- a repair that stands among the deeds: every list but the free ones is empty after it
module _ (m : List ℕ) (S : Settings) (L : Ledger) (e : picture m ≡ has S L) where
  emptied : (N : Ledger) → picture (repaired m).1 ≡ has S N → (v : Place) → list_at S N v ≡ list_at S (start S) v
  emptied N i v =
      let T : Settings = settings_in m in
      let ports : List ℕ = (ledger_in T m).numbers mapped in
      let r = repair_picture m (opens_state m (pictured_state m S L e).0) in
      let same : T ≡ S = cc in
      let is : restart T ports ≡ N = cc in
      ap (λ (M : Ledger). get_or M.lists (place# S v) []) (sym is)
      ∙ ap (λ (ls : List (List Packet)). get_or ls (place# S v) []) (restarted T ports).same_lists
      ∙ ap (λ (R : Settings). get_or (start R).lists (place# S v) []) same

  -- the order of a queue is lost with those who stood in it
  pub order_forgotten : (u : Place) → PlaceIn S u → column S u ≢ 0 → (list_at S L u ≡ [] → ⊥) → KeepsOrderInDeeds S L u m (lent_repair ∷ []) → ⊥
  order_forgotten u hu c some k =
      let i = k.0.shown in
      let same : k.0.ledger ≡ L = cc in
      some (ap (λ (N : Ledger). list_at S N u) (sym same) ∙ emptied k.0.ledger k.1 u ∙ start_else S u hu c)

  -- a pool has back the nodes that no turn sent home
  pub pool_refilled : (p : ℕ) → p < S.ports → length (list_at S L (free p)) < S.nodes → PoolKeptInDeeds S L p m (lent_repair ∷ []) → ⊥
  pool_refilled p hp away k =
      let i = k.0.shown in
      let same : k.0.ledger ≡ L = cc in
      omega (
        arith,
        ap (λ (N : Ledger). length (list_at S N (free p))) same,
        ap length (emptied k.0.ledger k.1 (free p)),
        ap length (start_free S p hp),
        bares_length (entry_id p 0) S.nodes,
      )

  -- a packet that is kept is forgotten: its node is free
  pub packet_forgotten : (y : ℕ) → is_node S y ≡ true → (b : List ℕ) (ks : Memories) → AsArrivedInDeeds S y b ks m (lent_repair ∷ []) → ⊥
  packet_forgotten y node b ks k =
      let n = node_of S y (omega (arith, ap bit node)) in
      let v : Place = free (owner y) in
      let free-again = emptied k.0.ledger k.1 v ∙ start_free S (owner y) n.home in
      let first : ℕ = entry_id (owner y) 0 in
      omega (
        arith,
        uncounted y (list_at S k.0.ledger v) k.0.not_free,
        ap (sum (one y 0)) free-again,
        bares_in y first S.nodes (omega arith) (omega (arith, n.low)),
      )

  -- and who waited in the slots isn't there any more to leave
  pub repair_starves : (p q : ℕ) → p < S.ports → q < S.queues → (k : Packet) (n : ℕ) (ds : List LentDeed)
      → LeavesInDeeds S p q k n m (lent_repair ∷ ds) → ⊥
  repair_starves p q hp hq k n ds o = go o.deed o.told o.until_then
    where
      go : (j : ℕ) → Told p q k (found_by m (lent_repair ∷ ds) j) (get_or (lent_repair ∷ ds) j lent_find)
          → ((i : ℕ) → i ≤ j → ShowsWaiting picture S p q k (found_by m (lent_repair ∷ ds) i)) → ⊥
      go zero t w = t
      go (suc j) t w =
          let a = w 1 (omega arith) in
          let b = emptied a.ledger a.shown (prefetched p q) ∙ start_else S (prefetched p q) (hp, hq) (omega arith) in
          omega (arith, ap length (sym a.stands.there ∙ b), length-append a.ahead (k ∷ a.stands.behind))
