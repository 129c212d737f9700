-- Which nodes are counted, and how large sums become. Assumes nothing.
use mathlib.Core.Path.{◌≡◌, refl, ap, ◌∙◌}
use mathlib.Core.Logic.{◌≢◌}
use mathlib.Core.Bool.{Bool, true, false, cond}
use mathlib.Core.List.{List, [], ◌∷◌}
use Prim.Native.Nat.{ℕ, zero, suc, ◌+◌, ◌-◌, ◌*◌, ◌%◌, ◌/◌, ◌≤◌, ◌<◌}
use native.Mathlib.Nat.{le_trans}
use native.Mathlib.Decide.{ℕ_discrete}
use native.Mathlib.Omega.{arith}
use lib.ListN.{length, get_or, set, replicate, length-replicate}
use lib.Dec.{ltb}
use Rattle.ledger.specs.Settings.{Settings, row}
use Rattle.ledger.specs.Ledger.{owner, is_node, Place, free, ingress, egress, prefetched, place_in, place_of, cell, credit_at, set_credit}
use Rattle.ledger.specs.Sound.{All, Proper, WellRecorded}
use Rattle.ledger.proofs.Tests.{eqb_is, eqb_not}
use Rattle.ledger.proofs.Lists.{All-both}
use Rattle.ledger.proofs.Places.{credit_le, length_credit}
use Rattle.layout.specs.declared.Table.TheVariants.{Count, Queue, Price}
use Rattle.layout.specs.Tables.{cells, lists, get}
use Rattle.layout.specs.Picture.{slot, nodes_of, packet_at, node_in}
use Rattle.layout.proofs.Tables.{get_lt, zeros}
use Rattle.memory.proofs.Chains.{All-unmap, item_used, length_lists, list_at_lem, nodes_length, members}
use Rattle.paid.specs.Paid.{add_price, add_node, add_all, add_list}
use Rattle.paid.specs.Passes.{Payable, Sums, Counted, list_most}

-- ---- lists that are not free

-- what holds of each kind of place but a free list holds of a list that is none
pub by_place : (S : Settings) (P : Place → Type 0) → ((p : ℕ) → P (ingress p)) → ((p q : ℕ) → P (egress p q)) → ((p q : ℕ) → P (prefetched p q))
    → (l : ℕ) → l % row S ≢ 0 → P (place_of S l)
unfolding place_of
by_place S P in' out pre l n = go (l % row S) n
  where
    pick : (b : Bool) (p k : ℕ) → P (cond b (egress p k) (prefetched p (k - S.queues)))
    pick true p k = out p k
    pick false p k = pre p (k - S.queues)

    go : (c : ℕ) → c ≢ 0 → P (place_in S (l / row S) c)
    go zero no' = absurd (no' refl)
    go (suc zero) no' = in' (l / row S)
    go (suc (suc k)) no' = pick (ltb k S.queues) (l / row S) k

pub place_free : (S : Settings) (l : ℕ) → l % row S ≡ 0 → place_of S l ≡ free (l / row S)
unfolding place_of
place_free S l e = ap (place_in S (l / row S)) e

-- ---- adding, by the queue

module _ (S : Settings) (sums : List ℕ) (x : ℕ) where
  pub add_none : (n : ℕ) → add_price S sums x 0 n ≡ sums
  unfolding add_price set_credit
  add_none n = refl

  pub add_some : (q n : ℕ) → 0 < q → add_price S sums x q n ≡ set sums (cell S (owner x) (q - 1)) (get_or sums (cell S (owner x) (q - 1)) 0 + n)
  unfolding add_price set_credit credit_at
  add_some zero n h = absurd (omega arith)
  add_some (suc r) n h = let e : suc r - 1 ≡ r = omega arith in rw e

pub sums_more : (S : Settings) (sums : List ℕ) (b b' : ℕ) → b ≤ b' → Sums S sums b → Sums S sums b'
sums_more S sums b b' h s = record { many = s.many; low = λ p q. le_trans (s.low p q) h }

pub zero_sums : (S : Settings) → Sums S (replicate (cells S) 0) 0
unfolding credit_at
zero_sums S = record { many = length-replicate (cells S) 0; low = none }
  where
    none : (p q : ℕ) → credit_at S (replicate (cells S) 0) p q ≤ 0
    none p zero = omega arith
    none p (suc r) = omega (arith, zeros (cells S) (cell S p r))

module _ (S : Settings) (m : List ℕ) where
  pub counted : Payable S m → (l : ℕ) → l < lists S → l % row S ≢ 0 → All (Counted S m) (nodes_of S m l)
  unfolding packet_at
  counted P l h n =
      let recorded = rw (list_at_lem S m l h) at (P.proper.holds l (rw length_lists h)) in
      All-both (nodes_of S m l) count (members S m P.tidy l h) (All-unmap _ (node_in S m l) (nodes_of S m l) recorded)
    where
      count : (x : ℕ) → is_node S x ≡ true → WellRecorded S (place_of S l) (node_in S m l x) → Counted S m x
      count x e w =
          let k = packet_at S m x in
          let r = by_place S (λ v. WellRecorded S v k → Proper S k) (λ p w. w) (λ p q w. w) (λ p q w. w) l n (rw (item_used S m l x n) at w) in
          record { node = e; queue_in_range = r.queue_in_range }

  pub free_list : (sums : List ℕ) (l : ℕ) → l % row S ≡ 0 → add_list S m sums l ≡ sums
  unfolding add_list
  free_list sums l e = rw (eqb_is (l % row S) 0 e)

  pub used_list : (sums : List ℕ) (l : ℕ) → l % row S ≢ 0 → add_list S m sums l ≡ add_all S m sums (nodes_of S m l)
  unfolding add_list
  used_list sums l n = rw (eqb_not (l % row S) 0 n)

  -- ---- no sum is large

  pub node_length : (sums : List ℕ) (x : ℕ) → length (add_node S m sums x) ≡ length sums
  unfolding add_node add_price
  node_length sums x = length_credit S sums (owner x) (get S m Queue (slot S x)) _

  pub add_sums : (sums : List ℕ) (x b : ℕ) → Sums S sums b → Sums S (add_node S m sums x) (b + 255)
  unfolding add_node add_price
  add_sums sums x b s =
      let r = get S m Queue (slot S x) in
      let mine = s.low (owner x) r in
      let price = get_lt S m Price (slot S x) in
      record { many = node_length sums x ∙ s.many; low = λ p q. credit_le S sums (owner x) r _ p q (b + 255) (omega arith) (omega (arith, s.low p q)) }

  pub all_sums : (xs sums : List ℕ) (b : ℕ) → Sums S sums b → Sums S (add_all S m sums xs) (b + 255 * length xs)
  unfolding add_all
  all_sums [] sums b s = sums_more S sums b _ (omega arith) s
  all_sums (x ∷ xs) sums b s = sums_more S _ _ _ (omega arith) (all_sums xs (add_node S m sums x) (b + 255) (add_sums sums x b s))

  pub list_sums : (sums : List ℕ) (l : ℕ) → get S m Count l ≤ 65536 → Sums S sums (list_most * l) → Sums S (add_list S m sums l) (list_most * (l + 1))
  list_sums sums l few s = go (ℕ_discrete (l % row S) 0)
    where
      go : Dec (l % row S ≡ 0) → Sums S (add_list S m sums l) (list_most * (l + 1))
      go (yes e) = rw (free_list sums l e) (sums_more S sums _ _ (omega arith) s)
      go (no n) = rw (used_list sums l n) (sums_more S _ _ _ (omega (arith, nodes_length S m l)) (all_sums (nodes_of S m l) sums _ s))
