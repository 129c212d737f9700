-- What `pop_mem` does to the lists. Assumes nothing.
use mathlib.Core.Path.{◌≡◌, refl, sym, ap, ◌∙◌}
use mathlib.Core.Logic.{◌≢◌}
use mathlib.Core.Bool.{true, false}
use mathlib.Core.List.{List, [], ◌∷◌, map}
use Prim.Native.Nat.{ℕ, ◌+◌, ◌-◌, ◌<◌}
use native.Mathlib.Decide.{ℕ_discrete}
use native.Mathlib.Omega.{arith}
use lib.ListN.{length, get_or, drop}
use lib.Dec.{eqb}
use Rattle.ledger.specs.Settings.{Settings, size}
use Rattle.ledger.specs.Ledger.{is_node, oldest, pop}
use Rattle.ledger.specs.Ready.{bit}
use Rattle.ledger.specs.Calls.{is_empty}
use Rattle.ledger.specs.Sound.{All, weigh, one}
use Rattle.ledger.proofs.Lists.{weigh_pop, All-map}
use Rattle.layout.specs.declared.Table.{Table}
use Rattle.layout.specs.declared.Table.TheVariants.{Setting, Head, Tail, Count, Next}
use Rattle.layout.specs.Tables.{turn_of, lists, many, get}
use Rattle.layout.specs.Picture.{settings_in, slot, chain, nodes_of, packet_at, node_in, ledger_in, last_d, Hangs}
use Rattle.memory.specs.Ends.{pop_mem, Tidy, with_lists, SameNumbers}
use Rattle.layout.proofs.Tables.{length_put, get_lt, get_put, get_put_else, settings_put, drop_put}
use Rattle.memory.proofs.Chains as C

-- a list that was not empty still ends where it did
last_d_rest : (x : ℕ) (xs : List ℕ) (d : ℕ) → last_d (x ∷ xs) d ≡ d → last_d xs d ≡ d
last_d_rest x [] d e = refl
last_d_rest x (y ∷ ys) d e = e

pub length_pop_mem : (S : Settings) (m : List ℕ) (a : ℕ) → length (pop_mem S a m) ≡ length m
unfolding pop_mem
length_pop_mem S m a = simp length_put

module _ (S : Settings) (m : List ℕ) (a : ℕ) (ha : a < lists S) where
  pub settings_pop : settings_in (pop_mem S a m) ≡ settings_in m
  unfolding pop_mem
  settings_pop = settings_put S _ Count a _ ha (C.differ Count Setting (omega arith)) ∙ settings_put S m Head a _ ha (C.differ Head Setting (omega arith))

  pub past_pop : drop (size S) (pop_mem S a m) ≡ drop (size S) m
  unfolding pop_mem
  past_pop = drop_put S Count a _ _ ha ∙ drop_put S Head a _ m ha

  pop_apart : (r : Table) (j : ℕ) → j < many S r → (Head ≡ r → a ≡ j → ⊥) → (Count ≡ r → a ≡ j → ⊥) → get S (pop_mem S a m) r j ≡ get S m r j
  unfolding pop_mem
  pop_apart r j h n₁ n₂ = get_put_else S _ Count a _ r j ha h n₂ ∙ get_put_else S m Head a _ r j ha h n₁

  pub pop_get : (r : Table) (j : ℕ) → turn_of r ≢ turn_of Head → turn_of r ≢ turn_of Count → j < many S r → get S (pop_mem S a m) r j ≡ get S m r j
  pop_get r j n₁ n₂ h = pop_apart r j h (λ e d. n₁ (sym (ap turn_of e))) (λ e d. n₂ (sym (ap turn_of e)))

  -- at another list
  pop_other : (r : Table) (l : ℕ) → l ≢ a → l < many S r → get S (pop_mem S a m) r l ≡ get S m r l
  pop_other r l n h = pop_apart r l h (λ e d. n (sym d)) (λ e d. n (sym d))

  pub pop_packet : (y : ℕ) → is_node S y ≡ true → packet_at S (pop_mem S a m) y ≡ packet_at S m y
  pop_packet y e =
      C.packet_same S m (pop_mem S a m) y
      (λ t h. pop_get t (slot S y) (omega arith) (omega arith) (C.slot_record S y t e h))

  pub pop_else : SameNumbers (ledger_in S m) (ledger_in S (pop_mem S a m))
  pop_else = C.rest_same S m (pop_mem S a m) (λ t j h k. pop_get t j (omega arith) (omega arith) k)

module _ (S : Settings) (m : List ℕ) (a : ℕ) (P : Tidy S m) (ha : a < lists S) (pos : 0 < get S m Count a) where
  abbrev m' : List ℕ
  m' = pop_mem S a m

  pop_head : get S m' Head a ≡ get S m Next (slot S (get S m Head a))
  unfolding pop_mem
  pop_head =
      get_put_else S _ Count a _ Head a ha ha (λ e d. C.differ Count Head (omega arith) e)
      ∙ get_put S m Head a _ P.long ha (get_lt S m Next (slot S (get S m Head a)))

  pop_count : get S m' Count a ≡ get S m Count a - 1
  unfolding pop_mem
  pop_count =
      let b = get_lt S m Count a in
      get_put S _ Count a _ (rw length_put P.long) ha (omega arith)

  next_same : (y : ℕ) → is_node S y ≡ true → C.SameNext S m m' y
  next_same y e = pop_get S m a ha Next (slot S y) (omega arith) (omega arith) (C.slot_lt S y e)

  nodes_other : (l : ℕ) → l < lists S → l ≢ a → nodes_of S m' l ≡ nodes_of S m l
  nodes_other l h n =
      C.nodes_same S m m' l (pop_other S m a ha Head l n h) (pop_other S m a ha Count l n h)
      (All-map (nodes_of S m l) next_same (C.members S m P l h))

  abbrev left : List ℕ
  left = chain S m (get S m Count a - 1) (get S m Next (slot S (get S m Head a)))

  left_members : All (λ y. is_node S y ≡ true) left
  left_members = (rw (C.nodes_front S m a pos) at (C.members S m P a ha)).1

  pub pop_node : is_node S (get S m Head a) ≡ true
  pop_node = C.head_is_node S m P a ha pos

  nodes_left : nodes_of S m' a ≡ left
  unfolding nodes_of
  nodes_left = rw (pop_head, pop_count) (C.chain_same S m m' _ _ (All-map left next_same left_members))

  pop_front : get_or (ledger_in S m).lists a [] ≡ node_in S m a (get S m Head a) ∷ map (node_in S m a) left
  pop_front = C.list_at_lem S m a ha ∙ ap (map (node_in S m a)) (C.nodes_front S m a pos)

  pub pop_item : oldest (get_or (ledger_in S m).lists a []) ≡ node_in S m a (get S m Head a)
  pop_item = rw pop_front

  pub pop_first : get S m Head a ≡ (oldest (get_or (ledger_in S m).lists a [])).node
  pop_first = rw pop_item (sym (C.item_node S m a (get S m Head a)))

  pub pop_filled : is_empty (get_or (ledger_in S m).lists a []) ≡ false
  pop_filled = rw pop_front

  items : (l : ℕ) (ys : List ℕ) → All (λ y. is_node S y ≡ true) ys → map (node_in S m' l) ys ≡ map (node_in S m l) ys
  items l ys n = C.items_same S m m' l ys (All-map ys (pop_packet S m a ha) n)

  pub pop_lists : (ledger_in S m').lists ≡ pop a (ledger_in S m).lists
  unfolding ledger_in pop
  pop_lists =
      rw pop_front
      (C.table_set (C.shown S m) (C.shown S m') (lists S) a (map (node_in S m a) left) ha
      (rw nodes_left (items a left left_members))
      (λ l h n. rw (nodes_other l h n) (items l (nodes_of S m l) (C.members S m P l h))))

  pub pop_ledger : ledger_in S m' ≡ with_lists (pop a (ledger_in S m).lists) (ledger_in S m)
  pop_ledger = C.with_lists_lem (ledger_in S m) (ledger_in S m') _ pop_lists (pop_else S m a ha)

  pop_weigh : (y : ℕ) → weigh (one y) (ledger_in S m').lists + bit (eqb (get S m Head a) y) ≡ weigh (one y) (ledger_in S m).lists
  pop_weigh y =
      rw (pop_lists, pop_first)
      (weigh_pop (one y) a (ledger_in S m).lists (rw C.length_lists ha) pop_filled)

  pub pop_gone : weigh (one (get S m Head a)) (ledger_in S m').lists ≡ 0
  pop_gone = omega (arith, pop_weigh (get S m Head a), C.bit_same (get S m Head a) (get S m Head a) refl, C.once_most S m P (get S m Head a))

  pop_hangs : (l : ℕ) → l < lists S → Dec (l ≡ a) → Hangs S m' l
  pop_hangs l h (yes e) =
      rw (e, nodes_left, pop_get S m a ha Tail a (omega arith) (omega arith) ha)
      (last_d_rest (get S m Head a) left (get S m Tail a) (rw (C.nodes_front S m a pos) at (P.hangs a ha)))
  pop_hangs l h (no n) = rw (nodes_other l h n, pop_get S m a ha Tail l (omega arith) (omega arith) h) (P.hangs l h)

  pub pop_tidy : Tidy S m'
  pop_tidy = record {
    long = rw length_pop_mem P.long;
    hangs = λ l h. pop_hangs l h (ℕ_discrete l a);
    once = λ y. omega (arith, pop_weigh y, P.once y);
  }
