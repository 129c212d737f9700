-- The sums are what the nodes owe, so that no cell is found is rule (g). Assumes nothing.
use mathlib.Core.Path.{◌≡◌, refl, sym, ap, ◌∙◌}
use mathlib.Core.Logic.{◌↔◌, ◌≢◌}
use mathlib.Core.Bool.{true, cond, ◌&&◌}
use mathlib.Core.List.{List, [], ◌∷◌, map}
use Prim.Native.Nat.{ℕ, zero, suc, ◌+◌, ◌-◌, ◌/◌, ◌%◌, ◌≤◌, ◌<◌}
use native.Mathlib.Nat.{mod-lt, div-add-mod', div-lt_iff_lt-mul}
use native.Mathlib.Decide.{ℕ_discrete}
use native.Mathlib.Omega.{arith}
use lib.ListN.{length, get_or, replicate, length-replicate}
use lib.Dec.{eqb}
use Rattle.std.specs.Prelude.{None}
use Rattle.ledger.specs.Settings.{Settings, row}
use Rattle.ledger.specs.Ledger.{owner, Packet, Place, cell, credit_at, arrival_of}
use Rattle.ledger.specs.Sound.{All, sum, weigh, owes, due, owed, Roomy}
use Rattle.ledger.proofs.Tests.{eqb_yes, eqb_is, eqb_not}
use Rattle.ledger.proofs.Lists.{All-of, sum_cong}
use Rattle.ledger.proofs.Places.{cell_lt, credit_at_lem, credit_other}
use Rattle.layout.specs.declared.Table.TheVariants.{Arrival, Queue, Price}
use Rattle.layout.specs.Tables.{cells, lists, get}
use Rattle.layout.specs.Picture.{slot, nodes_of, packet_at, node_in, tabulate, ledger_in}
use Rattle.memory.proofs.Chains.{get_d_table, item_used, shown, node_from}
use Rattle.ranges.proofs.First.{first_all}
use Rattle.paid.specs.Paid.{add_price, add_node, add_all, add_list, add_from, sums_of, settled_at, due_found, paid_found}
use Rattle.paid.specs.Passes.{Payable, Counted}
use Rattle.paid.proofs.Adding.{by_place, place_free, zero_sums, counted, free_list, used_list, node_length}

-- ---- lengths

module _ (S : Settings) (m : List ℕ) where
  nodes_keep : (xs sums : List ℕ) → length (add_all S m sums xs) ≡ length sums
  unfolding add_all
  nodes_keep [] sums = refl
  nodes_keep (x ∷ xs) sums = nodes_keep xs (add_node S m sums x) ∙ node_length S m sums x

  list_keeps : (sums : List ℕ) (l : ℕ) → length (add_list S m sums l) ≡ length sums
  list_keeps sums l = go (ℕ_discrete (l % row S) 0)
    where
      go : Dec (l % row S ≡ 0) → length (add_list S m sums l) ≡ length sums
      go (yes e) = ap length (free_list S m sums l e)
      go (no n) = ap length (used_list S m sums l n) ∙ nodes_keep (nodes_of S m l) sums

-- ---- sums

sum_map : {A B : Type 0} (f : B → ℕ) (g : A → B) (xs : List A) → sum f (map g xs) ≡ sum (λ x. f (g x)) xs
sum_map f g [] = refl
sum_map f g (x ∷ xs) = ap (λ (n : ℕ). f (g x) + n) (sum_map f g xs)

sum_none : (xs : List Packet) → sum (λ k. 0) xs ≡ 0
sum_none [] = refl
sum_none (x ∷ xs) = omega (arith, sum_none xs)

-- ---- what one port and queue is owed

module _ (S : Settings) (m : List ℕ) (p q : ℕ) (hp : p < S.ports) (some : 0 < q) (hq : q < S.queues) where
  node_owes : (sums : List ℕ) (x : ℕ) → length sums ≡ cells S → Counted S m x
      → credit_at S (add_node S m sums x) p q ≡ credit_at S sums p q + owes p q (packet_at S m x)
  unfolding add_node add_price packet_at
  node_owes sums x e c = go (ℕ_discrete (owner x) p) (ℕ_discrete (get S m Queue (slot S x)) q)
    where
      home : owner x < S.ports
      home = (node_from S x c.node).home

      go : Dec (owner x ≡ p) → Dec (get S m Queue (slot S x) ≡ q)
          → credit_at S (add_node S m sums x) p q ≡ credit_at S sums p q + cond (eqb (owner x) p && eqb (get S m Queue (slot S x)) q)
          (get S m Price (slot S x)) 0
      go (yes a) (yes b) =
          credit_at_lem S sums (owner x) (get S m Queue (slot S x)) _ e home c.queue_in_range p q a b some
          ∙ rw (eqb_is (owner x) p a, eqb_is (get S m Queue (slot S x)) q b, a, b)
      go (yes a) (no b) =
          credit_other S sums (owner x) (get S m Queue (slot S x)) _ e home c.queue_in_range p q hq (λ f g. b g)
          ∙ rw (eqb_is (owner x) p a, eqb_not (get S m Queue (slot S x)) q b) (omega arith)
      go (no a) d =
          credit_other S sums (owner x) (get S m Queue (slot S x)) _ e home c.queue_in_range p q hq (λ f g. a f)
          ∙ rw (eqb_not (owner x) p a) (omega arith)

  nodes_owe : (xs sums : List ℕ) → length sums ≡ cells S → All (Counted S m) xs
      → credit_at S (add_all S m sums xs) p q ≡ credit_at S sums p q + sum (λ x. owes p q (packet_at S m x)) xs
  unfolding add_all
  nodes_owe [] sums e a = omega arith
  nodes_owe (x ∷ xs) sums e a =
      omega (arith, nodes_owe xs (add_node S m sums x) (node_length S m sums x ∙ e) a.1, node_owes sums x e a.0)

  -- in a list that is not free
  used_owes : (l : ℕ) → l % row S ≢ 0 → (x : ℕ) → owed S p q l (node_in S m l x) ≡ owes p q (packet_at S m x)
  used_owes l n x =
      ap (owed S p q l) (item_used S m l x n)
      ∙ by_place S (λ v. due p q v (packet_at S m x) ≡ owes p q (packet_at S m x)) (λ r. refl) (λ r t. refl) (λ r t. refl) l n

  list_owes : Payable S m → (sums : List ℕ) (l : ℕ) → length sums ≡ cells S → l < lists S
      → credit_at S (add_list S m sums l) p q ≡ credit_at S sums p q + sum (owed S p q l) (shown S m l)
  list_owes P sums l e h = go (ℕ_discrete (l % row S) 0)
    where
      go : Dec (l % row S ≡ 0) → credit_at S (add_list S m sums l) p q ≡ credit_at S sums p q + sum (owed S p q l) (shown S m l)
      go (yes d) =
          let none : sum (owed S p q l) (shown S m l) ≡ 0 = ap (λ (v : Place). sum (due p q v) (shown S m l)) (place_free S l d) ∙ sum_none (shown S m l) in
          rw (free_list S m sums l d) (omega arith)
      go (no n) =
          let each : sum (owed S p q l) (shown S m l) ≡ sum (λ x. owes p q (packet_at S m x)) (nodes_of S m l) =
          sum_map (owed S p q l) (node_in S m l) (nodes_of S m l)
          ∙ sum_cong (λ x. owed S p q l (node_in S m l x)) (λ x. owes p q (packet_at S m x)) (nodes_of S m l)
          (All-of (nodes_of S m l) (used_owes l n))
          in
          rw (used_list S m sums l n) (omega (arith, nodes_owe (nodes_of S m l) sums e (counted S m P l h n)))

  lists_owe : Payable S m → (n l : ℕ) (sums : List ℕ) (f : ℕ → Packet → ℕ) → ((i : ℕ) → f i ≡ owed S p q (l + i)) → length sums ≡ cells S → l + n ≤ lists S
      → credit_at S (add_from S m sums l n) p q ≡ credit_at S sums p q + weigh f (tabulate (shown S m) l n)
  unfolding add_from
  lists_owe P zero l sums f same e h = omega arith
  lists_owe P (suc n) l sums f same e h =
      let first : l + 0 ≡ l = omega arith in
      omega (
        arith,
        list_owes P sums l e (omega arith),
        ap (λ (g : Packet → ℕ). sum g (shown S m l)) (same 0 ∙ ap (owed S p q) first),
        lists_owe P n (suc l) (add_list S m sums l) (λ i. f (suc i)) (λ i. let k : l + suc i ≡ suc l + i = omega arith in same (suc i) ∙ ap (owed S p q) k)
            (list_keeps S m sums l ∙ e) (omega arith),
      )

  sums_owe : Payable S m → credit_at S (sums_of S m) p q ≡ weigh (owed S p q) (ledger_in S m).lists
  unfolding sums_of ledger_in
  sums_owe P =
      omega (
        arith,
        (zero_sums S).low p q,
        lists_owe P (lists S) 0 (replicate (cells S) 0) (owed S p q) (λ i. let k : i ≡ 0 + i = omega arith in ap (owed S p q) k)
            (length-replicate (cells S) 0) (omega arith),
      )

-- ---- rule (g)

-- as `Orderly` says it: of a port and a queue, and of all
abbrev pub Paid : Settings → List ℕ → ℕ → ℕ → Type 0
Paid S m p q = arrival_of S (ledger_in S m) p q + weigh (owed S p q) (ledger_in S m).lists ≡ S.credit

abbrev pub AllPaid : Settings → List ℕ → Type 0
AllPaid S m = (p q : ℕ) → p < S.ports → 0 < q → q < S.queues → Paid S m p q

module _ (S : Settings) (m : List ℕ) (R : Roomy S) (P : Payable S m) where
  -- what is said of port p and queue r + 1 is what is tested at its cell
  at_cell : (p r : ℕ) → p < S.ports → suc r < S.queues
      → arrival_of S (ledger_in S m) p (suc r) + weigh (owed S p (suc r)) (ledger_in S m).lists ≡ get S m Arrival (cell S p r) + get_or (sums_of S m)
      (cell S p r) 0
  unfolding credit_at ledger_in
  at_cell p r hp hr =
      omega (arith, get_d_table (get S m Arrival) (cells S) (cell S p r) 0 (cell_lt S p r hp hr), sums_owe S m p (suc r) hp (omega arith) hr P)

  -- a cell that passes is rule (g) of its port and queue
  pub cell_means : (c : ℕ) → c < cells S
      → (settled_at S m (sums_of S m) c ≡ true)
      ↔ Paid S m (c / (S.queues - 1)) (suc (c % (S.queues - 1)))
  unfolding settled_at cell
  cell_means c h =
      let wide : 0 < S.queues - 1 = omega (arith, R.some_queues) in
      let low : c % (S.queues - 1) < S.queues - 1 = mod-lt c wide in
      let w = at_cell (c / (S.queues - 1)) (c % (S.queues - 1)) ((div-lt_iff_lt-mul wide).1 h) (omega arith) in
      let at : cell S (c / (S.queues - 1)) (c % (S.queues - 1)) ≡ c = div-add-mod' c (S.queues - 1) in
      let e = w ∙ ap (λ (k : ℕ). get S m Arrival k + get_or (sums_of S m) k 0) at in
      (λ t. e ∙ eqb_yes _ _ t, λ l. eqb_is _ _ (sym e ∙ l))

  pub paid_means : (paid_found S m ≡ None) ↔ AllPaid S m
  unfolding due_found settled_at
  paid_means =
      let f = first_all (settled_at S m (sums_of S m)) (cells S) in
      (λ e. means (f.0 e), λ h. f.1 (λ c k. (cell_means c k).1 (holds h c k)))
    where
      means : ((c : ℕ) → c < cells S → settled_at S m (sums_of S m) c ≡ true) → AllPaid S m
      means h p zero hp some hq = absurd (omega arith)
      means h p (suc r) hp some hq = at_cell p r hp hq ∙ eqb_yes _ _ (h (cell S p r) (cell_lt S p r hp hq))

      holds : AllPaid S m → (c : ℕ) → c < cells S → Paid S m (c / (S.queues - 1)) (suc (c % (S.queues - 1)))
      holds h c k =
          let wide : 0 < S.queues - 1 = omega (arith, R.some_queues) in
          let low : c % (S.queues - 1) < S.queues - 1 = mod-lt c wide in
          h (c / (S.queues - 1)) (suc (c % (S.queues - 1))) ((div-lt_iff_lt-mul wide).1 k) (omega arith) (omega arith)
