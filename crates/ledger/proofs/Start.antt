-- The starting ledger: where its lists stand, and that it is sound. Assumes nothing.
use mathlib.Core.Path.{◌≡◌, refl, ap, ◌∙◌, subst}
use mathlib.Core.Logic.{◌≢◌, ◌⊎◌, inl, inr}
use mathlib.Core.Bool.{true}
use mathlib.Core.List.{List, [], ◌∷◌, ◌++◌}
use Prim.Native.Nat.{ℕ, zero, suc, ◌+◌, ◌-◌, ◌*◌, ◌≤◌, ◌<◌, zero-le}
use native.Mathlib.Nat.{not-suc-le-zero, le_of_suc-le-suc, zero-add}
use native.Mathlib.Omega.{arith}
use native.Mathlib.Decide.{ℕ_discrete}
use lib.ListN.{length, get_or, replicate, length-append, length-replicate, get_or-replicate, get_or-append}
use lib.Seq.{get_or-append-add}
use lib.Dec.{eqb}
use Rattle.ledger.specs.Settings.{Settings, in_rows, row}
use Rattle.ledger.specs.Ledger.{owner, index, entry_id, is_node, Packet, bare, Place, free, ingress, egress, prefetched, column, place#, place_of}
use Rattle.ledger.specs.Ledger.{cell, credit_at, list_at, bares, start_lists, start, arrival, outward, last, mapped, halted, buckets, mark_of, Column}
use Rattle.ledger.specs.Ledger.{tall, bound}
use Rattle.ledger.specs.Ledger.{starting}
use Rattle.ledger.specs.Ready.{bit}
use Rattle.ledger.specs.Halt.{halts, is_mark}
use Rattle.ledger.specs.Sound.{All, Everywhere, sum, weigh, one, Once, OwnPort, OwnQueue, WellRecorded, due, owed, Orderly, Marked, Sound, Roomy}
use Rattle.ledger.specs.Ledger.{PlaceIn}
use Rattle.ledger.proofs.Tests.{eqb_is, eqb_not}
use Rattle.ledger.proofs.Lists.{weigh_cong, weigh_none}
use Rattle.ledger.proofs.Places.{place_of_lem, cell_lt, node_of, node_is}
use Rattle.ledger.proofs.Rows.{roomy}
use Rattle.ledger.proofs.Find.{once_by_test}

-- ---- a run of free nodes

pub bares_length : (x n : ℕ) → length (bares x n) ≡ n
bares_length x zero = refl
bares_length x (suc n) = ap suc (bares_length (suc x) n)

bares_all : (P : Packet → Type 0) (a n : ℕ) → ((x : ℕ) → a ≤ x → x < a + n → P (bare x)) → All P (bares a n)
bares_all P a zero f = tt
bares_all P a (suc n) f = (f a (omega arith) (omega arith), bares_all P (suc a) n (λ x h k. f x (omega arith) (omega arith)))

bares_out : (y a n : ℕ) → (y < a) ⊎ (a + n ≤ y) → sum (one y 0) (bares a n) ≡ 0
bares_out y a zero h = refl
bares_out y a (suc n) (inl h) = omega (arith, ap bit (eqb_not a y (omega arith)), bares_out y (suc a) n (inl (omega arith)))
bares_out y a (suc n) (inr h) = omega (arith, ap bit (eqb_not a y (omega arith)), bares_out y (suc a) n (inr (omega arith)))

pub bares_in : (y a n : ℕ) → a ≤ y → y < a + n → sum (one y 0) (bares a n) ≡ 1
bares_in y a zero h k = absurd (omega arith)
bares_in y a (suc n) h k = go (ℕ_discrete a y) (bares_in y (suc a) n)
  where
    go : Dec (a ≡ y) → (suc a ≤ y → y < suc a + n → sum (one y 0) (bares (suc a) n) ≡ 1) → bit (eqb a y) + sum (one y 0) (bares (suc a) n) ≡ 1
    go (yes e) f = omega (arith, ap bit (eqb_is a y e), bares_out y (suc a) n (inl (omega arith)))
    go (no d) f = omega (arith, ap bit (eqb_not a y d), f (omega arith) (omega arith))

-- ---- the lists

-- where the weight does not look at the list
flat_append : (g : Packet → ℕ) (xs ys : List (List Packet)) → weigh (λ l. g) (xs ++ ys) ≡ weigh (λ l. g) xs + weigh (λ l. g) ys
flat_append g [] ys = omega arith
flat_append g (x ∷ xs) ys = omega (arith, flat_append g xs ys)

flat_empty : (g : Packet → ℕ) (n : ℕ) → weigh (λ l. g) (replicate n []) ≡ 0
flat_empty g zero = refl
flat_empty g (suc n) = omega (arith, flat_empty g n)

module _ (S : Settings) where
  -- a port's lists
  abbrev block : ℕ → List (List Packet)
  block p = bares (entry_id p 0) S.nodes ∷ replicate (1 + 2 * S.queues) []

  block_length : (p : ℕ) → length (block p) ≡ row S
  unfolding row
  block_length p = omega (arith, length-replicate {A = List Packet} (1 + 2 * S.queues) [])

  pub start_length : (p n : ℕ) → length (start_lists S p n) ≡ n * row S
  start_length p zero = omega arith
  start_length p (suc n) = omega (arith, length-append (block p) (start_lists S (suc p) n), block_length p, start_length (suc p) n)

  -- the list in row i and column c
  start_at : (p n i c : ℕ) → i < n → c < row S → get_or (start_lists S p n) (i * row S + c) [] ≡ get_or (block (p + i)) c []
  start_at p zero i c h k = absurd (not-suc-le-zero h)
  start_at p (suc n) zero c h k =
      let e : 0 * row S + c ≡ c = omega arith in
      let d : p ≡ p + 0 = omega arith in
      ap (λ (j : ℕ). get_or (start_lists S p (suc n)) j []) e
      ∙ get_or-append (block p) (start_lists S (suc p) n) [] c (omega (arith, block_length p))
      ∙ ap (λ (j : ℕ). get_or (block j) c []) d
  start_at p (suc n) (suc i) c h k =
      let e : suc i * row S + c ≡ length (block p) + (i * row S + c) = omega (arith, block_length p) in
      let d : suc p + i ≡ p + suc i = omega arith in
      ap (λ (j : ℕ). get_or (start_lists S p (suc n)) j []) e
      ∙ get_or-append-add (block p) (start_lists S (suc p) n) (i * row S + c) []
      ∙ start_at (suc p) n i c (le_of_suc-le-suc h) k
      ∙ ap (λ (j : ℕ). get_or (block j) c []) d

  -- by number: column 0 has the port's nodes, every other column nothing
  pub start_first : (p : ℕ) → p < S.ports → get_or (start_lists S 0 S.ports) (p * row S + 0) [] ≡ bares (entry_id p 0) S.nodes
  start_first p h = rw (start_at 0 S.ports p 0 h (unfold row in (omega arith)), zero-add)

  pub start_empty : (p c : ℕ) → p < S.ports → suc c < row S → get_or (start_lists S 0 S.ports) (p * row S + suc c) [] ≡ []
  unfolding row
  start_empty p c h k = start_at 0 S.ports p (suc c) h k ∙ get_or-replicate (1 + 2 * S.queues) c [] [] (omega arith)

  -- and by place
  pub start_free : (p : ℕ) → p < S.ports → list_at S (start S) (free p) ≡ bares (entry_id p 0) S.nodes
  unfolding start place#
  start_free p h = start_first p h

  pub start_else : (v : Place) → PlaceIn S v → column S v ≢ 0 → list_at S (start S) v ≡ []
  unfolding start place# row
  start_else (free p) h n = absurd (n refl)
  start_else (ingress p) h n = start_empty p 0 h.0 (omega arith)
  start_else (egress p q) h n = start_empty p (suc q) h.0 (omega arith)
  start_else (prefetched p q) h n = start_empty p (suc (S.queues + q)) h.0 (omega arith)

  -- ---- how often a node stands there

  start_sum : (y p n : ℕ) → weigh (one y) (start_lists S p (suc n)) ≡ sum (one y 0) (bares (entry_id p 0) S.nodes) + weigh (one y) (start_lists S (suc p) n)
  start_sum y p n =
      omega (arith, flat_append (one y 0) (replicate (1 + 2 * S.queues) []) (start_lists S (suc p) n), flat_empty (one y 0) (1 + 2 * S.queues))

  module _ (few : S.nodes ≤ 2048) (y : ℕ) where
    start_out : (p n : ℕ) → owner y < p → weigh (one y) (start_lists S p n) ≡ 0
    start_out p zero h = refl
    start_out p (suc n) h = start_sum y p n ∙ omega (arith, bares_out y (p * 2048 + 0) S.nodes (inl (omega arith)), start_out (suc p) n (omega arith))

    start_in : (p n : ℕ) → p ≤ owner y → owner y < p + n → index y < S.nodes → weigh (one y) (start_lists S p n) ≡ 1
    start_in p zero h k l = absurd (omega arith)
    start_in p (suc n) h k l = start_sum y p n ∙ go (ℕ_discrete p (owner y)) (λ h' k'. start_in (suc p) n h' k' l)
      where
        go : Dec (p ≡ owner y) → (suc p ≤ owner y → owner y < suc p + n → weigh (one y) (start_lists S (suc p) n) ≡ 1)
            → sum (one y 0) (bares (p * 2048 + 0) S.nodes) + weigh (one y) (start_lists S (suc p) n) ≡ 1
        go (yes e) f = omega (arith, bares_in y (p * 2048 + 0) S.nodes (omega arith) (omega arith), start_out (suc p) n (omega arith))
        go (no d) f = omega (arith, bares_out y (p * 2048 + 0) S.nodes (inr (omega arith)), f (omega arith) (omega arith))

  -- a table of credits that are all v
  credit_all : (v p q : ℕ) → p < S.ports → suc q < S.queues → credit_at S (replicate (S.ports * (S.queues - 1)) v) p (suc q) ≡ v
  unfolding credit_at
  credit_all v p q h k = get_or-replicate (S.ports * (S.queues - 1)) (cell S p q) v 0 (cell_lt S p q h k)

  -- what a column starts with is in range
  starts_in : Roomy S → (c : Column) → starting S c < bound S c
  starts_in r arrival = omega (arith, r.low_credit)
  starts_in r outward = omega arith
  starts_in r last = omega (arith, r.some_queues)
  starts_in r mapped = omega (arith, r.some_ports)
  starts_in r halted = omega arith
  starts_in r buckets = omega arith

  -- ---- what holds of the free nodes is all that is to be shown

  module _ (r : Roomy S) where
    start_fits : (Q : Place → Packet → Type 0) → ((p x : ℕ) → p < S.ports → entry_id p 0 ≤ x → x < entry_id p 0 + S.nodes → Q (free p) (bare x))
        → Everywhere (λ l k. Q (place_of S l) k) (start S).lists
    start_fits Q f = record {
      holds = λ l h.
          let w = place_of_lem S l (omega (arith, r.some_queues)) (omega (arith, h, long)) in
          subst (λ (j : ℕ). All (Q (place_of S l)) (get_or (start S).lists j [])) w.1 (part (place_of S l) w.0);
    }
      where
        long : length (start S).lists ≡ S.ports * row S
        long = unfold start in (start_length 0 S.ports)

        part : (v : Place) → PlaceIn S v → All (Q v) (list_at S (start S) v)
        part (free p) h = rw (start_free p h.0) (bares_all (Q (free p)) (entry_id p 0) S.nodes (λ x. f p x h.0))
        part (ingress p) h = rw (start_else (ingress p) h (omega arith)) tt
        part (egress p q) h = rw (start_else (egress p q) h (omega arith)) tt
        part (prefetched p q) h = rw (start_else (prefetched p q) h (omega arith)) tt

    start_once : Once S (start S).lists
    unfolding start
    start_once =
        once_by_test S (start_lists S 0 S.ports)
        (start_fits (λ v k. is_node S k.node ≡ true) (λ p x h a b. node_is S x (record { home = omega arith; low = omega (arith, r.few_nodes) })))
        (λ y e. let n = node_of S y (omega (arith, ap bit e)) in start_in r.few_nodes y 0 S.ports zero-le (omega arith) n.low)

    start_due : (p q : ℕ) → weigh (owed S p q) (start S).lists ≡ 0
    start_due p q =
        weigh_cong (owed S p q) (λ l k. 0) (start S).lists (start_fits (λ v k. due p q v k ≡ 0) (λ p' x h a b. refl))
        ∙ weigh_none (start S).lists

    pub start_orderly : Orderly S (start S)
    unfolding start
    start_orderly = record {
      shaped = record { lists_long = start_length 0 S.ports; numbers_long = λ c. length-replicate (tall S c) (starting S c) };
      ranges = record {
        numbers_in = λ c i h. omega (arith, get_or-replicate (tall S c) i (starting S c) 0 h, starts_in r c);
        slots_in = λ p q h k. rw (start_else (prefetched p q) (h, k) (omega arith)) zero-le;
      };
      once = start_once;
      owned = start_fits OwnPort (λ p x h a b. omega (arith, r.few_nodes));
      queued = start_fits OwnQueue (λ p x h a b. tt);
      proper = start_fits (WellRecorded S) (λ p x h a b. tt);
      paid = paid_start;
    }
      where
        paid_start : (p q : ℕ) → p < S.ports → 0 < q → q < S.queues
            → credit_at S (replicate (S.ports * (S.queues - 1)) S.credit) p q + weigh (owed S p q) (start S).lists ≡ S.credit
        paid_start p zero h l k = absurd (omega arith)
        paid_start p (suc q) h l k = omega (arith, credit_all S.credit p q h k, start_due p (suc q))

-- no port is halted, so (i) holds
pub start_unhalted : (S : Settings) (p : ℕ) → p < S.ports → mark_of (start S) p ≡ 0
unfolding start
start_unhalted S p h = get_or-replicate {A = ℕ} S.ports p 0 0 h

pub start_marked : (S : Settings) → Marked S (start S)
unfolding is_mark halts
start_marked S p h = rw (start_unhalted S p h)

pub start_sound : (S : Settings) → in_rows S ≡ true → Sound S (start S)
start_sound S e = record { rows = e; orderly = start_orderly S (roomy S e); marked = start_marked S }
