-- What a store outside the lists' own tables does: to the record of a node that stands nowhere, to a credit, a mark, the map. Assumes nothing.
use mathlib.Core.Path.{◌≡◌, sym, ap, subst, refl}
use mathlib.Core.Logic.{◌≢◌}
use mathlib.Core.Bool.{true, cond}
use mathlib.Core.List.{List}
use Prim.Native.Nat.{ℕ, ◌^◌, ◌≤◌, ◌<◌}
use native.Mathlib.Omega.{arith}
use lib.ListN.{length, set}
use Rattle.ledger.specs.Settings.{Settings}
use Rattle.ledger.specs.Ledger.{is_node, Column, column#, tall, change, put_in}
use Rattle.ledger.specs.Sound.{All, weigh, one}
use Rattle.ledger.proofs.Lists.{All-map, All-both}
use Rattle.layout.specs.declared.Table.{Table}
use Rattle.layout.specs.declared.Table.TheVariants.{Head, Tail, Count, Next}
use Rattle.layout.specs.Tables.{turn_of, width, lists, many, get, put, table_of}
use Rattle.layout.specs.Picture.{slot, nodes_of, packet_at, tabulate, ledger_in}
use Rattle.memory.specs.Ends.{Tidy, IsRecord}
use Rattle.layout.proofs.Tables.{length_put, get_put, get_put_else}
use Rattle.memory.proofs.Chains as C
use Rattle.ledger.proofs.Columns.{column_inj}
use lib.Dec.{eqb}
use Rattle.ledger.proofs.Tests.{eqb_is, eqb_not}
use native.Mathlib.Decide.{ℕ_discrete}

-- ---- a memory with the same lists: their tables are the same, and so is what is recorded for the nodes in them

record Kept (S : Settings) (m m' : List ℕ) : Type 0 where
  long_is : length m' ≡ length m
  tables : (q : Table) (j : ℕ) → turn_of Head ≤ turn_of q → turn_of q ≤ turn_of Next → j < many S q → get S m' q j ≡ get S m q j
  packets : (l : ℕ) → l < lists S → All (λ y. packet_at S m' y ≡ packet_at S m y) (nodes_of S m l)

module _ (S : Settings) (m m' : List ℕ) (P : Tidy S m) (K : Kept S m m') where
  kept_nodes : (l : ℕ) → l < lists S → nodes_of S m' l ≡ nodes_of S m l
  kept_nodes l h =
      C.nodes_same S m m' l (K.tables Head l (omega arith) (omega arith) h) (K.tables Count l (omega arith) (omega arith) h)
      (All-map (nodes_of S m l) (λ y e. K.tables Next (slot S y) (omega arith) (omega arith) (C.slot_lt S y e)) (C.members S m P l h))

  kept_lists : (ledger_in S m').lists ≡ (ledger_in S m).lists
  unfolding ledger_in
  kept_lists = C.table_ext (C.shown S m') (C.shown S m) (lists S) (λ l h. rw (kept_nodes l h) (C.items_same S m m' l (nodes_of S m l) (K.packets l h)))

  kept_tidy : Tidy S m'
  kept_tidy = record {
    long = rw K.long_is P.long;
    hangs = λ l h. rw (kept_nodes l h, K.tables Tail l (omega arith) (omega arith) h) (P.hangs l h);
    once = λ y. rw kept_lists (P.once y);
  }

-- ---- the record of a node that stands nowhere: no list shows it

module _ (S : Settings) (m : List ℕ) (t : Table) (x v : ℕ) (P : Tidy S m) (k : IsRecord t) (hx : is_node S x ≡ true)
    (gone : weigh (one x) (ledger_in S m).lists ≡ 0) where
  record_else : (q : Table) (j : ℕ) → turn_of q ≢ turn_of t → j < many S q → get S (put S t (slot S x) v m) q j ≡ get S m q j
  record_else q j n h = get_put_else S m t (slot S x) v q j (C.slot_record S x t hx k) h (λ e d. n (sym (ap turn_of e)))

  -- another node's record
  pub record_packet : (y : ℕ) → is_node S y ≡ true → y ≢ x → packet_at S (put S t (slot S x) v m) y ≡ packet_at S m y
  record_packet y e n =
      C.packet_same S m (put S t (slot S x) v m) y
      (λ q h. get_put_else S m t (slot S x) v q (slot S y) (C.slot_record S x t hx k) (C.slot_record S y q e h) (λ p d. n (sym (C.slot_inj S x y hx e d))))

  record_kept : Kept S m (put S t (slot S x) v m)
  record_kept = record {
    long_is = length_put S t (slot S x) v m;
    tables = λ q j low high h. record_else q j (omega arith) h;
    packets = λ l h. All-both (nodes_of S m l) record_packet (C.members S m P l h) (C.not_in x (nodes_of S m l) (omega (arith, C.times_le S m x l h)));
  }

  pub record_ledger : ledger_in S (put S t (slot S x) v m) ≡ ledger_in S m
  record_ledger =
      C.with_lists_lem (ledger_in S m) (ledger_in S (put S t (slot S x) v m)) (ledger_in S m).lists
      (kept_lists S m (put S t (slot S x) v m) P record_kept)
      (C.rest_same S m (put S t (slot S x) v m) (λ q j h l. record_else q j (omega arith) l))

  pub record_tidy : Tidy S (put S t (slot S x) v m)
  record_tidy = kept_tidy S m (put S t (slot S x) v m) P record_kept

-- ---- a table that stands before those of the lists

module _ (S : Settings) (m : List ℕ) (t : Table) (i v : ℕ) (P : Tidy S m) (hi : i < many S t) where
  column_else : (q : Table) → turn_of q ≢ turn_of t → (j : ℕ) → j < many S q → get S (put S t i v m) q j ≡ get S m q j
  column_else q n j h = get_put_else S m t i v q j hi h (λ e d. n (sym (ap turn_of e)))

  column_same : (q : Table) → turn_of q ≢ turn_of t → tabulate (get S (put S t i v m) q) 0 (many S q) ≡ tabulate (get S m q) 0 (many S q)
  column_same q n = C.table_ext (get S (put S t i v m) q) (get S m q) (many S q) (column_else q n)

  column_set : v < 256 ^ width t → tabulate (get S (put S t i v m) t) 0 (many S t) ≡ set (tabulate (get S m t) 0 (many S t)) i v
  column_set b =
      C.table_set (get S m t) (get S (put S t i v m) t) (many S t) i v hi (get_put S m t i v P.long hi b)
      (λ j h n. get_put_else S m t i v t j hi h (λ e d. n (sym d)))

  module _ (low : turn_of t < turn_of Head) where
    column_kept : Kept S m (put S t i v m)
    column_kept = record {
      long_is = length_put S t i v m;
      tables = λ q j l u h. column_else q (omega arith) j h;
      packets = λ l h.
          All-map (nodes_of S m l)
          (λ y e. C.packet_same S m (put S t i v m) y (λ q k. column_else q (omega arith) (slot S y) (C.slot_record S y q e k)))
          (C.members S m P l h);
    }

    pub column_lists : (ledger_in S (put S t i v m)).lists ≡ (ledger_in S m).lists
    column_lists = kept_lists S m (put S t i v m) P column_kept

    pub column_tidy : Tidy S (put S t i v m)
    column_tidy = kept_tidy S m (put S t i v m) P column_kept

-- a number written into a column's table is the number set in the column
module _ (S : Settings) (m : List ℕ) (c : Column) (i v : ℕ) (P : Tidy S m) (h : i < tall S c) (b : v < 256 ^ width (table_of c)) where
  abbrev now : List ℕ
  now = put S (table_of c) i v m

  hi : i < many S (table_of c)
  hi = rw (C.column_table S c).long h

  pub column_put : ledger_in S now ≡ put_in c i v (ledger_in S m)
  unfolding ledger_in change
  column_put =
      λ k. record { lists = column_lists S m (table_of c) i v P hi (C.column_table S c).low k; numbers = λ d. go d (ℕ_discrete (column# c) (column# d)) k }
    where
      shown : List ℕ → Column → List ℕ
      shown x d = tabulate (get S x (table_of d)) 0 (tall S d)

      go : (d : Column) → Dec (column# c ≡ column# d) → shown now d ≡ cond (eqb (column# c) (column# d)) (set (shown m d) i v) (shown m d)
      go d (yes e) =
          subst (λ (d : Column). shown now d ≡ cond (eqb (column# c) (column# d)) (set (shown m d) i v) (shown m d)) (column_inj c d e)
          (rw (eqb_is (column# c) (column# c) refl) (rw (C.column_table S c).long at (column_set S m (table_of c) i v P hi b)))
      go d (no n) =
          rw (eqb_not (column# c) (column# d) n)
          (rw (C.column_table S d).long at (column_same S m (table_of c) i v P hi (table_of d) (λ e. n (ap column# (C.table_inj S c d (sym e))))))
