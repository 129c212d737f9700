-- What the test of each item is, and that no item out of range is rule (b). Assumes nothing.
use mathlib.Core.Path.{◌≡◌, refl, sym, ap, ◌∙◌}
use mathlib.Core.Logic.{◌↔◌}
use mathlib.Core.Bool.{true}
use mathlib.Core.List.{List, [], ◌∷◌, ◌++◌}
use Prim.Native.Nat.{ℕ, ◌+◌, ◌-◌, ◌*◌, ◌/◌, ◌%◌, ◌≤◌, ◌<◌}
use native.Mathlib.Nat.{mul-le-mul, mod-lt, div-lt_iff_lt-mul, zero-add}
use native.Mathlib.Decide.{dec_lt}
use native.Mathlib.Omega.{arith}
use lib.ListN.{length, get_or}
use lib.Dec.{ltb, leb}
use Rattle.std.specs.Prelude.{None}
use Rattle.ledger.specs.Settings.{Settings}
use Rattle.ledger.specs.Ledger.{prefetched, place#, Column, arrival, outward, last, mapped, halted, buckets, tall, bound, list_at}
use Rattle.ledger.specs.Sound.{sum, InRange, Roomy}
use Rattle.ledger.proofs.Tests.{ltb_yes, ltb_is, ltb_not, leb_yes, leb_is}
use Rattle.ledger.proofs.Places.{row_lt, row_div, row_mod, place#_lt}
use Rattle.layout.specs.declared.Table.TheVariants.{Arrival, Outward, Halted, Buckets, Count}
use Rattle.layout.specs.Tables.{table_of, lists, get}
use Rattle.layout.specs.Picture.{ledger_in}
use Rattle.layout.proofs.Tables.{get_lt}
use Rattle.memory.proofs.Chains.{get_d_table, list_length}
use Rattle.ranges.specs.Ranges.{prefetch_at, bounded, low, items, fits_in, fits_at, ranges_found}
use Rattle.ranges.proofs.First.{first_all}

pub few_items : (S : Settings) → Roomy S → S.ports * S.queues ≤ 2048
few_items S R = mul-le-mul R.few_ports R.few_queues

module _ (S : Settings) (m : List ℕ) where
  -- ---- the test of an item, by its kind

  -- past a column's numbers the others count from 0
  beyond : (c : Column) (cs : List Column) (i j : ℕ) → i ≡ tall S c + j → fits_in S m (c ∷ cs) i ≡ fits_in S m cs j
  beyond c cs i j e =
      let past : tall S c ≤ i = omega arith in
      let back : i - tall S c ≡ j = omega arith in
      rw (ltb_not i (tall S c) past, back)

  -- a number of a column, where the columns before it and after it are these
  in_column : (cs ds : List Column) (c : Column) (i : ℕ) → i < tall S c
      → fits_in S m (cs ++ (c ∷ ds)) (sum (tall S) cs + i) ≡ ltb (get S m (table_of c) i) (bound S c)
  in_column [] ds c i h = rw (zero-add i, ltb_is i (tall S c) h)
  in_column (b ∷ cs) ds c i h = beyond b (cs ++ (c ∷ ds)) _ (sum (tall S) cs + i) (omega arith) ∙ in_column cs ds c i h

  pub fits_number : (cs ds : List Column) (c : Column) → cs ++ (c ∷ ds) ≡ bounded → (k i : ℕ) → k ≡ sum (tall S) cs + i → i < tall S c
      → fits_at S m k ≡ ltb (get S m (table_of c) i) (bound S c)
  unfolding fits_at
  fits_number cs ds c e k i d h = ap (fits_in S m bounded) d ∙ ap (λ (bs : List Column). fits_in S m bs (sum (tall S) cs + i)) (sym e) ∙ in_column cs ds c i h

  past_all : (cs : List Column) (j : ℕ) → fits_in S m cs (sum (tall S) cs + j) ≡ leb (get S m Count (prefetch_at S j)) S.slots
  past_all [] j = rw (zero-add j)
  past_all (c ∷ cs) j = beyond c cs _ (sum (tall S) cs + j) (omega arith) ∙ past_all cs j

  pub fits_list : (k j : ℕ) → k ≡ low S + j → fits_at S m k ≡ leb (get S m Count (prefetch_at S j)) S.slots
  unfolding fits_at
  fits_list k j e = ap (fits_in S m bounded) e ∙ past_all bounded j

  -- ---- the prefetch lists

  pub prefetch_lt : (j : ℕ) → 0 < S.queues → j < S.ports * S.queues → prefetch_at S j < lists S
  unfolding prefetch_at
  prefetch_lt j some h = place#_lt S (prefetched (j / S.queues) (j % S.queues)) ((div-lt_iff_lt-mul some).1 h, mod-lt j some)

  pub prefetch_is : (p q : ℕ) → q < S.queues → prefetch_at S (p * S.queues + q) ≡ place# S (prefetched p q)
  unfolding prefetch_at
  prefetch_is p q h = rw (row_div S.queues p q h, row_mod S.queues p q h)

  -- ---- rule (b)

  pub shown : (c : Column) (i : ℕ) → i < tall S c → get_or ((ledger_in S m).numbers c) i 0 ≡ get S m (table_of c) i
  unfolding ledger_in
  shown c i h = get_d_table (get S m (table_of c)) (tall S c) i 0 h

  module _ (R : Roomy S) where
    means : ((k : ℕ) → k < items S → fits_at S m k ≡ true) → InRange S (ledger_in S m)
    unfolding fits_at
    means ok = record {
      numbers_in = λ c i h. rw (shown c i h) (number c i h);
      slots_in = λ p q hp hq.
          let j = p * S.queues + q in
          let h : j < S.ports * S.queues = row_lt S.queues S.ports p q hp hq in
          let t : leb (get S m Count (prefetch_at S j)) S.slots ≡ true = sym (fits_list (low S + j) j refl) ∙ ok (low S + j) (omega arith) in
          omega (
            arith,
            leb_yes (get S m Count (prefetch_at S j)) S.slots t,
            ap (get S m Count) (prefetch_is p q hq),
            list_length S m (place# S (prefetched p q)) (place#_lt S (prefetched p q) (hp, hq)),
          );
    }
      where
        -- a number that is tested, by the columns before its own; one that isn't, by the bytes that hold it
        tested : (cs ds : List Column) (c : Column) → cs ++ (c ∷ ds) ≡ bounded → (i : ℕ) → i < tall S c → sum (tall S) cs + i < items S
            → get S m (table_of c) i < bound S c
        tested cs ds c e i h k = ltb_yes _ _ (sym (fits_number cs ds c e _ i refl h) ∙ ok (sum (tall S) cs + i) k)

        number : (c : Column) (i : ℕ) → i < tall S c → get S m (table_of c) i < bound S c
        number arrival i h = get_lt S m Arrival i
        number outward i h = get_lt S m Outward i
        number last i h = tested [] _ last refl i h (omega arith)
        number mapped i h = tested (last ∷ []) _ mapped refl i h (omega arith)
        number halted i h = get_lt S m Halted i
        number buckets i h = get_lt S m Buckets i

    holds : InRange S (ledger_in S m) → (k : ℕ) → k < items S → fits_at S m k ≡ true
    unfolding fits_at
    holds I = go bounded
      where
        slots : (j : ℕ) → length (list_at S (ledger_in S m) (prefetched (j / S.queues) (j % S.queues))) ≤ S.slots
            → length (get_or (ledger_in S m).lists (prefetch_at S j) []) ≤ S.slots
        slots j h = unfold prefetch_at in h

        go : (cs : List Column) (k : ℕ) → k < sum (tall S) cs + S.ports * S.queues → fits_in S m cs k ≡ true
        go [] k h =
            let some : 0 < S.queues = omega arith in
            let low : k < S.ports * S.queues = omega arith in
            let few = I.slots_in (k / S.queues) (k % S.queues) ((div-lt_iff_lt-mul some).1 low) (mod-lt k some) in
            leb_is _ _ (rw (list_length S m (prefetch_at S k) (prefetch_lt k some low)) at (slots k few))
        go (c ∷ cs) k h = by (dec_lt k (tall S c)) (go cs (k - tall S c))
          where
            by : Dec (k < tall S c) → (k - tall S c < sum (tall S) cs + S.ports * S.queues → fits_in S m cs (k - tall S c) ≡ true)
                → fits_in S m (c ∷ cs) k ≡ true
            by (yes a) f = rw (ltb_is k (tall S c) a) (ltb_is _ _ (rw (shown c k a) at (I.numbers_in c k a)))
            by (no a) f = rw (ltb_not k (tall S c) (omega arith)) (f (omega arith))

    pub ranges_means : (ranges_found S m ≡ None) ↔ InRange S (ledger_in S m)
    unfolding ranges_found
    ranges_means = (λ e. means ((first_all (fits_at S m) (items S)).0 e), λ I. (first_all (fits_at S m) (items S)).1 (holds I))
