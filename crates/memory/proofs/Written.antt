-- What memory holds once `written` has run over zero bytes. Assumes nothing.
use mathlib.Core.Path.{◌≡◌, refl, ◌∙◌}
use mathlib.Core.List.{List, ◌++◌}
use Prim.Native.Nat.{ℕ, zero, suc, ◌+◌, ◌-◌, ◌*◌, ◌^◌, ◌≤◌, ◌<◌}
use native.Mathlib.Nat.{le_refl}
use native.Mathlib.Omega.{arith}
use lib.ListN.{length}
use Rattle.ledger.specs.Settings.{Settings, setting_count, row, size}
use Rattle.ledger.specs.Ledger.{entry_id, arrival, outward, last, mapped, halted, buckets, Column, tall, starting}
use Rattle.ledger.specs.Sound.{Roomy}
use Rattle.ledger.proofs.Places.{row_lt, row_inj}
use Rattle.layout.specs.declared.Table.{Table}
use Rattle.layout.specs.declared.Table.TheVariants.{Setting, Mapped, Last, Halted, Arrival, Outward, Buckets, Head, Tail, Count, Next}
use Rattle.layout.specs.Tables.{turn_of, width, many, cells, lists, get, table_of}
use Rattle.memory.specs.Image.{fill, setting_at, written}
use Rattle.memory.proofs.Fill.{Fits, length_fill, fill_append, fill_else, fill_other, fill_get, length_links, links_append, links_other, links_get}
use mathlib.Core.Logic.{◌≢◌}

-- ---- `written` by its parts: the tables in their order, so that what is written of a table is not touched later

abbrev settled : Settings → List ℕ → List ℕ
settled S m = fill S Setting (λ i. i) (setting_at S) setting_count m

abbrev marked : Settings → List ℕ → List ℕ
marked S m = fill S Last (λ p. p) (λ p. S.queues - 1) S.ports (settled S m)

abbrev credited : Settings → List ℕ → List ℕ
credited S m = fill S Arrival (λ c. c) (λ c. S.credit) (cells S) (marked S m)

abbrev headed : Settings → List ℕ → List ℕ
headed S m = fill S Head (λ p. p * row S) (λ p. entry_id p 0) S.ports (credited S m)

abbrev tailed : Settings → List ℕ → List ℕ
tailed S m = fill S Tail (λ p. p * row S) (λ p. entry_id p (S.nodes - 1)) S.ports (headed S m)

abbrev counted : Settings → List ℕ → List ℕ
counted S m = fill S Count (λ p. p * row S) (λ p. S.nodes) S.ports (tailed S m)

pub written_length : (S : Settings) (m : List ℕ) → length (written S m) ≡ length m
unfolding written
written_length S m = simp (length_links, length_fill)

-- ---- a state that nothing was done to since setup

pub record Fresh (S : Settings) (m : List ℕ) : Type 0 where
  pub setting_at_lem : (i : ℕ) → i < setting_count → get S m Setting i ≡ setting_at S i
  pub number_at : (c : Column) (i : ℕ) → i < tall S c → get S m (table_of c) i ≡ starting S c
  pub head_at : (p : ℕ) → p < S.ports → get S m Head (p * row S) ≡ entry_id p 0
  pub tail_at : (p : ℕ) → p < S.ports → get S m Tail (p * row S) ≡ entry_id p (S.nodes - 1)
  pub count_at : (p : ℕ) → p < S.ports → get S m Count (p * row S) ≡ S.nodes
  pub count_else : (p c : ℕ) → p < S.ports → suc c < row S → get S m Count (p * row S + suc c) ≡ 0
  pub next_at : (p i : ℕ) → p < S.ports → suc i < S.nodes → get S m Next (p * S.nodes + i) ≡ entry_id p (suc i)

pub row_pos : (S : Settings) → 0 < row S
unfolding row
row_pos S = omega arith

module _ (S : Settings) where
  -- the free list of a port is its first
  first_lt : (p : ℕ) → p < S.ports → p * row S < lists S
  first_lt p h = omega (arith, row_lt (row S) S.ports p 0 h (row_pos S))

  firsts_fit : (t : Table) (f : ℕ → ℕ) → many S t ≡ lists S → ((p : ℕ) → p < S.ports → f p < 256 ^ width t) → Fits S t (λ p. p * row S) f S.ports
  firsts_fit t f e small = record {
    in_table = λ p h. omega (arith, first_lt p h);
    apart = λ p q h k d. (row_inj (row S) p q 0 0 (row_pos S) (row_pos S) (omega arith)).0;
    small = small;
  }

  module _ (r : Roomy S) where
    settings_fit : Fits S Setting (λ i. i) (setting_at S) setting_count
    settings_fit = record { in_table = λ i h. h; apart = λ i j h k e. e; small = λ i h. small i }
      where
        small : (i : ℕ) → setting_at S i < 65536
        small zero = omega arith
        small (suc zero) = omega arith
        small (suc (suc zero)) = omega arith
        small (suc (suc (suc zero))) = omega arith
        small (suc (suc (suc (suc zero)))) = omega arith
        small (suc (suc (suc (suc (suc zero))))) = omega arith
        small (suc (suc (suc (suc (suc (suc zero)))))) = omega arith
        small (suc (suc (suc (suc (suc (suc (suc i))))))) = omega arith

    marks_fit : Fits S Last (λ p. p) (λ p. S.queues - 1) S.ports
    marks_fit = record { in_table = λ p h. h; apart = λ p q h k e. e; small = λ p h. omega arith }

    credits_fit : Fits S Arrival (λ c. c) (λ c. S.credit) (cells S)
    credits_fit = record { in_table = λ c h. h; apart = λ c d h k e. e; small = λ c h. omega arith }

    heads_fit : Fits S Head (λ p. p * row S) (λ p. entry_id p 0) S.ports
    heads_fit = firsts_fit Head (λ p. entry_id p 0) refl (λ p h. omega arith)

    tails_fit : Fits S Tail (λ p. p * row S) (λ p. entry_id p (S.nodes - 1)) S.ports
    tails_fit = firsts_fit Tail (λ p. entry_id p (S.nodes - 1)) refl (λ p h. omega arith)

    counts_fit : Fits S Count (λ p. p * row S) (λ p. S.nodes) S.ports
    counts_fit = firsts_fit Count (λ p. S.nodes) refl (λ p h. omega arith)

    module _ (m : List ℕ) (long : size S ≤ length m) where
      -- bytes behind the state are not touched
      pub written_append : (ys : List ℕ) → written S (m ++ ys) ≡ written S m ++ ys
      unfolding written
      written_append ys =
          rw (
            fill_append S Setting _ _ setting_count m ys settings_fit long,
            fill_append S Last _ _ S.ports (settled S m) ys marks_fit (simp length_fill long),
            fill_append S Arrival _ _ (cells S) (marked S m) ys credits_fit (simp length_fill long),
            fill_append S Head _ _ S.ports (credited S m) ys heads_fit (simp length_fill long),
            fill_append S Tail _ _ S.ports (headed S m) ys tails_fit (simp length_fill long),
            fill_append S Count _ _ S.ports (tailed S m) ys counts_fit (simp length_fill long),
          )
          (links_append S r S.ports (counted S m) ys (le_refl S.ports) (simp length_fill long))

      -- what a table holds at the end stood there once the table was written
      from_counted : (t : Table) (j : ℕ) → j < many S t → turn_of t < turn_of Next → get S (written S m) t j ≡ get S (counted S m) t j
      unfolding written
      from_counted t j k h = links_other S r S.ports (counted S m) t j (le_refl S.ports) k (omega arith)

      from_tailed : (t : Table) (j : ℕ) → j < many S t → turn_of t < turn_of Count → get S (written S m) t j ≡ get S (tailed S m) t j
      from_tailed t j k h = from_counted t j k (omega arith) ∙ fill_other S Count _ _ S.ports (tailed S m) t j counts_fit k (omega arith)

      from_headed : (t : Table) (j : ℕ) → j < many S t → turn_of t < turn_of Tail → get S (written S m) t j ≡ get S (headed S m) t j
      from_headed t j k h = from_tailed t j k (omega arith) ∙ fill_other S Tail _ _ S.ports (headed S m) t j tails_fit k (omega arith)

      from_credited : (t : Table) (j : ℕ) → j < many S t → turn_of t < turn_of Head → get S (written S m) t j ≡ get S (credited S m) t j
      from_credited t j k h = from_headed t j k (omega arith) ∙ fill_other S Head _ _ S.ports (credited S m) t j heads_fit k (omega arith)

      -- and until the lists' tables are written, what is no setting, last served queue or arrival credit is as it was
      unfilled : (t : Table) (j : ℕ) → j < many S t → turn_of t ≢ turn_of Setting → turn_of t ≢ turn_of Last → turn_of t ≢ turn_of Arrival
          → get S (credited S m) t j ≡ get S m t j
      unfilled t j k x y z =
          fill_other S Arrival _ _ (cells S) (marked S m) t j credits_fit k (omega arith)
          ∙ fill_other S Last _ _ S.ports (settled S m) t j marks_fit k (omega arith)
          ∙ fill_other S Setting _ _ setting_count m t j settings_fit k (omega arith)

      pub written_fresh : ((t : Table) (j : ℕ) → j < many S t → get S m t j ≡ 0) → Fresh S (written S m)
      unfolding written
      written_fresh blank = record {
        setting_at_lem = λ i h.
            from_credited Setting i h (omega arith)
            ∙ fill_other S Arrival _ _ (cells S) (marked S m) Setting i credits_fit h (omega arith)
            ∙ fill_other S Last _ _ S.ports (settled S m) Setting i marks_fit h (omega arith)
            ∙ fill_get S Setting _ _ setting_count m i settings_fit long h;
        number_at = number;
        head_at =
            λ p h. from_headed Head (p * row S) (first_lt p h) (omega arith)
            ∙ fill_get S Head _ _ S.ports (credited S m) p heads_fit (simp length_fill long) h;
        tail_at =
            λ p h. from_tailed Tail (p * row S) (first_lt p h) (omega arith)
            ∙ fill_get S Tail _ _ S.ports (headed S m) p tails_fit (simp length_fill long) h;
        count_at =
            λ p h. from_counted Count (p * row S) (first_lt p h) (omega arith)
            ∙ fill_get S Count _ _ S.ports (tailed S m) p counts_fit (simp length_fill long) h;
        count_else = λ p c h k.
            let l : p * row S + suc c < lists S = row_lt (row S) S.ports p (suc c) h k in
            from_counted Count (p * row S + suc c) l (omega arith)
            ∙ fill_else S Count _ _ S.ports (tailed S m) Count (p * row S + suc c) counts_fit l
            (λ q b z e. omega (arith, row_inj (row S) q p 0 (suc c) (row_pos S) k (omega arith)))
            ∙ fill_other S Tail _ _ S.ports (headed S m) Count (p * row S + suc c) tails_fit l (omega arith)
            ∙ fill_other S Head _ _ S.ports (credited S m) Count (p * row S + suc c) heads_fit l (omega arith)
            ∙ unfilled Count (p * row S + suc c) l (omega arith) (omega arith) (omega arith)
            ∙ blank Count (p * row S + suc c) l;
        next_at = λ p i h k. links_get S r S.ports (counted S m) p i (le_refl S.ports) (simp length_fill long) h k;
      }
        where
          untouched : (t : Table) (i : ℕ) → i < many S t → turn_of t < turn_of Head → turn_of t ≢ turn_of Setting → turn_of t ≢ turn_of Last
              → turn_of t ≢ turn_of Arrival → get S (written S m) t i ≡ 0
          untouched t i h low x y z = from_credited t i h low ∙ unfilled t i h x y z ∙ blank t i h

          number : (c : Column) (i : ℕ) → i < tall S c → get S (written S m) (table_of c) i ≡ starting S c
          number arrival i h = from_credited Arrival i h (omega arith) ∙ fill_get S Arrival _ _ (cells S) (marked S m) i credits_fit (simp length_fill long) h
          number outward i h = untouched Outward i h (omega arith) (omega arith) (omega arith) (omega arith)
          number last i h =
              from_credited Last i h (omega arith)
              ∙ fill_other S Arrival _ _ (cells S) (marked S m) Last i credits_fit h (omega arith)
              ∙ fill_get S Last _ _ S.ports (settled S m) i marks_fit (simp length_fill long) h
          number mapped i h = untouched Mapped i h (omega arith) (omega arith) (omega arith) (omega arith)
          number halted i h = untouched Halted i h (omega arith) (omega arith) (omega arith) (omega arith)
          number buckets i h = untouched Buckets i h (omega arith) (omega arith) (omega arith) (omega arith)
