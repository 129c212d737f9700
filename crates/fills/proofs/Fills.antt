-- The laws of fills: what lies past the size is not touched. Assumes nothing.
use mathlib.Core.Path.{◌≡◌, refl, ap, ◌∙◌}
use mathlib.Core.List.{List, ◌++◌}
use Prim.Native.Nat.{ℕ, zero, suc, ◌+◌, ◌-◌, ◌*◌, ◌≤◌, ◌<◌}
use native.Mathlib.Nat.{mul-le-mul_right}
use native.Mathlib.Omega.{arith}
use lib.ListN.{length, drop, replicate, length-replicate}
use Rattle.ledger.specs.Settings.{Settings, setting_count, size, row}
use Rattle.ledger.specs.Ledger.{entry_id}
use Rattle.ledger.proofs.Places.{row_lt}
use Rattle.layout.specs.declared.Table.{Table}
use Rattle.layout.specs.declared.Table.TheVariants.{Setting, Last, Arrival, Head, Tail, Count, Next}
use Rattle.layout.specs.Tables.{many, lists, cells, put}
use Rattle.layout.proofs.Tables.{length_put, put_append}
use Rattle.memory.specs.Image.{fill, setting_at, all_linked, written, image, setup_mem}
use Rattle.fills.specs.Fills.{filled, freed}

-- ---- places of a table

module _ (S : Settings) where
  pub free_in : {r : ℕ} → r ≡ row S → (p : ℕ) → p < S.ports → p * r < lists S
  unfolding row
  free_in is p h = rw is (omega (arith, mul-le-mul_right (row S) h))

  pub link_in : (p i : ℕ) → p < S.ports → i < S.nodes - 1 → p * S.nodes + i < S.ports * S.nodes
  link_in p i h k = row_lt S.nodes S.ports p i h (omega arith)

  -- ---- what lies past the size

  -- zs is xs, a state's bytes or more, with ys behind it
  record Front (ys zs xs : List ℕ) : Type 0 where
    same : zs ≡ xs ++ ys
    long : size S ≤ length xs

  module _ {ys zs xs : List ℕ} (k : Front ys zs xs) where
    put_front : (t : Table) (i v : ℕ) → i < many S t → Front ys (put S t i v zs) (put S t i v xs)
    put_front t i v h = record { same = ap (put S t i v) k.same ∙ put_append S t i v xs ys h k.long; long = rw length_put k.long }

  module _ {ys zs xs : List ℕ} (k : Front ys zs xs) where
    fill_front : (t : Table) (g f : ℕ → ℕ) (n : ℕ) → ((i : ℕ) → i < n → g i < many S t) → Front ys (fill S t g f n zs) (fill S t g f n xs)
    unfolding fill
    fill_front t g f zero h = k
    fill_front t g f (suc n) h = put_front (fill_front t g f n (λ i j. h i (omega arith))) t (g n) (f n) (h n (omega arith))

  module _ {ys zs xs : List ℕ} (k : Front ys zs xs) where
    links_front : (n : ℕ) → n ≤ S.ports → Front ys (all_linked S n zs) (all_linked S n xs)
    unfolding all_linked
    links_front zero h = k
    links_front (suc n) h = fill_front (links_front n (omega arith)) Next _ _ (S.nodes - 1) (λ i j. link_in n i h j)

  pub written_append : (xs ys : List ℕ) → size S ≤ length xs → written S (xs ++ ys) ≡ written S xs ++ ys
  unfolding written
  written_append xs ys long =
      let start : Front ys (xs ++ ys) xs = record { same = refl; long = long } in
      let settings = fill_front start Setting (λ i. i) (setting_at S) setting_count (λ i h. h) in
      let marks = fill_front settings Last (λ p. p) (λ p. S.queues - 1) S.ports (λ p h. h) in
      let credits = fill_front marks Arrival (λ c. c) (λ c. S.credit) (cells S) (λ c h. h) in
      let heads = fill_front credits Head (λ p. p * row S) (λ p. entry_id p 0) S.ports (free_in refl) in
      let tails = fill_front heads Tail (λ p. p * row S) (λ p. entry_id p (S.nodes - 1)) S.ports (free_in refl) in
      let counts = fill_front tails Count (λ p. p * row S) (λ p. S.nodes) S.ports (free_in refl) in
      (links_front counts S.ports (omega arith)).same

  pub written_over : (m : List ℕ) → freed S (filled S (replicate (size S) 0 ++ drop (size S) m)) ≡ setup_mem S m
  unfolding written setup_mem image
  written_over m = written_append (replicate (size S) 0) (drop (size S) m) (omega (arith, length-replicate {A = ℕ} (size S) 0))
