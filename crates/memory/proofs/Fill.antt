-- The laws of `fill`: what the table holds after it, that nothing else changes, and that bytes behind the state are not touched; and the
-- same of the links of all ports. Assumes nothing.
use mathlib.Core.Path.{◌≡◌, refl, ap, ◌∙◌}
use mathlib.Core.Logic.{◌≢◌}
use mathlib.Core.List.{List, ◌++◌}
use Prim.Native.Nat.{ℕ, zero, suc, ◌+◌, ◌-◌, ◌*◌, ◌^◌, ◌≤◌, ◌<◌}
use native.Mathlib.Nat.{not-suc-le-zero}
use native.Mathlib.Decide.{ℕ_discrete}
use native.Mathlib.Omega.{arith}
use lib.ListN.{length}
use Rattle.ledger.specs.Settings.{Settings, size}
use Rattle.ledger.specs.Ledger.{entry_id}
use Rattle.ledger.specs.Sound.{Roomy}
use Rattle.ledger.proofs.Places.{row_lt, row_inj}
use Rattle.layout.specs.declared.Table.{Table}
use Rattle.layout.specs.declared.Table.TheVariants.{Next}
use Rattle.layout.specs.Tables.{turn_of, width, many, get}
use Rattle.memory.specs.Image.{fill, all_linked}
use Rattle.layout.proofs.Tables.{length_put, get_put, get_put_else, put_append}

-- what a fill has to keep to: its places are in the table, no two are the same, and its values fit an element
pub record Fits (S : Settings) (t : Table) (g f : ℕ → ℕ) (n : ℕ) : Type 0 where
  pub in_table : (i : ℕ) → i < n → g i < many S t
  pub apart : (i j : ℕ) → i < n → j < n → g i ≡ g j → i ≡ j
  pub small : (i : ℕ) → i < n → f i < 256 ^ width t

module _ (S : Settings) (t : Table) (g f : ℕ → ℕ) where
  fewer : (n : ℕ) → Fits S t g f (suc n) → Fits S t g f n
  fewer n w = record {
    in_table = λ i h. w.in_table i (omega arith);
    apart = λ i j h k. w.apart i j (omega arith) (omega arith);
    small = λ i h. w.small i (omega arith);
  }

  pub length_fill : (n : ℕ) (m : List ℕ) → length (fill S t g f n m) ≡ length m
  unfolding fill
  length_fill zero m = refl
  length_fill (suc n) m = length_put S t (g n) (f n) (fill S t g f n m) ∙ length_fill n m

  pub fill_append : (n : ℕ) (xs ys : List ℕ) → Fits S t g f n → size S ≤ length xs → fill S t g f n (xs ++ ys) ≡ fill S t g f n xs ++ ys
  unfolding fill
  fill_append zero xs ys w l = refl
  fill_append (suc n) xs ys w l =
      rw (fill_append n xs ys (fewer n w) l)
      (put_append S t (g n) (f n) (fill S t g f n xs) ys (w.in_table n (omega arith)) (omega (arith, length_fill n xs)))

  -- an element that is none of those filled
  pub fill_else : (n : ℕ) (m : List ℕ) (r : Table) (j : ℕ) → Fits S t g f n → j < many S r → ((i : ℕ) → i < n → t ≡ r → g i ≡ j → ⊥)
      → get S (fill S t g f n m) r j ≡ get S m r j
  unfolding fill
  fill_else zero m r j w k no_hit = refl
  fill_else (suc n) m r j w k no_hit =
      get_put_else S (fill S t g f n m) t (g n) (f n) r j (w.in_table n (omega arith)) k (no_hit n (omega arith))
      ∙ fill_else n m r j (fewer n w) k (λ i h. no_hit i (omega arith))

  -- an element of another table
  pub fill_other : (n : ℕ) (m : List ℕ) (r : Table) (j : ℕ) → Fits S t g f n → j < many S r → turn_of t ≢ turn_of r
      → get S (fill S t g f n m) r j ≡ get S m r j
  fill_other n m r j w k d = fill_else n m r j w k (λ i h e z. d (ap turn_of e))

  pub fill_get : (n : ℕ) (m : List ℕ) (i : ℕ) → Fits S t g f n → size S ≤ length m → i < n → get S (fill S t g f n m) t (g i) ≡ f i
  unfolding fill
  fill_get zero m i w l h = absurd (not-suc-le-zero h)
  fill_get (suc n) m i w l h = go (ℕ_discrete i n) (fill_get n m i (fewer n w) l)
    where
      go : Dec (i ≡ n) → (i < n → get S (fill S t g f n m) t (g i) ≡ f i) → get S (fill S t g f (suc n) m) t (g i) ≡ f i
      go (yes e) rest =
          rw e (get_put S (fill S t g f n m) t (g n) (f n) (omega (arith, length_fill n m)) (w.in_table n (omega arith)) (w.small n (omega arith)))
      go (no d) rest =
          get_put_else S (fill S t g f n m) t (g n) (f n) t (g i) (w.in_table n (omega arith)) (w.in_table i h)
          (λ e z. d (w.apart i n h (omega arith) (omega arith)))
          ∙ rest (omega arith)

-- ---- the links of all ports

pub length_links : (S : Settings) (n : ℕ) (m : List ℕ) → length (all_linked S n m) ≡ length m
unfolding all_linked
length_links S zero m = refl
length_links S (suc n) m = length_fill S Next _ _ (S.nodes - 1) (all_linked S n m) ∙ length_links S n m

module _ (S : Settings) (r : Roomy S) where
  links_fit : (p : ℕ) → p < S.ports → Fits S Next (λ i. p * S.nodes + i) (λ i. entry_id p (suc i)) (S.nodes - 1)
  links_fit p h = record {
    in_table = λ i k. row_lt S.nodes S.ports p i h (omega arith);
    apart = λ i j k l e. omega arith;
    small = λ i k. omega arith;
  }

  pub links_append : (n : ℕ) (xs ys : List ℕ) → n ≤ S.ports → size S ≤ length xs → all_linked S n (xs ++ ys) ≡ all_linked S n xs ++ ys
  unfolding all_linked
  links_append zero xs ys b l = refl
  links_append (suc n) xs ys b l =
      rw (links_append n xs ys (omega arith) l)
      (fill_append S Next _ _ (S.nodes - 1) (all_linked S n xs) ys (links_fit n (omega arith)) (omega (arith, length_links S n xs)))

  pub links_else : (n : ℕ) (m : List ℕ) (t : Table) (j : ℕ) → n ≤ S.ports → j < many S t
      → ((p i : ℕ) → p < n → suc i < S.nodes → Next ≡ t → p * S.nodes + i ≡ j → ⊥)
      → get S (all_linked S n m) t j ≡ get S m t j
  unfolding all_linked
  links_else zero m t j b k no_hit = refl
  links_else (suc n) m t j b k no_hit =
      fill_else S Next _ _ (S.nodes - 1) (all_linked S n m) t j (links_fit n (omega arith)) k (λ i h. no_hit n i (omega arith) (omega arith))
      ∙ links_else n m t j (omega arith) k (λ p i h. no_hit p i (omega arith))

  pub links_other : (n : ℕ) (m : List ℕ) (t : Table) (j : ℕ) → n ≤ S.ports → j < many S t → turn_of Next ≢ turn_of t
      → get S (all_linked S n m) t j ≡ get S m t j
  links_other n m t j b k d = links_else n m t j b k (λ p i h l e z. d (ap turn_of e))

  pub links_get : (n : ℕ) (m : List ℕ) (p i : ℕ) → n ≤ S.ports → size S ≤ length m → p < n → suc i < S.nodes
      → get S (all_linked S n m) Next (p * S.nodes + i) ≡ entry_id p (suc i)
  unfolding all_linked
  links_get zero m p i b l h k = absurd (not-suc-le-zero h)
  links_get (suc n) m p i b l h k = go (ℕ_discrete p n) (links_get n m p i (omega arith) l)
    where
      go : Dec (p ≡ n) → (p < n → suc i < S.nodes → get S (all_linked S n m) Next (p * S.nodes + i) ≡ entry_id p (suc i))
          → get S (all_linked S (suc n) m) Next (p * S.nodes + i) ≡ entry_id p (suc i)
      go (yes e) rest =
          rw e (fill_get S Next _ _ (S.nodes - 1) (all_linked S n m) i (links_fit n (omega arith)) (omega (arith, length_links S n m)) (omega arith))
      go (no d) rest =
          fill_else S Next _ _ (S.nodes - 1) (all_linked S n m) Next (p * S.nodes + i) (links_fit n (omega arith))
          (row_lt S.nodes S.ports p i (omega arith) (omega arith))
          (λ a z e q. d (omega (arith, row_inj S.nodes n p a i (omega arith) (omega arith) q)))
          ∙ rest (omega arith) k
