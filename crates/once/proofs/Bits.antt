-- What a mark that is set says of the marks. Assumes nothing.
use mathlib.Core.Path.{◌≡◌, ap, ◌∙◌}
use mathlib.Core.Logic.{◌≢◌}
use mathlib.Core.List.{List}
use Prim.Native.Nat.{ℕ, ◌*◌, ◌/◌, ◌%◌, ◌^◌, ◌≤◌, ◌<◌}
use native.Mathlib.Decide.{ℕ_discrete}
use native.Mathlib.Omega.{arith}
use lib.ListN.{length, get_or, set, replicate, get_or-replicate}
use lib.Seq.{get_or-set_same, get_or-set_other}
use Rattle.std.specs.Prelude.{bit_or}
use Rattle.std.specs.Int.{bit_at}
use Rattle.std.proofs.lemmas.Nat.Bits.{bit_at_or, bit_at-pow_same, bit_at-pow_other, bit_at-lt, bit_at-zero}
use Rattle.ledger.specs.Settings.{Settings}
use Rattle.layout.specs.Tables.{all}
use Rattle.memory.proofs.Chains.{length_tabulate, get_d_table, table_set}
use Rattle.memory.proofs.Image.{tabulate_all}
use Rattle.once.specs.Bits.{mark_at, set_mark, marks_in}

-- a bit that is set, and the bits beside it
bit_same : (b k : ℕ) → bit_at (bit_or b (2 ^ k)) k ≡ 1
bit_same b k = bit_at_or b (2 ^ k) k ∙ omega (arith, bit_at-pow_same k, bit_at-lt b k)

bit_other : (b k j : ℕ) → j ≢ k → bit_at (bit_or b (2 ^ k)) j ≡ bit_at b j
bit_other b k j d = bit_at_or b (2 ^ k) j ∙ omega (arith, bit_at-pow_other k j d)

-- a mark that is set, and the marks beside it
module _ (bs : List ℕ) (i : ℕ) (inside : i < 8 * length bs) where
  abbrev b : ℕ
  b = get_or bs (i / 8) 0

  stored : get_or (set_mark bs i) (i / 8) 0 ≡ bit_or b (2 ^ (i % 8))
  unfolding set_mark
  stored = get_or-set_same bs (i / 8) (bit_or b (2 ^ (i % 8))) 0 (omega arith)

  set_same : mark_at (set_mark bs i) i ≡ 1
  unfolding mark_at
  set_same = ap (λ (n : ℕ). bit_at n (i % 8)) stored ∙ bit_same b (i % 8)

  set_other : (j : ℕ) → j ≢ i → mark_at (set_mark bs i) j ≡ mark_at bs j
  unfolding mark_at set_mark
  set_other j d = go (ℕ_discrete (j / 8) (i / 8))
    where
      go : Dec (j / 8 ≡ i / 8) → bit_at (get_or (set_mark bs i) (j / 8) 0) (j % 8) ≡ bit_at (get_or bs (j / 8) 0) (j % 8)
      go (no n) = ap (λ (n : ℕ). bit_at n (j % 8)) (get_or-set_other bs (i / 8) (j / 8) (bit_or b (2 ^ (i % 8))) 0 n)
      go (yes e) = rw e (ap (λ (n : ℕ). bit_at n (j % 8)) stored ∙ bit_other b (i % 8) (j % 8) (λ f. d (omega arith)))

module _ (S : Settings) where
  pub marks_length : (bs : List ℕ) → length (marks_in S bs) ≡ all S
  unfolding marks_in
  marks_length bs = length_tabulate (mark_at bs) 0 (all S)

  pub marks_at : (bs : List ℕ) (i : ℕ) → i < all S → get_or (marks_in S bs) i 0 ≡ mark_at bs i
  unfolding marks_in
  marks_at bs i h = get_d_table (mark_at bs) (all S) i 0 h

  pub marks_set : (bs : List ℕ) (i : ℕ) → all S ≤ 8 * length bs → i < all S → marks_in S (set_mark bs i) ≡ set (marks_in S bs) i 1
  unfolding marks_in
  marks_set bs i room h =
      let inside : i < 8 * length bs = omega arith in
      table_set (mark_at bs) (mark_at (set_mark bs i)) (all S) i 1 h (set_same bs i inside) (λ j l d. set_other bs i inside j d)

  -- bytes of 0 have no mark set
  pub marks_none : (n : ℕ) → all S ≤ 8 * n → marks_in S (replicate n 0) ≡ replicate (all S) 0
  unfolding marks_in mark_at
  marks_none n room = tabulate_all _ (all S) 0 (λ i h. none i (omega arith))
    where
      none : (i : ℕ) → i / 8 < n → mark_at (replicate n 0) i ≡ 0
      none i h = rw (get_or-replicate {A = ℕ} n (i / 8) 0 0 h) (bit_at-zero (i % 8))
