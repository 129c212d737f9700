-- How many marks are set: as many as nodes were met, and all of them exactly if none is clear. Assumes nothing.
use mathlib.Core.Path.{◌≡◌, refl, ◌∙◌}
use mathlib.Core.Bool.{Bool, true, false, cond}
use mathlib.Core.List.{List, [], ◌∷◌}
use Prim.Native.Nat.{ℕ, zero, suc, ◌+◌, ◌≤◌, ◌<◌}
use native.Mathlib.Nat.{not-suc-le-zero, le_of_suc-le-suc}
use native.Mathlib.Omega.{arith}
use lib.ListN.{length, get_or, set, replicate}
use lib.Dec.{ltb}
use Rattle.std.specs.Prelude.{None, Some}
use Rattle.ledger.specs.Settings.{Settings}
use Rattle.ledger.specs.Ready.{bit}
use Rattle.ledger.proofs.Tests.{and_left, and_right}
use Rattle.ledger.proofs.Places.{bit_le}
use Rattle.layout.specs.declared.Table.TheVariants.{Count}
use Rattle.layout.specs.Tables.{all, get}
use Rattle.layout.specs.Picture.{slot, nodes_of}
use Rattle.memory.proofs.Chains.{slot_lt, nodes_length}
use Rattle.once.specs.Once.{is_new, mark, all_new, mark_all, ends, right, unmarked}
use Rattle.once.proofs.Marks.{length_mark, New, new}
use Rattle.whole.specs.Walks.{set_marks}

pub set_none : (n : ℕ) → set_marks (replicate n 0) ≡ 0
unfolding set_marks
set_none zero = refl
set_none (suc n) = omega (arith, set_none n)

set_more : (ms : List ℕ) (i : ℕ) → i < length ms → get_or ms i 0 ≡ 0 → set_marks (set ms i 1) ≡ set_marks ms + 1
unfolding set_marks
set_more [] i h e = absurd (not-suc-le-zero h)
set_more (k ∷ ks) zero h e = let z : bit (ltb 0 k) ≡ 0 = rw e in omega arith
set_more (k ∷ ks) (suc i) h e = omega (arith, set_more ks i (le_of_suc-le-suc h) e)

pub set_le : (ms : List ℕ) → set_marks ms ≤ length ms
unfolding set_marks
set_le [] = omega arith
set_le (k ∷ ks) = omega (arith, set_le ks, bit_le (ltb 0 k))

-- ---- all marks are set exactly where none is found clear

pub set_all : (n : ℕ) (ms : List ℕ) → set_marks ms ≡ length ms → unmarked n ms ≡ None
unfolding set_marks unmarked
set_all n [] e = refl
set_all n (k ∷ ks) e = go (ltb 0 k) refl (λ f. set_all (suc n) ks f)
  where
    go : (b : Bool) → ltb 0 k ≡ b → (set_marks ks ≡ length ks → unmarked (suc n) ks ≡ None) → cond b (unmarked (suc n) ks) (Some n) ≡ None
    go true p rest = rest (let one : bit (ltb 0 k) ≡ 1 = rw p in omega arith)
    go false p rest = absurd (let none : bit (ltb 0 k) ≡ 0 = rw p in omega (arith, set_le ks))

pub all_set : (n : ℕ) (ms : List ℕ) → unmarked n ms ≡ None → set_marks ms ≡ length ms
unfolding set_marks unmarked
all_set n [] e = refl
all_set n (k ∷ ks) e = go (ltb 0 k) refl e (λ f. all_set (suc n) ks f)
  where
    go : (b : Bool) → ltb 0 k ≡ b → cond b (unmarked (suc n) ks) (Some n) ≡ None → (unmarked (suc n) ks ≡ None → set_marks ks ≡ length ks)
        → bit (ltb 0 k) + set_marks ks ≡ suc (length ks)
    go true p f rest = let one : bit (ltb 0 k) ≡ 1 = rw p in omega (arith, rest f)
    go false p f rest = absurd (let z : ◌≡◌ {A = ℕ} 0 1 = cc in omega arith)

-- ---- a list of new nodes sets as many as it has

module _ (S : Settings) where
  new_more : (ms : List ℕ) (x : ℕ) → length ms ≡ all S → New S ms x → set_marks (mark S ms x) ≡ set_marks ms + 1
  unfolding mark
  new_more ms x long n = set_more ms (slot S x) (rw long (slot_lt S x n.node)) n.clear

  news_more : (xs ms : List ℕ) → length ms ≡ all S → all_new S ms xs ≡ true → set_marks (mark_all S ms xs) ≡ set_marks ms + length xs
  unfolding all_new mark_all
  news_more [] ms long e = omega arith
  news_more (x ∷ xs) ms long e =
      omega (
        arith,
        new_more ms x long (new S ms x (and_left (is_new S ms x) _ e)),
        news_more xs (mark S ms x) (length_mark S ms x ∙ long) (and_right (is_new S ms x) _ e),
      )

  pub list_more : (m ms : List ℕ) (l : ℕ) → length ms ≡ all S → right S m ms l ≡ true
      → set_marks (mark_all S ms (nodes_of S m l)) ≡ set_marks ms + get S m Count l
  unfolding right ends
  list_more m ms l long e =
      omega (arith, news_more (nodes_of S m l) ms long (and_left (all_new S ms (nodes_of S m l)) _ e), nodes_length S m l)
