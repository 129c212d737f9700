-- The first number that does not pass; and what it means of rule (a) or (b) that an item passes. Assumes nothing.
use mathlib.Core.Path.{◌≡◌, refl, sym, ap, ◌∙◌}
use mathlib.Core.Logic.{◌↔◌}
use mathlib.Core.Bool.{Bool, true, false, cond}
use mathlib.Core.List.{List, [], ◌∷◌}
use Prim.Native.Nat.{ℕ, zero, suc, ◌+◌, ◌*◌, ◌/◌, ◌%◌, ◌≤◌, ◌<◌}
use native.Mathlib.Decide.{ℕ_discrete}
use native.Mathlib.Omega.{arith}
use lib.ListN.{length, get_or}
use lib.Dec.{ltb, leb}
use Rattle.std.specs.Prelude.{Option, None, Some}
use Rattle.ledger.specs.Settings.{Settings, setting_count, in_row, out_from, first_out, ids}
use Rattle.ledger.specs.Ledger.{prefetched, Column, last, mapped, tall, bound, list_at, last_of, map_of}
use Rattle.ledger.proofs.Tests.{true≢false, ltb_yes, ltb_is, leb_yes, leb_is}
use Rattle.layout.specs.declared.Table.TheVariants.{Count}
use Rattle.layout.specs.Tables.{table_of, get}
use Rattle.layout.specs.Picture.{ledger_in}
use Rattle.memory.proofs.Chains.{list_length}
use Rattle.ranges.specs.First.{first_from, first}
use Rattle.ranges.specs.Ranges.{prefetch_at, fits_at}
use Rattle.ranges.proofs.Items.{fits_number, fits_list, prefetch_lt, shown}

-- ---- a search that stops

-- of the numbers from i on and below e, x is the first that does not pass
record Stops (ok : ℕ → Bool) (i e x : ℕ) : Type 0 where
  low : i ≤ x
  inside : x < e
  wrong : ok x ≡ false
  before : (k : ℕ) → i ≤ k → k < x → ok k ≡ true

from_stops : (ok : ℕ → Bool) (n i x : ℕ) → first_from ok i n ≡ Some x → Stops ok i (i + n) x
unfolding first_from
from_stops ok zero i x e = absurd (let z : ◌≡◌ {A = ℕ} 0 1 = cc in omega arith)
from_stops ok (suc n) i x e = go (ok i) refl e (from_stops ok n (suc i) x)
  where
    later : ok i ≡ true → Stops ok (suc i) (suc i + n) x → (k : ℕ) → i ≤ k → k < x → Dec (k ≡ i) → ok k ≡ true
    later t s k below above (yes p) = ap ok p ∙ t
    later t s k below above (no p) = s.before k (omega arith) above

    go : (b : Bool) → ok i ≡ b → cond b (first_from ok (suc i) n) (Some i) ≡ Some x → (first_from ok (suc i) n ≡ Some x → Stops ok (suc i) (suc i + n) x)
        → Stops ok i (i + suc n) x
    go true t d rest =
        let s = rest d in
        record { low = omega arith; inside = omega arith; wrong = s.wrong; before = λ k below above. later t s k below above (ℕ_discrete k i) }
    go false t d rest =
        let p : x ≡ i = cc in
        record { low = omega arith; inside = omega arith; wrong = ap ok p ∙ t; before = λ k below above. absurd (omega arith) }

-- so of n numbers, where to pass is to be right
pub first_wrong : (ok : ℕ → Bool) (Right : ℕ → Type 0) (n : ℕ) → ((k : ℕ) → k < n → (ok k ≡ true) ↔ Right k) → (x : ℕ) → first ok n ≡ Some x
    → (x < n) × (Right x → ⊥) × ((k : ℕ) → k < x → Right k)
first_wrong ok Right n means x e =
    let s = from_stops ok n 0 x e in
    let h : x < n = omega arith in
    (h, λ r. true≢false (sym ((means x h).1 r) ∙ s.wrong), λ k l. (means k (omega arith)).0 (s.before k (omega arith) l))

-- ---- rule (a): the first setting that is out of its row, or the number after them

abbrev pub found_or : ℕ → Option ℕ → ℕ
found_or n None = n
found_or n (Some x) = x

out_from_lem : (S : Settings) (n i : ℕ) → out_from S i n ≡ found_or (i + n) (first_from (in_row S) i n)
unfolding first_from
out_from_lem S zero i = omega arith
out_from_lem S (suc n) i = go (in_row S i) (out_from_lem S n (suc i))
  where
    next : suc i + n ≡ i + suc n
    next = omega arith

    go : (b : Bool) → out_from S (suc i) n ≡ found_or (suc i + n) (first_from (in_row S) (suc i) n)
        → cond b (out_from S (suc i) n) i ≡ found_or (i + suc n) (cond b (first_from (in_row S) (suc i) n) (Some i))
    go true e = e ∙ ap (λ (k : ℕ). found_or k (first_from (in_row S) (suc i) n)) next
    go false e = refl

pub first_out_lem : (S : Settings) → first_out S ≡ found_or setting_count (first (in_row S) setting_count)
unfolding first_out
first_out_lem S = out_from_lem S setting_count 0

-- ---- rule (b): the three kinds of items

module _ (S : Settings) (m : List ℕ) where
  -- the test of a number is that it is below its column's bound
  number : (c : Column) (i k : ℕ) → i < tall S c → fits_at S m k ≡ ltb (get S m (table_of c) i) (bound S c)
      → (fits_at S m k ≡ true) ↔ (get_or ((ledger_in S m).numbers c) i 0 < bound S c)
  number c i k h e = (λ t. rw (shown S m c i h) (ltb_yes _ _ (sym e ∙ t)), λ l. e ∙ ltb_is _ _ (rw (shown S m c i h) at l))

  pub last_means : (p : ℕ) → p < S.ports → (fits_at S m p ≡ true) ↔ (last_of (ledger_in S m) p < S.queues)
  last_means p h = number last p p h (fits_number S m [] (mapped ∷ []) last refl p p (omega arith) h)

  pub entry_means : (d : ℕ) → d < ids → (fits_at S m (S.ports + d) ≡ true) ↔ (map_of (ledger_in S m) d < S.ports)
  entry_means d h = number mapped d (S.ports + d) h (fits_number S m (last ∷ []) [] mapped refl (S.ports + d) d (omega arith) h)

  pub slots_mean : (j : ℕ) → 0 < S.queues → j < S.ports * S.queues
      → (fits_at S m (S.ports + ids + j) ≡ true) ↔ (length (list_at S (ledger_in S m) (prefetched (j / S.queues) (j % S.queues))) ≤ S.slots)
  unfolding prefetch_at
  slots_mean j some h =
      let e : fits_at S m (S.ports + ids + j) ≡ leb (get S m Count (prefetch_at S j)) S.slots = fits_list S m _ j (omega arith) in
      let n = list_length S m (prefetch_at S j) (prefetch_lt S m j some h) in
      (λ t. rw n (leb_yes _ _ (sym e ∙ t)), λ l. e ∙ leb_is _ _ (rw n at l))
