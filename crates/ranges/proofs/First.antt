-- A search for the first number that does not pass: its steps, and what it means that there is none. Assumes nothing.
use mathlib.Core.Path.{◌≡◌, refl, sym, ap, ◌∙◌, subst}
use mathlib.Core.Logic.{◌↔◌}
use mathlib.Core.Bool.{Bool, true, false, cond}
use Prim.Native.Nat.{ℕ, zero, suc, ◌+◌, ◌-◌, ◌≤◌, ◌<◌, zero-le}
use native.Mathlib.Numerals.{add-one}
use native.Mathlib.Decide.{ℕ_discrete, dec_lt}
use native.Mathlib.Omega.{arith}
use Rattle.std.specs.Prelude.{Option, None, Some, MatchOption}
use Rattle.ranges.specs.First.{first_from, first}

module _ (ok : ℕ → Bool) where
  first_next : (n i : ℕ) → i < n → first_from ok i (n - i) ≡ cond (ok i) (first_from ok (i + 1) (n - (i + 1))) (Some i)
  unfolding first_from
  first_next n i h =
      let e : n - i ≡ suc (n - (i + 1)) = omega arith in
      ap (first_from ok i) e ∙ rw add-one

  first_pass : (n i : ℕ) → i < n → ok i ≡ true → first_from ok i (n - i) ≡ first_from ok (i + 1) (n - (i + 1))
  first_pass n i h e = first_next n i h ∙ rw e

  first_stop : (n i : ℕ) → i < n → ok i ≡ false → first_from ok i (n - i) ≡ Some i
  first_stop n i h e = first_next n i h ∙ rw e

  first_end : (n i : ℕ) → n ≤ i → first_from ok i (n - i) ≡ None
  unfolding first_from
  first_end n i h = let e : n - i ≡ 0 = omega arith in ap (first_from ok i) e

  -- where none is found, each passes
  all_pass : (n i : ℕ) → first_from ok i n ≡ None → (k : ℕ) → i ≤ k → k < i + n → ok k ≡ true
  unfolding first_from
  all_pass zero i e k low high = absurd (omega arith)
  all_pass (suc n) i e k low high = go (ok i) refl e (ℕ_discrete k i) (λ d h. all_pass n (suc i) d k h (omega arith))
    where
      go : (b : Bool) → ok i ≡ b → cond b (first_from ok (suc i) n) (Some i) ≡ None → Dec (k ≡ i)
          → (first_from ok (suc i) n ≡ None → suc i ≤ k → ok k ≡ true) → ok k ≡ true
      go true t d (yes p) rest = ap ok p ∙ t
      go true t d (no p) rest = rest d (omega arith)
      go false t d c rest = absurd (let z : ◌≡◌ {A = ℕ} 0 1 = cc in omega arith)

  none_found : (n i : ℕ) → ((k : ℕ) → i ≤ k → k < i + n → ok k ≡ true) → first_from ok i n ≡ None
  unfolding first_from
  none_found zero i h = refl
  none_found (suc n) i h = rw (h i (omega arith) (omega arith)) (none_found n (suc i) (λ k low high. h k (omega arith) (omega arith)))

  pub first_all : (n : ℕ) → (first ok n ≡ None) ↔ ((k : ℕ) → k < n → ok k ≡ true)
  first_all n = (λ e k h. all_pass n 0 e k (omega arith) (omega arith), λ h. none_found n 0 (λ k low high. h k (omega arith)))

  -- the first of some numbers is the first of more
  more_from : (n k i x : ℕ) → n ≤ k → first_from ok i n ≡ Some x → first_from ok i k ≡ Some x
  unfolding first_from
  more_from zero k i x h e = absurd (let z : ◌≡◌ {A = ℕ} 0 1 = cc in omega arith)
  more_from (suc n) zero i x h e = absurd (omega arith)
  more_from (suc n) (suc k) i x h e = go (ok i) (more_from n k (suc i) x (omega arith)) e
    where
      go : (b : Bool) → (first_from ok (suc i) n ≡ Some x → first_from ok (suc i) k ≡ Some x)
          → cond b (first_from ok (suc i) n) (Some i) ≡ Some x → cond b (first_from ok (suc i) k) (Some i) ≡ Some x
      go true rest d = rest d
      go false rest d = d

  pub first_more : (n k x : ℕ) → n ≤ k → first ok n ≡ Some x → first ok k ≡ Some x
  first_more n k x h e = more_from n k 0 x h e

  -- where those past the first n of k pass, the first n decide
  pub first_enough : (n k : ℕ) → n ≤ k → ((i : ℕ) → n ≤ i → i < k → ok i ≡ true) → first ok k ≡ first ok n
  first_enough n k h past = go (first ok n) refl
    where
      either : (i : ℕ) → i < k → Dec (i < n) → (i < n → ok i ≡ true) → ok i ≡ true
      either i l (yes a) f = f a
      either i l (no a) f = past i (omega arith) l

      go : (f : Option ℕ) → first ok n ≡ f → first ok k ≡ f
      go (Some x) e = first_more n k x h e
      go None e =
          let each = (first_all n).0 e in
          (first_all k).1 (λ i l. either i l (dec_lt i n) (each i))

-- tests that agree find the same
pub first_same : (f g : ℕ → Bool) (n : ℕ) → ((k : ℕ) → k < n → f k ≡ g k) → first f n ≡ first g n
unfolding first_from
first_same f g n same = go n 0 (λ k low high. same k (omega arith))
  where
    go : (n i : ℕ) → ((k : ℕ) → i ≤ k → k < i + n → f k ≡ g k) → first_from f i n ≡ first_from g i n
    go zero i h = refl
    go (suc n) i h = rw (h i (omega arith) (omega arith), go n (suc i) (λ k low high. h k (omega arith) (omega arith)))

-- where a search below n stands at i
pub record Searching (ok : ℕ → Bool) (n i : ℕ) : Type 0 where
  pub low : i ≤ n
  pub rest : first ok n ≡ first_from ok i (n - i)

pub first_none : (ok : ℕ → Bool) → first ok 0 ≡ None
unfolding first_from
first_none ok = refl

module _ (ok : ℕ → Bool) (n : ℕ) where
  pub search_start : Searching ok n 0
  search_start = record { low = zero-le; rest = let e : n ≡ n - 0 = omega arith in ap (first_from ok 0) e }

  module _ (i : ℕ) (s : Searching ok n i) where
    pub search_next : i < n → ok i ≡ true → Searching ok n (i + 1)
    search_next h e = record { low = omega arith; rest = s.rest ∙ first_pass ok n i h e }

    pub search_at : i < n → ok i ≡ false → first ok n ≡ Some i
    search_at h e = s.rest ∙ first_stop ok n i h e

    pub search_none : n ≤ i → first ok n ≡ None
    search_none h = s.rest ∙ first_end ok n i h

  -- it may begin behind numbers that pass
  pub search_from : (i : ℕ) → i ≤ n → first ok i ≡ None → Searching ok n i
  search_from zero h e = search_start
  search_from (suc i) h e =
      let each = (first_all ok (suc i)).0 e in
      subst (Searching ok n) (add-one i)
      (search_next i (search_from i (omega arith) ((first_all ok i).1 (λ k l. each k (omega arith)))) (omega arith) (each i (omega arith)))

-- a search of the numbers from a on finds what one of all finds, where those before a pass
pub find_first : (ok : ℕ → Bool) (a n : ℕ) (r : Option ℕ) → first ok a ≡ None
    → MatchOption r ((k : ℕ) → a ≤ k → k < n → ok k ≡ true)
    (λ x. (a ≤ x) × (x < n) × (ok x ≡ false) × ((k : ℕ) → a ≤ k → k < x → ok k ≡ true))
    → r ≡ first ok n
find_first ok a n r e = go r
  where
    each : (x : ℕ) → ((k : ℕ) → a ≤ k → k < x → ok k ≡ true) → (k : ℕ) → k < x → Dec (k < a) → ok k ≡ true
    each x h k l (yes b) = (first_all ok a).0 e k b
    each x h k l (no b) = h k (omega arith) l

    go : (r : Option ℕ) → MatchOption r ((k : ℕ) → a ≤ k → k < n → ok k ≡ true)
        (λ x. (a ≤ x) × (x < n) × (ok x ≡ false) × ((k : ℕ) → a ≤ k → k < x → ok k ≡ true)) → r ≡ first ok n
    go None h = sym ((first_all ok n).1 (λ k l. each n h k l (dec_lt k a)))
    go (Some x) h =
        let before : first ok x ≡ None = (first_all ok x).1 (λ k l. each x h.3 k l (dec_lt k a)) in
        sym (search_at ok n x (search_from ok n x (omega arith) before) h.1 h.2)
