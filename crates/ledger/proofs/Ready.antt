-- The ready word and the pick as the customer understands them, and how long the picks may pass a ready queue by. Assumes nothing.
use mathlib.Core.Path.{◌≡◌, refl, sym, ap, ap₂, ◌∙◌}
use mathlib.Core.Logic.{◌≢◌, ◌⊎◌, inl, inr}
use mathlib.Core.Bool.{Bool, true, false, cond, not, ◌&&◌}
use Prim.Native.Nat.{ℕ, zero, suc, ◌+◌, ◌-◌, ◌*◌, ◌/◌, ◌%◌, ◌^◌, ◌≤◌, ◌<◌, zero-le, suc-le-suc}
use native.Mathlib.Nat.{le_of_suc-le-suc, not-suc-le-zero, pow-suc, pow-succ', div-div-eq-div-mul, div-mul-le_self, mul_left_comm}
use native.Mathlib.Omega.{arith}
use lib.Dec.{eqb, ltb, leb-suc-suc}
use lib.Count.{ones, ones_step, count_trailing_zeros, under}
use Rattle.ledger.specs.Ready.{bit, word_of, count_of, word_bits, masked_above, pick}
use Rattle.ledger.proofs.Tests.{true≢false, leb_is, ltb_yes, ltb_no, ltb_is, ltb_not, eqb_yes, eqb_is, eqb_no, eqb_not, and_left, and_right, not_yes}

-- ---- the least

-- the least q below n with r q; n where there is none
abbrev pub least : (ℕ → Bool) → ℕ → ℕ
least r zero = 0
least r (suc n) = cond (r 0) 0 (suc (least (λ q. r (suc q)) n))

abbrev pub above : (ℕ → Bool) → ℕ → ℕ → Bool
above r m q = ltb m q && r q

pub least_true : (r : ℕ → Bool) (n : ℕ) → least r n < n → r (least r n) ≡ true
least_true r zero h = absurd (not-suc-le-zero h)
least_true r (suc n) h = go (r 0) refl h (least_true (λ q. r (suc q)) n)
  where
    l : ℕ
    l = least (λ q. r (suc q)) n

    go : (b : Bool) → r 0 ≡ b → cond b 0 (suc l) < suc n → (l < n → r (suc l) ≡ true) → r (cond b 0 (suc l)) ≡ true
    go true e k f = e
    go false e k f = f (le_of_suc-le-suc k)

pub least_min : (r : ℕ → Bool) (n q : ℕ) → q < n → r q ≡ true → least r n ≤ q
least_min r zero q h e = absurd (not-suc-le-zero h)
least_min r (suc n) zero h e = rw e zero-le
least_min r (suc n) (suc q) h e = go (r 0) (least_min (λ q. r (suc q)) n q (le_of_suc-le-suc h) e)
  where
    go : (b : Bool) → least (λ q. r (suc q)) n ≤ q → cond b 0 (suc (least (λ q. r (suc q)) n)) ≤ suc q
    go true k = zero-le
    go false k = suc-le-suc k

-- none before the least; where the least is not below n, none at all
pub least_none : (r : ℕ → Bool) (n q : ℕ) → q < n → q < least r n → r q ≡ false
least_none r n q h k = go (r q) refl
  where
    go : (b : Bool) → r q ≡ b → b ≡ false
    go true e = absurd (omega (arith, least_min r n q h e))
    go false e = refl

-- ---- the word

bit_le : (b : Bool) → bit b ≤ 1
bit_le true = omega arith
bit_le false = omega arith

bit_mod : (b : Bool) (w : ℕ) → (bit b + 2 * w) % 2 ≡ bit b
bit_mod b w = omega (arith, bit_le b)

bit_div : (b : Bool) (w : ℕ) → (bit b + 2 * w) / 2 ≡ w
bit_div b w = omega (arith, bit_le b)

pub word_lt : (r : ℕ → Bool) (n : ℕ) → word_of r n < 2 ^ n
unfolding word_of
word_lt r zero = omega arith
word_lt r (suc n) = rw pow-suc (omega (arith, word_lt (λ q. r (suc q)) n, bit_le (r 0)))

-- bit q is set exactly if r q
pub word_bit : (r : ℕ → Bool) (n q : ℕ) → q < n → word_of r n / 2 ^ q % 2 ≡ bit (r q)
unfolding word_of
word_bit r zero q h = absurd (not-suc-le-zero h)
word_bit r (suc n) zero h = omega (arith, bit_mod (r 0) (word_of (λ q. r (suc q)) n))
word_bit r (suc n) (suc q) h = rw (pow-succ', ← div-div-eq-div-mul, bit_div) (word_bit (λ q. r (suc q)) n q (le_of_suc-le-suc h))

-- where r and t agree below n, their words are the same
pub word_same : (r t : ℕ → Bool) (n : ℕ) → ((j : ℕ) → j < n → r j ≡ t j) → word_of r n ≡ word_of t n
unfolding word_of
word_same r t zero f = refl
word_same r t (suc n) f =
    ap₂ (λ (b : Bool) (w : ℕ). bit b + 2 * w) (f 0 (suc-le-suc zero-le))
    (word_same (λ q. r (suc q)) (λ q. t (suc q)) n (λ j h. f (suc j) (suc-le-suc h)))

-- where they agree below n but at q, their words differ by bit q alone
pub word_but : (r t : ℕ → Bool) (n q : ℕ) → q < n → ((j : ℕ) → j < n → j ≢ q → r j ≡ t j)
    → word_of r n + bit (t q) * 2 ^ q ≡ word_of t n + bit (r q) * 2 ^ q
unfolding word_of
word_but r t zero q h f = absurd (not-suc-le-zero h)
word_but r t (suc n) zero h f =
    omega (arith, word_same (λ q. r (suc q)) (λ q. t (suc q)) n (λ j i. f (suc j) (suc-le-suc i) (λ e. omega arith)))
word_but r t (suc n) (suc q) h f =
    rw (pow-succ', mul_left_comm (bit (t (suc q))) 2 (2 ^ q), mul_left_comm (bit (r (suc q))) 2 (2 ^ q))
    (omega (
      arith,
      ap bit (f 0 (suc-le-suc zero-le) (λ e. omega arith)),
      word_but (λ q. r (suc q)) (λ q. t (suc q)) n q (le_of_suc-le-suc h) (λ j i d. f (suc j) (suc-le-suc i) (λ e. d (omega arith))),
    ))

pub count_is_ones : (r : ℕ → Bool) (n : ℕ) → ones (word_of r n) ≡ count_of r n
unfolding word_of count_of ones
count_is_ones r zero = refl
count_is_ones r (suc n) = rw (ones_step, bit_mod, bit_div, count_is_ones (λ q. r (suc q)) n)

-- a word is 0 where nothing is set
pub word_zero : (r : ℕ → Bool) (n : ℕ) → eqb (word_of r n) 0 ≡ not (ltb (least r n) n)
unfolding word_of
word_zero r zero = refl
word_zero r (suc n) = go (r 0) (word_zero (λ q. r (suc q)) n)
  where
    w : ℕ
    w = word_of (λ q. r (suc q)) n

    twice : (b : Bool) → eqb w 0 ≡ b → eqb (0 + 2 * w) 0 ≡ b
    twice true e = eqb_is (0 + 2 * w) 0 (omega (arith, eqb_yes w 0 e))
    twice false e = eqb_not (0 + 2 * w) 0 (omega (arith, eqb_no w 0 e))

    go : (b : Bool) → eqb w 0 ≡ not (ltb (least (λ q. r (suc q)) n) n) → eqb (bit b + 2 * w) 0 ≡ not (ltb (cond b 0 (suc (least (λ q. r (suc q)) n))) (suc n))
    go true e = eqb_not (1 + 2 * w) 0 (omega arith) ∙ ap not (sym (leb_is 1 (suc n) (omega arith)))
    go false e = twice (eqb w 0) refl ∙ e ∙ ap not (sym (leb-suc-suc (suc (least (λ q. r (suc q)) n)) n))

pub word_some : (r : ℕ → Bool) (n q : ℕ) → q < n → r q ≡ true → eqb (word_of r n) 0 ≡ false
word_some r n q h e = word_zero r n ∙ ap not (ltb_is (least r n) n (omega (arith, least_min r n q h e)))

-- ---- the pick

-- masking keeps what is above the mark
pub masked : (r : ℕ → Bool) (m n : ℕ) → masked_above m (word_of r n) ≡ word_of (above r m) n
unfolding masked_above word_of
masked r m zero = omega (arith, div-mul-le_self 0 (2 ^ suc m))
masked r zero (suc n) = omega (arith, bit_le (r 0), word_same (λ q. above r 0 (suc q)) (λ q. r (suc q)) n (λ q h. rw (ltb_is 0 (suc q) (omega arith))))
masked r (suc m) (suc n) =
    rw (pow-succ' 2 (suc m), ← div-div-eq-div-mul, bit_div, mul_left_comm, ltb_not (suc m) 0 zero-le)
    (omega (arith, masked (λ q. r (suc q)) m n, word_same (λ q. above r (suc m) (suc q)) (above (λ q. r (suc q)) m) n (λ q h. rw leb-suc-suc)))

trailing_least : (r : ℕ → Bool) (n k : ℕ) → n ≤ k → least r n < n → count_trailing_zeros k (word_of r n) ≡ least r n
unfolding count_trailing_zeros word_of
trailing_least r zero k f h = absurd (not-suc-le-zero h)
trailing_least r (suc n) zero f h = absurd (not-suc-le-zero f)
trailing_least r (suc n) (suc k) f h = rw (bit_mod, bit_div) (go (r 0) h (trailing_least (λ q. r (suc q)) n k (le_of_suc-le-suc f)))
  where
    l : ℕ
    l = least (λ q. r (suc q)) n

    t : ℕ
    t = count_trailing_zeros k (word_of (λ q. r (suc q)) n)

    go : (b : Bool) → cond b 0 (suc l) < suc n → (l < n → t ≡ l) → under (bit b) t ≡ cond b 0 (suc l)
    go true d e = refl
    go false d e = ap suc (e (le_of_suc-le-suc d))

-- the least above the mark, or, if there is none, the least of all
pub pick_is : (r : ℕ → Bool) (m n : ℕ) → n ≤ word_bits → least r n < n
    → pick m (word_of r n) ≡ cond (ltb (least (above r m) n) n) (least (above r m) n) (least r n)
unfolding pick
pick_is r m n f h = rw (masked, word_zero) (go (ltb (least (above r m) n) n) refl)
  where
    go : (b : Bool) → ltb (least (above r m) n) n ≡ b
        → cond (not b) (count_trailing_zeros word_bits (word_of r n)) (count_trailing_zeros word_bits (word_of (above r m) n)) ≡ cond b (least (above r m) n)
        (least r n)
    go true e = trailing_least (above r m) n word_bits f (ltb_yes (least (above r m) n) n e)
    go false e = trailing_least r n word_bits f h

-- no q from lo on and below hi has r q
abbrev pub None : (ℕ → Bool) → ℕ → ℕ → Type 0
None r lo hi = (q : ℕ) → lo ≤ q → q < hi → r q ≡ false

-- j is ready, and it is the next after the mark m; or nothing above the mark is ready and j is the first of all
pub record Picks (r : ℕ → Bool) (m n j : ℕ) : Type 0 where
  pub below : j < n
  pub ready : r j ≡ true
  pub next : ((m < j) × None r (suc m) j) ⊎ (None r (suc m) n × None r 0 j)

pub pick_right : (r : ℕ → Bool) (m n : ℕ) → n ≤ word_bits → word_of r n ≢ 0 → Picks r m n (pick m (word_of r n))
pick_right r m n f h = rw (pick_is r m n f some) (go (ltb a n) refl)
  where
    a : ℕ
    a = least (above r m) n

    some : least r n < n
    some = ltb_yes (least r n) n (not_yes _ (sym (word_zero r n) ∙ eqb_not (word_of r n) 0 h))

    -- above the mark, r and `above r m` say the same
    none : (k : ℕ) → k ≤ n → k ≤ a → None r (suc m) k
    none k i j q low high = rw (ltb_is m q low) at (least_none (above r m) n q (omega arith) (omega arith))

    go : (b : Bool) → ltb a n ≡ b → Picks r m n (cond b a (least r n))
    go true e =
        let k = ltb_yes a n e in
        let t = least_true (above r m) n k in
        record { below = k; ready = and_right (ltb m a) (r a) t; next = inl (ltb_yes m a (and_left (ltb m a) (r a) t), none a (omega arith) (omega arith)) }
    go false e =
        let k = ltb_no a n e in
        record { below = some; ready = least_true r n some; next = inr (none n (omega arith) k, λ q low high. least_none r n q (omega (arith, some)) high) }

pub picked_ready : (r : ℕ → Bool) (m n : ℕ) → n ≤ word_bits → eqb (word_of r n) 0 ≡ false
    → (pick m (word_of r n) < n) × (r (pick m (word_of r n)) ≡ true)
picked_ready r m n f e = let p = pick_right r m n f (eqb_no (word_of r n) 0 e) in (p.below, p.ready)

-- ---- how many steps the mark m is before q, going round n

pub gap : ℕ → ℕ → ℕ → ℕ
gap m q n = cond (ltb m q) (q - m) (q + n - m)

abbrev Gap : ℕ → ℕ → ℕ → Type 0
Gap m q n = ((m < q) × (gap m q n ≡ q - m)) ⊎ ((q ≤ m) × (gap m q n ≡ q + n - m))

gap_cases : (m q n : ℕ) → Gap m q n
unfolding gap
gap_cases m q n = go (ltb m q) refl
  where
    go : (b : Bool) → ltb m q ≡ b
        → ((m < q) × (cond b (q - m) (q + n - m) ≡ q - m)) ⊎ ((q ≤ m) × (cond b (q - m) (q + n - m) ≡ q + n - m))
    go true e = inl (ltb_yes m q e, refl)
    go false e = inr (ltb_no m q e, refl)

pub gap_pos : (m q n : ℕ) → m < n → 1 ≤ gap m q n
gap_pos m q n h = go (gap_cases m q n)
  where
    go : Gap m q n → 1 ≤ gap m q n
    go (inl c) = omega arith
    go (inr c) = omega arith

pub gap_le : (m q n : ℕ) → q < n → gap m q n ≤ n
gap_le m q n h = go (gap_cases m q n)
  where
    go : Gap m q n → gap m q n ≤ n
    go (inl c) = omega arith
    go (inr c) = omega arith

-- ---- while q is ready, a pick is q or brings the mark nearer to it

module _ (r : ℕ → Bool) (m q n : ℕ) (hq : q < n) (hm : m < n) (few : n ≤ word_bits) (e : r q ≡ true) where
  picked : Picks r m n (pick m (word_of r n))
  picked = pick_right r m n few (eqb_no (word_of r n) 0 (word_some r n q hq e))

  -- a stretch with none ready that starts no later than q ends before it
  outside : (lo hi : ℕ) → None r lo hi → lo ≤ q → hi ≤ q
  outside lo hi f low = let no : ¬ (q < hi) = λ h. true≢false (sym e ∙ f q low h) in omega arith

  nearer : (j : ℕ) → Picks r m n j → (j ≡ q) ⊎ (gap j q n < gap m q n)
  nearer j p = go p.next (gap_cases m q n) (gap_cases j q n)
    where
      go : ((m < j) × None r (suc m) j) ⊎ (None r (suc m) n × None r 0 j) → Gap m q n → Gap j q n → (j ≡ q) ⊎ (gap j q n < gap m q n)
      go (inl x) (inl y) (inl z) = inr (omega arith)
      go (inl x) (inl y) (inr z) = inl (omega (arith, outside (suc m) j x.1 y.0))
      go (inl x) (inr y) (inl z) = inr (omega arith)
      go (inl x) (inr y) (inr z) = inr (omega arith)
      go (inr x) (inl y) z = absurd (omega (arith, outside (suc m) n x.0 y.0))
      go (inr x) (inr y) (inl z) = inr (omega arith)
      go (inr x) (inr y) (inr z) = inl (omega (arith, outside 0 j x.1 zero-le))

  pub picked_nearer : (pick m (word_of r n) ≡ q) ⊎ (gap (pick m (word_of r n)) q n < gap m q n)
  picked_nearer = nearer (pick m (word_of r n)) picked
