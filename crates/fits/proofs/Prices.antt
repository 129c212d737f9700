-- A price is fair exactly where so many beats hold the packet and no fewer do. Assumes nothing.
use mathlib.Core.Path.{◌≡◌, refl, sym, ap}
use mathlib.Core.Bool.{Bool, true, false}
use Prim.Native.Nat.{ℕ, ◌+◌, ◌*◌, ◌≤◌, ◌<◌}
use native.Mathlib.Nat.{mul-le-mul}
use native.Mathlib.Decide.{dec_lt}
use native.Mathlib.Omega.{arith}
use lib.Dec.{eqb, ltb}
use Rattle.ledger.specs.Header.{price}
use Rattle.ledger.proofs.Header.{price_holds, price_fewest}
use Rattle.ledger.proofs.Tests.{ltb_yes, ltb_no, eqb_is, eqb_not}

-- one number of beats holds so many bytes, and is the fewest
fewest_one : (b p r len : ℕ) → len ≤ r * b → p * b < len + b → r ≤ p → p ≡ r
fewest_one b p r len held few h = go (dec_lt r p)
  where
    go : Dec (r < p) → p ≡ r
    go (yes k) =
        let more : r + 1 ≤ p = omega arith in
        let same : b ≤ b = omega arith in
        let wide : (r + 1) * b ≤ p * b = mul-le-mul more same in
        absurd (omega arith)
    go (no k) = omega arith

module _ (b q len p : ℕ) (some : 1 ≤ b) (paid : 0 < q) where
  fair_price : len ≤ p * b → p * b < len + b → p ≡ price b q len
  fair_price held few = go (dec_lt p (price b q len))
    where
      go : Dec (p < price b q len) → p ≡ price b q len
      go (yes k) = sym (fewest_one b (price b q len) p len held (price_fewest b q len some paid) (omega arith))
      go (no k) = fewest_one b p (price b q len) len (price_holds b q len some paid) few (omega arith)

  -- too few beats, and enough
  pub too_few : p * b < len → false ≡ eqb p (price b q len)
  too_few h = sym (eqb_not p (price b q len) (λ e. omega (arith, ap (λ (n : ℕ). n * b) e, price_holds b q len some paid)))

  pub enough : len ≤ p * b → ltb (p * b) (len + b) ≡ eqb p (price b q len)
  enough held = go (ltb (p * b) (len + b)) refl
    where
      go : (t : Bool) → ltb (p * b) (len + b) ≡ t → t ≡ eqb p (price b q len)
      go true e = sym (eqb_is p (price b q len) (fair_price held (ltb_yes (p * b) (len + b) e)))
      go false e =
          let many = ltb_no (p * b) (len + b) e in
          sym (eqb_not p (price b q len) (λ d. omega (arith, ap (λ (n : ℕ). n * b) d, price_fewest b q len some paid)))
