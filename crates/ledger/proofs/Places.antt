-- The numbers of places, credit cells and nodes: in range, and different for different ones. Assumes nothing.
use mathlib.Core.Path.{◌≡◌, refl, sym, ap, ◌∙◌, subst}
use mathlib.Core.Logic.{◌≢◌}
use mathlib.Core.Bool.{Bool, true, false, cond, ◌&&◌}
use mathlib.Core.List.{List, [], ◌∷◌}
use Prim.Native.Nat.{ℕ, zero, suc, ◌+◌, ◌-◌, ◌*◌, ◌/◌, ◌%◌, ◌≤◌, ◌<◌, zero-le}
use native.Mathlib.Nat.{mul-le-mul_right, mul-add-div_right, mul-add-mod_self_right, div-eq_of_lt, mod-eq_of_lt, div-add-mod', mod-lt}
use native.Mathlib.Nat.{div-lt_iff_lt-mul, add-zero, add-sub_cancel_left, add-sub_of_le}
use native.Mathlib.Omega.{arith}
use lib.ListN.{length, get_or, set, length-set}
use lib.Seq.{get_or-set_same, get_or-set_other}
use lib.Dec.{ltb}
use Rattle.ledger.specs.Settings.{Settings, row}
use Rattle.ledger.specs.Ledger.{owner, index, is_node, Place, free, ingress, egress, prefetched, port_of, column, place#, place_in, place_of, cell}
use Rattle.ledger.specs.Ledger.{PlaceIn, credit_at, set_credit}
use Rattle.ledger.specs.Ready.{bit}
use Rattle.ledger.proofs.Tests.{ltb_yes, ltb_no, ltb_is, ltb_not}

-- a bound on every number of a list outlasts a change of one
pub set_lt : (xs : List ℕ) (i v j m : ℕ) → v < m → get_or xs j 0 < m → get_or (set xs i v) j 0 < m
set_lt [] i v j m h k = k
set_lt (x ∷ xs) zero v zero m h k = h
set_lt (x ∷ xs) zero v (suc j) m h k = k
set_lt (x ∷ xs) (suc i) v zero m h k = k
set_lt (x ∷ xs) (suc i) v (suc j) m h k = set_lt xs i v j m h k

-- ---- rows of m: a number a * m + i, with i below m

pub row_lt : (m n a i : ℕ) → a < n → i < m → a * m + i < n * m
row_lt m n a i h k = omega (arith, mul-le-mul_right m h)

pub row_div : (m a i : ℕ) → i < m → (a * m + i) / m ≡ a
row_div m a i h = mul-add-div_right (omega arith) a i ∙ ap (λ (k : ℕ). a + k) (div-eq_of_lt h) ∙ add-zero a

pub row_mod : (m a i : ℕ) → i < m → (a * m + i) % m ≡ i
row_mod m a i h = mul-add-mod_self_right a m i ∙ mod-eq_of_lt h

pub row_inj : (m a b i j : ℕ) → i < m → j < m → a * m + i ≡ b * m + j → (a ≡ b) × (i ≡ j)
row_inj m a b i j h k e = (
  sym (row_div m a i h) ∙ ap (λ (n : ℕ). n / m) e ∙ row_div m b j k,
  sym (row_mod m a i h) ∙ ap (λ (n : ℕ). n % m) e ∙ row_mod m b j k,
)

-- ---- places

module _ (S : Settings) where
  pub column_lt : (v : Place) → PlaceIn S v → column S v < row S
  unfolding row
  column_lt (free p) h = omega arith
  column_lt (ingress p) h = omega arith
  column_lt (egress p q) h = omega arith
  column_lt (prefetched p q) h = omega arith

  pub port_lt : (v : Place) → PlaceIn S v → port_of v < S.ports
  port_lt (free p) h = h.0
  port_lt (ingress p) h = h.0
  port_lt (egress p q) h = h.0
  port_lt (prefetched p q) h = h.0

  pub place#_lt : (v : Place) → PlaceIn S v → place# S v < S.ports * row S
  unfolding place#
  place#_lt v h = row_lt (row S) S.ports (port_of v) (column S v) (port_lt v h) (column_lt v h)

  place_in_lem : (v : Place) → PlaceIn S v → place_in S (port_of v) (column S v) ≡ v
  place_in_lem (free p) h = refl
  place_in_lem (ingress p) h = refl
  place_in_lem (egress p q) h = rw (ltb_is q S.queues h.1)
  place_in_lem (prefetched p q) h = rw (ltb_not (S.queues + q) S.queues (omega arith), add-sub_cancel_left)

  pub place_number : (v : Place) → PlaceIn S v → place_of S (place# S v) ≡ v
  unfolding place_of place#
  place_number v h = rw (row_div (row S) (port_of v) (column S v) (column_lt v h), row_mod (row S) (port_of v) (column S v) (column_lt v h)) (place_in_lem v h)

  pub place#_inj : (v w : Place) → PlaceIn S v → PlaceIn S w → place# S v ≡ place# S w → v ≡ w
  place#_inj v w h k e = sym (place_number v h) ∙ ap (place_of S) e ∙ place_number w k

  pub place#_other : (v w : Place) → PlaceIn S v → PlaceIn S w → v ≢ w → place# S v ≢ place# S w
  place#_other v w h k n e = n (place#_inj v w h k e)

  -- every list's number is a place's
  is_in_row : (p c : ℕ) → p < S.ports → 0 < S.queues → c < row S
      → PlaceIn S (place_in S p c) × (port_of (place_in S p c) * row S + column S (place_in S p c) ≡ p * row S + c)
  unfolding row
  is_in_row p zero hp h0 h = ((hp, h0), refl)
  is_in_row p (suc zero) hp h0 h = ((hp, h0), refl)
  is_in_row p (suc (suc k)) hp h0 h = go (ltb k S.queues) refl
    where
      go : (b : Bool) → ltb k S.queues ≡ b
          → let v = cond b (egress p k) (prefetched p (k - S.queues)) in
          PlaceIn S v × (port_of v * (2 + 2 * S.queues) + column S v ≡ p * (2 + 2 * S.queues) + suc (suc k))
      go true e = ((hp, ltb_yes k S.queues e), refl)
      go false e =
          let n : S.queues ≤ k = ltb_no k S.queues e in
          ((hp, omega arith), ap (λ (m : ℕ). p * (2 + 2 * S.queues) + suc (suc m)) (add-sub_of_le n))

  pos : 0 < row S
  unfolding row
  pos = omega arith

  pub place_of_lem : (l : ℕ) → 0 < S.queues → l < S.ports * row S → PlaceIn S (place_of S l) × (place# S (place_of S l) ≡ l)
  unfolding place_of place#
  place_of_lem l h0 h =
      let i = is_in_row (l / row S) (l % row S) ((div-lt_iff_lt-mul pos).1 h) h0 (mod-lt l pos) in
      (i.0, i.1 ∙ div-add-mod' l (row S))

  -- ---- credit cells

  pub cell_lt : (p r : ℕ) → p < S.ports → suc r < S.queues → cell S p r < S.ports * (S.queues - 1)
  unfolding cell
  cell_lt p r h k = row_lt (S.queues - 1) S.ports p r h (omega arith)

  pub cell_inj : (p r p' r' : ℕ) → suc r < S.queues → suc r' < S.queues → cell S p r ≡ cell S p' r' → (p ≡ p') × (r ≡ r')
  unfolding cell
  cell_inj p r p' r' h k e = row_inj (S.queues - 1) p p' r r' (omega arith) (omega arith) e

  pub length_credit : (xs : List ℕ) (p q v : ℕ) → length (set_credit S xs p q v) ≡ length xs
  unfolding set_credit
  length_credit xs p zero v = refl
  length_credit xs p (suc r) v = length-set xs (cell S p r) v

  pub credit_none : (xs : List ℕ) (p : ℕ) → credit_at S xs p 0 ≡ 0
  unfolding credit_at
  credit_none xs p = refl

  -- after a change at one port and queue: there, and anywhere else
  module _ (xs : List ℕ) (p q v : ℕ) (fits : length xs ≡ S.ports * (S.queues - 1)) (hp : p < S.ports) (hq : q < S.queues) where
    pub credit_same : 0 < q → credit_at S (set_credit S xs p q v) p q ≡ v
    unfolding credit_at set_credit
    credit_same = (elim q as (λ j. j < S.queues → 0 < j → credit_at S (set_credit S xs p j v) p j ≡ v) [
      | zero ↦ λ h k. absurd (omega arith)
      | suc r ↦ λ h k. get_or-set_same xs (cell S p r) v 0 (omega (arith, cell_lt p r hp h))
    ]) hq

    pub credit_at_lem : (p' q' : ℕ) → p ≡ p' → q ≡ q' → 0 < q' → credit_at S (set_credit S xs p q v) p' q' ≡ v
    credit_at_lem p' q' e d h =
        ap (λ (a : ℕ). credit_at S (set_credit S xs p q v) a q') (sym e)
        ∙ ap (λ (b : ℕ). credit_at S (set_credit S xs p q v) p b) (sym d)
        ∙ credit_same (omega arith)

    pub credit_other : (p' q' : ℕ) → q' < S.queues → ((p ≡ p') → (q ≡ q') → ⊥) → credit_at S (set_credit S xs p q v) p' q' ≡ credit_at S xs p' q'
    unfolding credit_at set_credit
    credit_other p' q' = go q q' hq
      where
        go : (a b : ℕ) → a < S.queues → b < S.queues → ((p ≡ p') → (a ≡ b) → ⊥) → credit_at S (set_credit S xs p a v) p' b ≡ credit_at S xs p' b
        go a zero h k n = refl
        go zero (suc s) h k n = refl
        go (suc r) (suc s) h k n =
            get_or-set_other xs (cell S p r) (cell S p' s) v 0
            (λ e. let i = cell_inj p r p' s h k (sym e) in n i.0 (ap suc i.1))

  -- every cell is a port's and a queue's
  pub cells_all : 2 ≤ S.queues → (P : ℕ → Type 0) → ((p r : ℕ) → p < S.ports → suc r < S.queues → P (cell S p r))
      → (i : ℕ) → i < S.ports * (S.queues - 1) → P i
  unfolding cell
  cells_all some P f i h =
      let pos : 0 < S.queues - 1 = omega arith in
      subst P (div-add-mod' i (S.queues - 1)) (f (i / (S.queues - 1)) (i % (S.queues - 1)) ((div-lt_iff_lt-mul pos).1 h) (omega (arith, mod-lt i pos)))

  -- a bound on the cells is one on the credits
  pub credit_in : (xs : List ℕ) (m : ℕ) → ((i : ℕ) → i < S.ports * (S.queues - 1) → get_or xs i 0 < suc m)
      → (p q : ℕ) → p < S.ports → q < S.queues → credit_at S xs p q ≤ m
  unfolding credit_at
  credit_in xs m f p zero hp hq = zero-le
  credit_in xs m f p (suc r) hp hq = omega (arith, f (cell S p r) (cell_lt p r hp hq))

  -- and outlasts a change of one
  pub credit_lt : (xs : List ℕ) (p q v i m : ℕ) → v < m → get_or xs i 0 < m → get_or (set_credit S xs p q v) i 0 < m
  unfolding set_credit
  credit_lt xs p zero v i m h k = k
  credit_lt xs p (suc r) v i m h k = set_lt xs (cell S p r) v i m h k

  pub credit_le : (xs : List ℕ) (p q v p' q' m : ℕ) → v ≤ m → credit_at S xs p' q' ≤ m → credit_at S (set_credit S xs p q v) p' q' ≤ m
  unfolding credit_at
  credit_le xs p q v p' zero m h k = zero-le
  credit_le xs p q v p' (suc s) m h k = omega (arith, credit_lt xs p q v (cell S p' s) (suc m) (omega arith) (omega arith))

-- ---- nodes

pub record Node (S : Settings) (y : ℕ) : Type 0 where
  pub home : owner y < S.ports
  pub low : index y < S.nodes

pub node_of : (S : Settings) (y : ℕ) → 1 ≤ bit (is_node S y) → Node S y
unfolding is_node
node_of S y h = go (ltb (owner y) S.ports) refl (ltb (index y) S.nodes) refl h
  where
    go : (a : Bool) → ltb (owner y) S.ports ≡ a → (b : Bool) → ltb (index y) S.nodes ≡ b → 1 ≤ bit (a && b) → Node S y
    go true d true e k = record { home = ltb_yes (owner y) S.ports d; low = ltb_yes (index y) S.nodes e }
    go true d false e k = absurd (omega arith)
    go false d b e k = absurd (omega arith)

pub node_is : (S : Settings) (y : ℕ) → Node S y → is_node S y ≡ true
unfolding is_node
node_is S y n = rw (ltb_is (owner y) S.ports n.home, ltb_is (index y) S.nodes n.low)

pub bit_le : (b : Bool) → bit b ≤ 1
bit_le true = omega arith
bit_le false = omega arith
