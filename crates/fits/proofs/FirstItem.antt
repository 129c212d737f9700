-- The node that is found is the first of which the rule is not so, list by list and each from its front. Assumes nothing.
use mathlib.Core.Path.{◌≡◌, refl, sym, ap, ◌∙◌}
use mathlib.Core.Bool.{Bool, true, false, cond}
use mathlib.Core.List.{List, [], ◌∷◌, ◌++◌, map}
use Prim.Native.Nat.{ℕ, zero, suc, ◌+◌, ◌≤◌, ◌<◌}
use native.Mathlib.Decide.{ℕ_discrete}
use native.Mathlib.Omega.{arith}
use Rattle.std.specs.Prelude.{Option, None, Some}
use Rattle.ledger.specs.Settings.{Settings}
use Rattle.ledger.specs.Ledger.{place_of}
use Rattle.ledger.specs.Sound.{All}
use Rattle.ledger.proofs.Tests.{true≢false}
use Rattle.layout.specs.Tables.{lists}
use Rattle.layout.specs.Picture.{nodes_of, node_in}
use Rattle.fits.specs.declared.NodeRule.{NodeRule}
use Rattle.fits.specs.Fits.{node_test, first_bad, or_else, list_found, fits_from, fits_found}
use Rattle.fits.proofs.Means.{NodeHolds, node_means, none, first_means}

-- ---- the first that fails, among nodes

record FirstBad (t : ℕ → Bool) (xs : List ℕ) (x : ℕ) : Type 0 where
  front : List ℕ
  rest : List ℕ
  here : xs ≡ front ++ (x ∷ rest)
  wrong : t x ≡ false
  before : All (λ y. t y ≡ true) front

first_bad_lem : (t : ℕ → Bool) (xs : List ℕ) (x : ℕ) → first_bad t xs ≡ Some x → FirstBad t xs x
unfolding first_bad
first_bad_lem t [] x e = absurd (none x (sym e))
first_bad_lem t (y ∷ xs) x e = go (t y) refl e (first_bad_lem t xs x)
  where
    go : (b : Bool) → t y ≡ b → cond b (first_bad t xs) (Some y) ≡ Some x → (first_bad t xs ≡ Some x → FirstBad t xs x) → FirstBad t (y ∷ xs) x
    go true p d f =
        let r = f d in
        record { front = y ∷ r.front; rest = r.rest; here = ap (λ (l : List ℕ). y ∷ l) r.here; wrong = r.wrong; before = (p, r.before) }
    go false p d f =
        let q : y ≡ x = cc in
        record { front = []; rest = xs; here = ap (λ (z : ℕ). z ∷ xs) q; wrong = rw q at p; before = tt }

-- ---- among lists

module _ (rule : NodeRule) (S : Settings) (m : List ℕ) where
  -- in the lists from a on and below e
  record Bad (a e x : ℕ) : Type 0 where
    list : ℕ
    low : a ≤ list
    inside : list < e
    bad : FirstBad (node_test rule S m list) (nodes_of S m list) x
    earlier : (l : ℕ) → a ≤ l → l < list → list_found rule S m l ≡ None

  from_bad : (n a x : ℕ) → fits_from rule S m a n ≡ Some x → Bad a (a + n) x
  unfolding fits_from
  from_bad zero a x e = absurd (none x (sym e))
  from_bad (suc n) a x e = go (list_found rule S m a) refl e (from_bad n (suc a) x)
    where
      later : {b : ℕ} → list_found rule S m a ≡ None → ((l : ℕ) → suc a ≤ l → l < b → list_found rule S m l ≡ None)
          → (l : ℕ) → a ≤ l → l < b → Dec (l ≡ a) → list_found rule S m l ≡ None
      later p f l low high (yes q) = ap (list_found rule S m) q ∙ p
      later p f l low high (no q) = f l (omega arith) high

      go : (f : Option ℕ) → list_found rule S m a ≡ f → or_else f (fits_from rule S m (suc a) n) ≡ Some x
          → (fits_from rule S m (suc a) n ≡ Some x → Bad (suc a) (suc a + n) x) → Bad a (a + suc n) x
      go None p d f =
          let r = f d in
          record {
            list = r.list;
            low = omega arith;
            inside = omega arith;
            bad = r.bad;
            earlier = λ l low high. later p r.earlier l low high (ℕ_discrete l a);
          }
      go (Some y) p d f = record {
        list = a;
        low = omega arith;
        inside = omega arith;
        bad = first_bad_lem (node_test rule S m a) (nodes_of S m a) x (p ∙ d);
        earlier = λ l low high. absurd (omega arith);
      }

  -- ---- in the words of the rule

  -- of the packets that list l shows of these nodes
  abbrev pub Kept : ℕ → List ℕ → Type 0
  Kept l xs = All (NodeHolds rule S (place_of S l)) (map (node_in S m l) xs)

  kept_all : (l : ℕ) (xs : List ℕ) → All (λ y. node_test rule S m l y ≡ true) xs → Kept l xs
  kept_all l [] a = tt
  kept_all l (x ∷ xs) a = ((node_means rule S m l x).0 a.0, kept_all l xs a.1)

  kept_list : (l : ℕ) → list_found rule S m l ≡ None → Kept l (nodes_of S m l)
  kept_list l e = (first_means (node_test rule S m l) (NodeHolds rule S (place_of S l)) (node_in S m l) (node_means rule S m l) (nodes_of S m l)).0 e

  pub record FirstBroken (x : ℕ) : Type 0 where
    pub list : ℕ
    pub front : List ℕ
    pub rest : List ℕ
    pub inside : list < lists S
    pub here : nodes_of S m list ≡ front ++ (x ∷ rest)
    pub wrong : NodeHolds rule S (place_of S list) (node_in S m list x) → ⊥
    pub before : Kept list front
    pub earlier : (l : ℕ) → l < list → Kept l (nodes_of S m l)

  pub fits_first : (x : ℕ) → fits_found rule S m ≡ Some x → FirstBroken x
  unfolding fits_found
  fits_first x e =
      let b = from_bad (lists S) 0 x e in
      record {
        list = b.list;
        front = b.bad.front;
        rest = b.bad.rest;
        inside = omega arith;
        here = b.bad.here;
        wrong = λ h. true≢false (sym ((node_means rule S m b.list x).1 h) ∙ b.bad.wrong);
        before = kept_all b.list b.bad.front b.bad.before;
        earlier = λ l h. kept_list l (b.earlier l (omega arith) h);
      }
