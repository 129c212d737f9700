-- From a Boolean test to the fact that it tests, and back. Assumes nothing.
use mathlib.Core.Path.{◌≡◌, refl, sym, ◌∙◌, subst}
use mathlib.Core.Logic.{◌≢◌}
use mathlib.Core.Bool.{Bool, true, false, not, ◌&&◌, ◌||◌}
use Prim.Native.Nat.{ℕ, suc, ◌≤◌, ◌<◌}
use native.Mathlib.Nat.{le_of_suc-le-suc}
use native.Mathlib.Omega.{arith}
use lib.Dec.{eqb, ltb, leb, T, eqb→eq, eqb_refl, leb→le, nleb→lt, le→leb}

T_of : {b : Bool} → b ≡ true → T b
T_of e = subst T (sym e) tt

true_of : (b : Bool) → T b → b ≡ true
true_of true t = refl
true_of false t = absurd t

pub true≢false : true ≡ false → ⊥
true≢false e = subst T e tt

-- a test that cannot be true is false
pub is_false : (b : Bool) → (b ≡ true → ⊥) → b ≡ false
is_false true h = absurd (h refl)
is_false false h = refl

pub leb_yes : (m n : ℕ) → leb m n ≡ true → m ≤ n
leb_yes m n e = leb→le m n (T_of e)

pub leb_no : (m n : ℕ) → leb m n ≡ false → n < m
leb_no m n e = nleb→lt m n (subst (λ (b : Bool). T (not b)) (sym e) tt)

pub leb_is : (m n : ℕ) → m ≤ n → leb m n ≡ true
leb_is m n h = true_of (leb m n) (le→leb m n h)

pub leb_not : (m n : ℕ) → n < m → leb m n ≡ false
leb_not m n h = is_false (leb m n) (λ e. let z = leb_yes m n e in omega arith)

pub ltb_yes : (m n : ℕ) → ltb m n ≡ true → m < n
ltb_yes m n e = leb_yes (suc m) n e

pub ltb_no : (m n : ℕ) → ltb m n ≡ false → n ≤ m
ltb_no m n e = le_of_suc-le-suc (leb_no (suc m) n e)

pub ltb_is : (m n : ℕ) → m < n → ltb m n ≡ true
ltb_is m n h = leb_is (suc m) n h

pub ltb_not : (m n : ℕ) → n ≤ m → ltb m n ≡ false
ltb_not m n h = leb_not (suc m) n (omega arith)

pub eqb_yes : (m n : ℕ) → eqb m n ≡ true → m ≡ n
eqb_yes m n e = eqb→eq m n (T_of e)

pub eqb_is : (m n : ℕ) → m ≡ n → eqb m n ≡ true
eqb_is m n e = true_of (eqb m n) (subst (λ (k : ℕ). T (eqb m k)) e (eqb_refl m))

pub eqb_no : (m n : ℕ) → eqb m n ≡ false → m ≢ n
eqb_no m n e h = true≢false (sym (eqb_is m n h) ∙ e)

pub eqb_not : (m n : ℕ) → m ≢ n → eqb m n ≡ false
eqb_not m n h = is_false (eqb m n) (λ e. h (eqb_yes m n e))

pub and_left : (a b : Bool) → (a && b) ≡ true → a ≡ true
and_left true b e = refl
and_left false b e = e

pub and_right : (a b : Bool) → (a && b) ≡ true → b ≡ true
and_right true b e = e
and_right false b e = absurd (true≢false (sym e))

pub or_left : (a b : Bool) → (a || b) ≡ false → a ≡ false
or_left true b e = e
or_left false b e = refl

pub or_right : (a b : Bool) → (a || b) ≡ false → b ≡ false
or_right true b e = absurd (true≢false e)
or_right false b e = e

pub or_is : (a b : Bool) → a ≡ true → (a || b) ≡ true
or_is true b e = refl
or_is false b e = absurd (true≢false (sym e))

pub or_is_right : (a b : Bool) → b ≡ true → (a || b) ≡ true
or_is_right true b e = refl
or_is_right false b e = e

pub not_yes : (b : Bool) → not b ≡ false → b ≡ true
not_yes true e = refl
not_yes false e = absurd (true≢false e)
