-- The laws of sums over lists, and of taking off and putting on. Assumes nothing.
use mathlib.Core.Path.{◌≡◌, refl, sym, ap, subst}
use mathlib.Core.Logic.{◌≢◌}
use mathlib.Core.Bool.{false}
use mathlib.Core.List.{List, [], ◌∷◌, ◌++◌, map}
use Prim.Native.Nat.{ℕ, zero, suc, ◌+◌, ◌≤◌, ◌<◌, zero-le, suc-le-suc}
use native.Mathlib.Nat.{not-suc-le-zero, le_of_suc-le-suc}
use native.Mathlib.Omega.{arith}
use native.Mathlib.Decide.{ℕ_discrete}
use lib.ListN.{length, get_or, set, drop, length-set}
use lib.Seq.{get_or-set_same, get_or-set_other}
use lib.Dec.{eqb}
use Rattle.ledger.specs.Ledger.{Packet, oldest, behind, pop, push}
use Rattle.ledger.specs.Ready.{bit}
use Rattle.ledger.specs.Calls.{is_empty}
use Rattle.ledger.specs.Sound.{All, Everywhere, sum, weigh, one}
use Rattle.ledger.proofs.Tests.{true≢false, eqb_is, eqb_not}

-- ---- sums

pub sum_append : {A : Type 0} (f : A → ℕ) (xs ys : List A) → sum f (xs ++ ys) ≡ sum f xs + sum f ys
sum_append f [] ys = omega arith
sum_append f (x ∷ xs) ys = omega (arith, sum_append f xs ys)

pub weigh_set : (f : ℕ → Packet → ℕ) (ls : List (List Packet)) (i : ℕ) (v : List Packet) → i < length ls
    → weigh f (set ls i v) + sum (f i) (get_or ls i []) ≡ weigh f ls + sum (f i) v
weigh_set f [] i v h = absurd (not-suc-le-zero h)
weigh_set f (l ∷ ls) zero v h = omega arith
weigh_set f (l ∷ ls) (suc i) v h = omega (arith, weigh_set (λ k. f (suc k)) ls i v (le_of_suc-le-suc h))

pub cons_form : (ks : List Packet) → is_empty ks ≡ false → ks ≡ oldest ks ∷ drop 1 ks
cons_form [] e = absurd (true≢false e)
cons_form (k ∷ ks) e = refl

pub drop_le : {A : Type 0} (xs : List A) → length (drop 1 xs) ≤ length xs
drop_le [] = zero-le
drop_le (x ∷ xs) = omega arith

-- ---- what taking off and putting on do to a sum

pub weigh_pop : (f : ℕ → Packet → ℕ) (a : ℕ) (ls : List (List Packet)) → a < length ls → is_empty (get_or ls a []) ≡ false
    → weigh f (pop a ls) + f a (oldest (get_or ls a [])) ≡ weigh f ls
unfolding pop
weigh_pop f a ls h e =
    omega (arith, weigh_set f ls a (drop 1 (get_or ls a [])) h, ap (sum (f a)) (cons_form (get_or ls a []) e))

pub weigh_push : (f : ℕ → Packet → ℕ) (b : ℕ) (k : Packet) (ls : List (List Packet)) → b < length ls → weigh f (push b k ls) ≡ weigh f ls + f b k
unfolding push
weigh_push f b k ls h =
    omega (arith, weigh_set f ls b (behind k (get_or ls b [])) h, sum_append (f b) (get_or ls b []) (k ∷ []))

pub length_pop : (a : ℕ) (ls : List (List Packet)) → length (pop a ls) ≡ length ls
unfolding pop
length_pop a ls = length-set ls a (drop 1 (get_or ls a []))

pub length_push : (b : ℕ) (k : Packet) (ls : List (List Packet)) → length (push b k ls) ≡ length ls
unfolding push
length_push b k ls = length-set ls b (behind k (get_or ls b []))

-- ---- where the lists stand afterwards

pub at_push_other : (b : ℕ) (k : Packet) (c : ℕ) (ls : List (List Packet)) → c ≢ b → get_or (push b k ls) c [] ≡ get_or ls c []
unfolding push
at_push_other b k c ls n = get_or-set_other ls b c (behind k (get_or ls b [])) [] n

pub at_push : (b : ℕ) (k : Packet) (ls : List (List Packet)) → b < length ls → get_or (push b k ls) b [] ≡ behind k (get_or ls b [])
unfolding push
at_push b k ls h = get_or-set_same ls b (behind k (get_or ls b [])) [] h

pub at_pop_other : (a c : ℕ) (ls : List (List Packet)) → c ≢ a → get_or (pop a ls) c [] ≡ get_or ls c []
unfolding pop
at_pop_other a c ls n = get_or-set_other ls a c (drop 1 (get_or ls a [])) [] n

pub at_pop : (a : ℕ) (ls : List (List Packet)) → a < length ls → get_or (pop a ls) a [] ≡ drop 1 (get_or ls a [])
unfolding pop
at_pop a ls h = get_or-set_same ls a (drop 1 (get_or ls a [])) [] h

-- ---- facts about every node

pub All-map : {A : Type 0} {P R : A → Type 0} (xs : List A) → ((x : A) → P x → R x) → All P xs → All R xs
All-map [] f a = tt
All-map (x ∷ xs) f a = (f x a.0, All-map xs f a.1)

pub All-of : {A : Type 0} {P : A → Type 0} (xs : List A) → ((x : A) → P x) → All P xs
All-of [] f = tt
All-of (x ∷ xs) f = (f x, All-of xs f)

pub All-both : {A : Type 0} {P R W : A → Type 0} (xs : List A) → ((x : A) → P x → R x → W x) → All P xs → All R xs → All W xs
All-both [] f a b = tt
All-both (x ∷ xs) f a b = (f x a.0 b.0, All-both xs f a.1 b.1)

pub All-append : {A : Type 0} (P : A → Type 0) (xs ys : List A) → All P xs → All P ys → All P (xs ++ ys)
All-append P [] ys a b = b
All-append P (x ∷ xs) ys a b = (a.0, All-append P xs ys a.1 b)

pub All-split : {A : Type 0} (P : A → Type 0) (xs ys : List A) → All P (xs ++ ys) → All P xs × All P ys
All-split P [] ys a = (tt, a)
All-split P (x ∷ xs) ys a = let r = All-split P xs ys a.1 in ((a.0, r.0), r.1)

pub All-behind : (P : Packet → Type 0) (k : Packet) (ks : List Packet) → All P ks → P k → All P (behind k ks)
All-behind P k ks a p = search All-append

pub All-drop : {A : Type 0} (P : A → Type 0) (xs : List A) → All P xs → All P (drop 1 xs)
All-drop P [] a = tt
All-drop P (x ∷ xs) a = a.1

pub All-front : (P : Packet → Type 0) (ks : List Packet) → is_empty ks ≡ false → All P ks → P (oldest ks)
All-front P [] e a = absurd (true≢false e)
All-front P (k ∷ ks) e a = a.0

pub All-at : {A : Type 0} (P : A → Type 0) (xs : List A) (d : A) → All P xs → (i : ℕ) → i < length xs → P (get_or xs i d)
All-at P [] d a i h = absurd (not-suc-le-zero h)
All-at P (x ∷ xs) d a zero h = a.0
All-at P (x ∷ xs) d a (suc i) h = All-at P xs d a.1 i (le_of_suc-le-suc h)

-- what holds of every node of a list holds of its entry ids
pub All-ids : (P : ℕ → Type 0) (ks : List Packet) → All (λ k. P k.node) ks → All P (map (λ k. k.node) ks)
All-ids P [] a = tt
All-ids P (k ∷ ks) a = (a.0, All-ids P ks a.1)

pub everywhere_map : {P R : ℕ → Packet → Type 0} (ls : List (List Packet)) → ((l : ℕ) (k : Packet) → P l k → R l k) → Everywhere P ls → Everywhere R ls
everywhere_map ls f e = record { holds = λ l h. All-map (get_or ls l []) (f l) (e.holds l h) }

pub everywhere_both : {P R W : ℕ → Packet → Type 0} (ls : List (List Packet)) → ((l : ℕ) (k : Packet) → P l k → R l k → W l k)
    → Everywhere P ls → Everywhere R ls → Everywhere W ls
everywhere_both ls f e d = record { holds = λ l h. All-both (get_or ls l []) (f l) (e.holds l h) (d.holds l h) }

pub everywhere_set : {P : ℕ → Packet → Type 0} (ls : List (List Packet)) (i : ℕ) (v : List Packet) → Everywhere P ls → All (P i) v → Everywhere P (set ls i v)
everywhere_set {P} ls i v e a = record { holds = λ l h. go l (omega (arith, length-set ls i v)) (ℕ_discrete l i) }
  where
    go : (l : ℕ) → l < length ls → Dec (l ≡ i) → All (P l) (get_or (set ls i v) l [])
    go l h (yes p) =
        subst (λ (j : ℕ). All (P j) (get_or (set ls i v) j [])) (sym p)
        (rw (get_or-set_same ls i v [] (omega arith)) a)
    go l h (no n) = rw (get_or-set_other ls i l v [] n) (e.holds l h)

pub everywhere_pop : {P : ℕ → Packet → Type 0} (a : ℕ) (ls : List (List Packet)) → a < length ls → Everywhere P ls → Everywhere P (pop a ls)
unfolding pop
everywhere_pop {P} a ls h e = everywhere_set ls a (drop 1 (get_or ls a [])) e (All-drop (P a) (get_or ls a []) (e.holds a h))

pub everywhere_push : {P : ℕ → Packet → Type 0} (b : ℕ) (k : Packet) (ls : List (List Packet)) → b < length ls → Everywhere P ls → P b k
    → Everywhere P (push b k ls)
unfolding push
everywhere_push {P} b k ls h e p = everywhere_set ls b (behind k (get_or ls b [])) e (All-behind (P b) k (get_or ls b []) (e.holds b h) p)

-- ---- from sums to facts about every node, and back

sum_zero : (f : Packet → ℕ) (xs : List Packet) → sum f xs ≡ 0 → All (λ x. f x ≡ 0) xs
sum_zero f [] e = tt
sum_zero f (x ∷ xs) e = (omega arith, sum_zero f xs (omega arith))

pub sum_below : (f : ℕ → Packet → ℕ) (ls : List (List Packet)) (l : ℕ) → sum (f l) (get_or ls l []) ≤ weigh f ls
sum_below f [] l = zero-le
sum_below f (xs ∷ ls) zero = omega arith
sum_below f (xs ∷ ls) (suc l) = omega (arith, sum_below (λ i. f (suc i)) ls l)

pub weigh_zero : (f : ℕ → Packet → ℕ) (ls : List (List Packet)) → weigh f ls ≡ 0 → Everywhere (λ l x. f l x ≡ 0) ls
weigh_zero f ls e = record { holds = λ l h. sum_zero (f l) (get_or ls l []) (omega (arith, sum_below f ls l)) }

pub sum_cong : {A : Type 0} (f g : A → ℕ) (xs : List A) → All (λ x. f x ≡ g x) xs → sum f xs ≡ sum g xs
sum_cong f g [] a = refl
sum_cong f g (x ∷ xs) a = omega (arith, a.0, sum_cong f g xs a.1)

pub weigh_cong : (f g : ℕ → Packet → ℕ) (ls : List (List Packet)) → Everywhere (λ l x. f l x ≡ g l x) ls → weigh f ls ≡ weigh g ls
weigh_cong f g [] e = refl
weigh_cong f g (xs ∷ ls) e =
    omega (
      arith,
      sum_cong (f 0) (g 0) xs (e.holds 0 (suc-le-suc zero-le)),
      weigh_cong (λ i. f (suc i)) (λ i. g (suc i)) ls (record { holds = λ l h. e.holds (suc l) (suc-le-suc h) }),
    )

pub weigh_none : (ls : List (List Packet)) → weigh (λ l x. 0) ls ≡ 0
weigh_none [] = refl
weigh_none (l ∷ ls) = omega (arith, none l, weigh_none ls)
  where
    none : (xs : List Packet) → sum (λ x. 0) xs ≡ 0
    none [] = refl
    none (x ∷ xs) = omega (arith, none xs)

-- ---- sums part by part; and where only one list has a part

pub sum_zeros : (f : Packet → ℕ) (xs : List Packet) → All (λ k. f k ≡ 0) xs → sum f xs ≡ 0
sum_zeros f [] a = refl
sum_zeros f (x ∷ xs) a = omega (arith, a.0, sum_zeros f xs a.1)

pub sum_ones : (f : Packet → ℕ) (xs : List Packet) → All (λ k. f k ≡ 1) xs → sum f xs ≡ length xs
sum_ones f [] a = refl
sum_ones f (x ∷ xs) a = omega (arith, a.0, sum_ones f xs a.1)

pub weigh_only : (f : ℕ → Packet → ℕ) (ls : List (List Packet)) (a : ℕ) → ((l : ℕ) → l ≢ a → l < length ls → All (λ k. f l k ≡ 0) (get_or ls l []))
    → weigh f ls ≡ sum (f a) (get_or ls a [])
weigh_only f [] a n = refl
weigh_only f (xs ∷ ls) zero n =
    omega (arith, weigh_cong (λ i. f (suc i)) (λ i k. 0) ls (record { holds = λ l h. n (suc l) (omega arith) (suc-le-suc h) }), weigh_none ls)
weigh_only f (xs ∷ ls) (suc a) n =
    let rest = weigh_only (λ i. f (suc i)) ls a (λ l d h. n (suc l) (λ e. d (omega arith)) (suc-le-suc h)) in
    omega (arith, sum_zeros (f 0) xs (n 0 (omega arith) (suc-le-suc zero-le)), rest)

pub sum_plus : (f g : Packet → ℕ) (xs : List Packet) → sum (λ k. f k + g k) xs ≡ sum f xs + sum g xs
sum_plus f g [] = refl
sum_plus f g (x ∷ xs) = omega (arith, sum_plus f g xs)

pub weigh_plus : (f g : ℕ → Packet → ℕ) (ls : List (List Packet)) → weigh (λ l k. f l k + g l k) ls ≡ weigh f ls + weigh g ls
weigh_plus f g [] = refl
weigh_plus f g (xs ∷ ls) = omega (arith, sum_plus (f 0) (g 0) xs, weigh_plus (λ i. f (suc i)) (λ i. g (suc i)) ls)

-- ---- how often a node is counted

one_self : (x : ℕ) → bit (eqb x x) ≡ 1
one_self x = ap bit (eqb_is x x refl)

sum_counts : (xs : List Packet) → All (λ k. 1 ≤ sum (one k.node 0) xs) xs
sum_counts [] = tt
sum_counts (x ∷ xs) = (omega (arith, one_self x.node), All-map xs (λ y h. omega arith) (sum_counts xs))

-- a node that stands somewhere is counted
pub counted : (ls : List (List Packet)) → Everywhere (λ l k. 1 ≤ weigh (one k.node) ls) ls
counted ls = record { holds = λ l h. All-map (get_or ls l []) (λ k j. omega (arith, sum_below (one k.node) ls l)) (sum_counts (get_or ls l [])) }

-- a node that isn't among the entry ids of a list isn't counted there
pub uncounted : (y : ℕ) (ks : List Packet) → All (λ x. x ≢ y) (map (λ k. k.node) ks) → sum (one y 0) ks ≡ 0
uncounted y [] a = refl
uncounted y (k ∷ ks) a = omega (arith, ap bit (eqb_not k.node y a.0), uncounted y ks a.1)

-- a node of weight 0 is nowhere
pub nowhere : (y : ℕ) (ls : List (List Packet)) → weigh (one y) ls ≡ 0 → Everywhere (λ l k. k.node ≢ y) ls
nowhere y ls e = everywhere_map ls (λ l k z h. differ k z h) (weigh_zero (one y) ls e)
  where
    differ : (k : Packet) → bit (eqb k.node y) ≡ 0 → k.node ≡ y → ⊥
    differ k z h = omega (arith, ap bit (eqb_is k.node y h))
