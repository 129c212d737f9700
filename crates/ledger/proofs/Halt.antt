-- Laws of the halt: which marks there are, what marking a port leaves, and whom a halt turns away. Assumes nothing.
use mathlib.Core.Path.{◌≡◌, refl, sym, ◌∙◌}
use mathlib.Core.Logic.{◌≢◌, ◌⊎◌, inl, inr, ⊎_elim}
use mathlib.Core.Bool.{Bool, true, false, cond, ◌&&◌, ◌||◌}
use Prim.Native.Nat.{ℕ, ◌<◌}
use native.Mathlib.Omega.{arith}
use native.Mathlib.Decide.{ℕ_discrete}
use lib.ListN.{length, get_or, set}
use lib.Seq.{get_or-set_same, get_or-set_other}
use lib.Dec.{eqb, ltb}
use Rattle.ledger.specs.Settings.{Settings}
use Rattle.ledger.specs.Ledger.{Column, halted, Ledger, mark_of, change, put_in}
use Rattle.ledger.specs.Halt.{halts, is_mark, marks, held_up, TurnedAway}
use Rattle.ledger.specs.Calls.{marked_for}
use Rattle.ledger.specs.Sound.{Orderly, Marked, Roomy}
use Rattle.ledger.proofs.Tests.{true≢false, is_false, eqb_yes, ltb_yes, ltb_is, and_left, and_right, or_is_right}
use Rattle.ledger.proofs.Columns.{change_here, change_other}
use Rattle.ledger.proofs.Keep.{keep_put}

-- ---- marks

-- a refusal that halts is one of three
halting : (n : ℕ) → halts n ≡ true → (n ≡ 7) ⊎ ((n ≡ 8) ⊎ (n ≡ 18))
unfolding halts
halting n e = go (eqb n 7) refl (eqb n 8) refl e
  where
    go : (a : Bool) → eqb n 7 ≡ a → (b : Bool) → eqb n 8 ≡ b → (a || (b || eqb n 18)) ≡ true → (n ≡ 7) ⊎ ((n ≡ 8) ⊎ (n ≡ 18))
    go true d b f g = inl (eqb_yes n 7 d)
    go false d true f g = inr (inl (eqb_yes n 8 f))
    go false d false f g = inr (inr (eqb_yes n 18 g))

pub halts_low : (n : ℕ) → halts n ≡ true → n < 256
halts_low n e = ⊎_elim (λ a. omega arith) (λ b. ⊎_elim (λ a. omega arith) (λ a. omega arith) b) (halting n e)

pub halts_mark : (n : ℕ) → halts n ≡ true → is_mark n ≡ true
unfolding is_mark
halts_mark n e = or_is_right (eqb n 0) (halts n) e

pub no_mark : is_mark 0 ≡ true
unfolding is_mark halts
no_mark = refl

-- ---- what marks a port

module _ (S : Settings) (p v n : ℕ) where
  pub marks_port : marks S p v n ≡ true → p < S.ports
  unfolding marks
  marks_port e = ltb_yes p S.ports (and_left (ltb p S.ports) (eqb v 0 && halts n) e)

  pub marks_first : marks S p v n ≡ true → v ≡ 0
  unfolding marks
  marks_first e = eqb_yes v 0 (and_left (eqb v 0) (halts n) (and_right (ltb p S.ports) (eqb v 0 && halts n) e))

  pub marks_halts : marks S p v n ≡ true → halts n ≡ true
  unfolding marks
  marks_halts e = and_right (eqb v 0) (halts n) (and_right (ltb p S.ports) (eqb v 0 && halts n) e)

  -- nor is a port marked that the switch doesn't have
  pub marks_in_lem : (p < S.ports → ⊥) → marks S p v n ≡ false
  marks_in_lem h = is_false (marks S p v n) (λ e. h (marks_port e))

  pub marks_is : p < S.ports → v ≡ 0 → halts n ≡ true → marks S p v n ≡ true
  unfolding marks
  marks_is h e f = rw (ltb_is p S.ports h, e, f)

  -- a refusal that doesn't halt marks nobody
  pub marks_not : halts n ≡ false → marks S p v n ≡ false
  unfolding marks
  marks_not e = rw e (go (ltb p S.ports) (eqb v 0))
    where
      go : (a b : Bool) → (a && (b && false)) ≡ false
      go true true = refl
      go true false = refl
      go false b = refl

-- ---- what it leaves

module _ (S : Settings) (p n : ℕ) (L : Ledger) where
  -- what holds of the ledger as it was, and of the ledger with the port marked, holds of what is left
  pub marked_by : (P : Ledger → Type 0) → (marks S p (mark_of L p) n ≡ true → P (put_in halted p n L)) → (marks S p (mark_of L p) n ≡ false → P L)
      → P (marked_for S p n L)
  unfolding marked_for
  marked_by P f g = go (marks S p (mark_of L p) n) refl
    where
      go : (b : Bool) → marks S p (mark_of L p) n ≡ b → P (cond b (put_in halted p n L) L)
      go true e = f e
      go false e = g e

  pub marked_lists : (marked_for S p n L).lists ≡ L.lists
  marked_lists = marked_by (λ N. N.lists ≡ L.lists) (λ e. unfold change in refl) (λ e. refl)

  pub marked_numbers : (c : Column) → c ≢ halted → (marked_for S p n L).numbers c ≡ L.numbers c
  marked_numbers c d =
      marked_by (λ N. N.numbers c ≡ L.numbers c) (λ e. change_other halted (λ xs. set xs p n) L c (λ i. d (sym i))) (λ e. refl)

  pub marked_other : (r : ℕ) → r ≢ p → mark_of (marked_for S p n L) r ≡ mark_of L r
  marked_other r d =
      marked_by (λ N. mark_of N r ≡ mark_of L r)
      (λ e. rw (change_here halted (λ xs. set xs p n) L) (get_or-set_other (L.numbers halted) p r n 0 d))
      (λ e. refl)

  pub marked_here : length (L.numbers halted) ≡ S.ports → mark_of (marked_for S p n L) p ≡ cond (marks S p (mark_of L p) n) n (mark_of L p)
  marked_here long =
      marked_by (λ N. mark_of N p ≡ cond (marks S p (mark_of L p) n) n (mark_of L p))
      (λ e.
      rw (e, change_here halted (λ xs. set xs p n) L)
      (get_or-set_same (L.numbers halted) p n 0 (omega (arith, marks_port S p (mark_of L p) n e))))
      (λ e. rw e)

  -- a refusal that doesn't halt leaves the ledger
  pub unmarked : halts n ≡ false → marked_for S p n L ≡ L
  unmarked h = marked_by (λ N. N ≡ L) (λ e. absurd (true≢false (sym e ∙ marks_not S p (mark_of L p) n h))) (λ e. refl)

  pub turned_away : length (L.numbers halted) ≡ S.ports → TurnedAway S p n L (marked_for S p n L)
  turned_away long = record {
    only = record { same_lists = marked_lists; same_numbers = marked_numbers; other_marks = marked_other };
    mark = marked_here long;
  }

  pub marked_orderly : Roomy S → Orderly S L → Orderly S (marked_for S p n L)
  marked_orderly ok s =
      marked_by (Orderly S)
      (λ e. keep_put S ok L s halted (λ i. let z : ◌≡◌ {A = ℕ} 0 1 = cc in omega arith) p n (halts_low n (marks_halts S p (mark_of L p) n e)))
      (λ e. s)

-- a mark put at a port is in the place of its own alone
pub put_marked : (S : Settings) (L : Ledger) (p v : ℕ) → is_mark v ≡ true → Marked S L → length (L.numbers halted) ≡ S.ports → Marked S (put_in halted p v L)
put_marked S L p v k f long r h = rw (change_here halted (λ xs. set xs p v) L) (go (ℕ_discrete p r))
  where
    go : Dec (p ≡ r) → is_mark (get_or (set (L.numbers halted) p v) r 0) ≡ true
    go (yes e) = rw (sym e, get_or-set_same (L.numbers halted) p v 0 (omega arith)) k
    go (no d) = rw (get_or-set_other (L.numbers halted) p r v 0 (λ i. d (sym i))) (f r h)

-- ---- whom a halt turns away

pub held_up_lem : (q v : ℕ) → held_up q v ≡ true → (0 < q) × (0 < v)
unfolding held_up
held_up_lem q v e = (ltb_yes 0 q (and_left (ltb 0 q) (ltb 0 v) e), ltb_yes 0 v (and_right (ltb 0 q) (ltb 0 v) e))

pub held_is : (q v : ℕ) → 0 < q → 0 < v → held_up q v ≡ true
unfolding held_up
held_is q v h k = rw (ltb_is 0 q h, ltb_is 0 v k)

pub goes_on_lem : (v : ℕ) → held_up 0 v ≡ false
unfolding held_up
goes_on_lem v = refl

pub not_held : (q : ℕ) → held_up q 0 ≡ false
unfolding held_up
not_held q = go (ltb 0 q)
  where
    go : (b : Bool) → (b && false) ≡ false
    go true = refl
    go false = refl
