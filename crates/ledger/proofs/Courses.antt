-- Calls in which every setup is refused are the acts among them: on the desk, and on whatever answers and shows as the desk does. So what
-- is proved of acts holds of calls. Assumes nothing.
use mathlib.Core.Path.{◌≡◌, refl, sym, ap, ◌∙◌}
use mathlib.Core.Bool.{true, false}
use mathlib.Core.List.{List, [], ◌∷◌, ◌++◌}
use Prim.Native.Nat.{ℕ, zero, suc}
use lib.ListN.{take}
use Rattle.ledger.specs.Settings.{Settings}
use Rattle.ledger.specs.Ledger.{Ledger}
use Rattle.ledger.specs.Calls.{Act, Reply, is_refused, step, run}
use Rattle.ledger.specs.Desk.{Desk, has, Call, setup, act, is_arrival_call, desk, after_calls, SetupsRefused}
use Rattle.ledger.proofs.Promises.{refusal_keeps_desk}

-- ---- the acts among calls

unfoldable pub acts_in : List Call → List Act
acts_in [] = []
acts_in (setup T ∷ cs) = acts_in cs
acts_in (act a ∷ cs) = a ∷ acts_in cs

-- ---- calls after calls

module _ {X : Type 0} (call : X → Call → Reply × X) where
  pub calls_append : (x : X) (xs ys : List Call) → after_calls call x (xs ++ ys) ≡ after_calls call (after_calls call x xs) ys
  calls_append x [] ys = refl
  calls_append x (c ∷ xs) ys = calls_append (call x c).1 xs ys

  pub refused_parts : (x : X) (xs ys : List Call) → SetupsRefused call x (xs ++ ys)
      → SetupsRefused call x xs × SetupsRefused call (after_calls call x xs) ys
  refused_parts x [] ys f = (tt, f)
  refused_parts x (c ∷ xs) ys f = let o = refused_parts (call x c).1 xs ys f.1 in ((f.0, o.0), o.1)

  pub first_refused : (x : X) (cs : List Call) → SetupsRefused call x cs → (j : ℕ) → SetupsRefused call x (take j cs)
  first_refused x cs f zero = tt
  first_refused x [] f (suc j) = tt
  first_refused x (c ∷ cs) f (suc j) = (f.0, first_refused (call x c).1 cs f.1 j)

-- ---- whatever takes calls, and answers and shows as the desk does

module _ {X : Type 0} (call : X → Call → Reply × X) (shows : X → Desk) where
  abbrev pub Faithful : (X → ℕ) → Type 0
  Faithful long = (x : X) (c : Call) → ◌≡◌ {A = Reply × Desk} ((call x c).0, shows (call x c).1) (desk (long x) (shows x) c)

  module _ (long : X → ℕ) (faithful : Faithful long) (S : Settings) where
    pub act_answer : (x : X) (L : Ledger) → shows x ≡ has S L → (a : Act) → (call x (act a)).0 ≡ (step S L a).0
    act_answer x L e a = ap (λ (r : Reply × Desk). r.0) (faithful x (act a)) ∙ ap (λ (D : Desk). (desk (long x) D (act a)).0) e

    pub act_shows : (x : X) (L : Ledger) → shows x ≡ has S L → (a : Act) → shows (call x (act a)).1 ≡ has S (step S L a).1
    act_shows x L e a = ap (λ (r : Reply × Desk). r.1) (faithful x (act a)) ∙ ap (λ (D : Desk). (desk (long x) D (act a)).1) e

    -- a refused call leaves what is shown, if it is no arrival
    pub refused_shows : (x : X) (c : Call) → is_arrival_call c ≡ false → is_refused (call x c).0 ≡ true → shows (call x c).1 ≡ shows x
    refused_shows x c other r =
        let a = ap (λ (o : Reply × Desk). o.0) (faithful x c) in
        let b = ap (λ (o : Reply × Desk). o.1) (faithful x c) in
        b ∙ refusal_keeps_desk (long x) (shows x) c other (ap is_refused (sym a) ∙ r)

    -- after calls in which every setup is refused, the ledger is that after their acts
    pub calls_show : (x : X) (L : Ledger) → shows x ≡ has S L → (cs : List Call) → SetupsRefused call x cs
        → shows (after_calls call x cs) ≡ has S (run S L (acts_in cs))
    unfolding acts_in
    calls_show x L e [] f = e
    calls_show x L e (setup T ∷ cs) f = calls_show (call x (setup T)).1 L (refused_shows x (setup T) refl (f.0 refl) ∙ e) cs f.1
    calls_show x L e (act a ∷ cs) f = calls_show (call x (act a)).1 (step S L a).1 (act_shows x L e a) cs f.1

-- ---- the desk itself

pub desk_faithful : (n : ℕ) → Faithful (desk n) (λ D. D) (λ D. n)
desk_faithful n D c = refl
