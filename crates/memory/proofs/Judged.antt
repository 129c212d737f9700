-- From a judgement to the outcome of an act. Assumes nothing.
use mathlib.Core.Path.{◌≡◌, refl, sym, ap, ◌∙◌}
use mathlib.Core.Bool.{true, false}
use mathlib.Core.List.{List, [], ◌∷◌}
use Prim.Native.Nat.{ℕ}
use native.Mathlib.Omega.{arith}
use Rattle.std.specs.Prelude.{Result, Ok, Err, IsErrAnd}
use Rattle.ledger.specs.Settings.{Settings}
use Rattle.ledger.specs.Rules.{Rule, refuse, guard, Clear}
use Rattle.ledger.specs.Ledger.{Ledger}
use Rattle.ledger.specs.Calls.{Act, arrive, stitch, prefetch, credit, map_to, turn, ready, where_is}
use Rattle.ledger.specs.Calls.{clear, report, bucket, show, is_arrival, Reply, refused, rules, result}
use Rattle.ledger.specs.Answers.{number_of, reply_by}
use Rattle.ledger.specs.declared.Refusal.{Refusal}
use Rattle.ledger.proofs.Tests.{true≢false}
use Rattle.ledger.proofs.Steps.{cleared}
use Rattle.layout.specs.Picture.{ledger_in}
use Rattle.memory.specs.Judged.{good, bad, judged}
use Rattle.memory.specs.Writes.{write, refused_mem}
use Rattle.memory.specs.Memory.{acted}

clear_of : (rs : List Rule) → guard rs bad good ≡ good → Clear rs
clear_of [] e = tt
clear_of (refuse n true ∷ rs) e = absurd (let z : ◌≡◌ {A = ℕ} 0 1 = cc in omega arith)
clear_of (refuse n false ∷ rs) e = (refl, clear_of rs e)

first_of : {X : Type 0} (rs : List Rule) (n : ℕ) (no' : ℕ → X) (out : X) → guard rs bad good ≡ bad n → guard rs no' out ≡ no' n
first_of [] n no' out e = absurd (let z : ◌≡◌ {A = ℕ} 0 1 = cc in omega arith)
first_of (refuse k true ∷ rs) n no' out e = ap no' (let i : k ≡ n = cc in i)
first_of (refuse k false ∷ rs) n no' out e = first_of rs n no' out e

-- no rule applies
pub judged_clear : (S : Settings) (L : Ledger) (a : Act) → judged S L a ≡ good → Clear (rules S L a)
unfolding judged
judged_clear S L a e = clear_of (rules S L a) e

-- where none applies the act is done
pub acted_good : (S : Settings) (m : List ℕ) (a : Act) → judged S (ledger_in S m) a ≡ good → acted S m a ≡ ((result S (ledger_in S m) a).0, write S m a)
unfolding acted
acted_good S m a e =
    cleared (rules S (ledger_in S m) a) (λ n. (refused n, refused_mem S n a m)) ((result S (ledger_in S m) a).0, write S m a)
    (judged_clear S (ledger_in S m) a e)

-- else it is refused, and what that writes is written
pub acted_refused : (S : Settings) (m : List ℕ) (a : Act) (n : ℕ) → judged S (ledger_in S m) a ≡ bad n → acted S m a ≡ (refused n, refused_mem S n a m)
unfolding acted judged
acted_refused S m a n e = first_of (rules S (ledger_in S m) a) n (λ k. (refused k, refused_mem S k a m)) ((result S (ledger_in S m) a).0, write S m a) e

-- that is nothing where the act is no arrival
pub kept_else : (S : Settings) (n : ℕ) (a : Act) (m : List ℕ) → is_arrival a ≡ false → refused_mem S n a m ≡ m
unfolding refused_mem
kept_else S n (arrive p h) m i = absurd (true≢false i)
kept_else S n (stitch p) m i = refl
kept_else S n (prefetch p q) m i = refl
kept_else S n (credit p q v) m i = refl
kept_else S n (map_to d p) m i = refl
kept_else S n (turn c p) m i = refl
kept_else S n (ready p) m i = refl
kept_else S n (where_is y) m i = refl
kept_else S n (clear p) m i = refl
kept_else S n (report p) m i = refl
kept_else S n (bucket p b) m i = refl
kept_else S n (show ns p q) m i = refl

pub acted_bad : (S : Settings) (m : List ℕ) (a : Act) → is_arrival a ≡ false → (n : ℕ) → judged S (ledger_in S m) a ≡ bad n → acted S m a ≡ (refused n, m)
acted_bad S m a other n e = acted_refused S m a n e ∙ ap (λ (m' : List ℕ). (refused n, m')) (kept_else S n a m other)

-- a call that hands its judge's refusal on answers what the act does
pub handed_on : {T : Type 0} (said : T → Reply) (S : Settings) (m : List ℕ) (a : Act) (no' : Refusal) (r : Result T Refusal)
    → IsErrAnd r (λ e. e ≡ no') → bad (number_of no') ≡ judged S (ledger_in S m) a → is_arrival a ≡ false → (reply_by said r, m) ≡ acted S m a
handed_on said S m a no' (Ok x) h e other = absurd h
handed_on said S m a no' (Err e') h e other = rw h (sym (acted_bad S m a other (number_of no') (sym e)))
