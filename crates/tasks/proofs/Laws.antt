-- What the acts of a run do to the words that it keeps, with no code. Assumes nothing.
use mathlib.Core.Path.{◌≡◌, refl, sym, ap, ◌∙◌, subst}
use mathlib.Core.Bool.{true, false, ◌&&◌}
use mathlib.Core.List.{List, [], ◌∷◌}
use Rattle.std.specs.Prelude.{Result, Ok, Err, is_ok}
use Prim.Native.Nat.{ℕ, ◌≤◌, ◌<◌}
use native.Mathlib.Omega.{arith}
use lib.Dec.{eqb, leb}
use Rattle.ledger.specs.Settings.{Settings}
use Rattle.ledger.specs.Ledger.{Packet, Ledger, last_of}
use Rattle.ledger.specs.Buckets.{untimed}
use Rattle.ledger.specs.Calls.{Act, prefetch, credit, turn, Reply, refused, done, entry, idle, leaves, side_of, rules, result}
use Rattle.ledger.specs.Answers.{number_of, reply_by, plain_reply, entry_reply}
use Rattle.ledger.specs.declared.EntryId.{EntryId}
use Rattle.ledger.specs.declared.Refusal.{Refusal}
use Rattle.ledger.specs.Ready.{ready_word, pick}
use Rattle.ledger.specs.Rounds.{answer_bytes}
use Rattle.ledger.proofs.Tests.{leb_is, leb_not, leb_no, eqb_is, eqb_not, or_left}
use Rattle.ledger.proofs.Steps.{guarded}
use Rattle.ledger.proofs.Words.{touches}
use Rattle.layout.specs.declared.shape.Shape.{Shape}
use Rattle.layout.specs.Shapes.{settings_of}
use Rattle.layout.specs.Picture.{ledger_in}
use Rattle.memory.specs.Writes.{refused_mem, write}
use Rattle.memory.specs.Judged.{Works}
use Rattle.memory.specs.Memory.{acted}
use Rattle.memory.proofs.Rounds.{works_after}
use Rattle.words.specs.declared.Words.{Words}
use Rattle.words.specs.Kept.{Kept, Stale}
use Rattle.words.proofs.Laws.{kept_untouched, kept_refused, stale}
use Rattle.tasks.specs.Tasks.{Going, Done}

module _ (s : Shape) (m : List ℕ) (words : Words) (g : Going s m words) where
  abbrev S : Settings
  S = settings_of s

  abbrev L : Ledger
  L = ledger_in S m

  abbrev after : Act → List ℕ
  after a = (acted S m a).1

  -- an act that touches queue q of port p, and no other
  touched : (a : Act) (p q : ℕ) → p < s.ports → q < s.queues → ((r t : ℕ) → touches S L a r t ≡ (eqb p r && eqb q t))
      → (m' : List ℕ) → m' ≡ after a → Stale s p q m' words
  touched a p q hp hq is m' e =
      subst (λ (l : List ℕ). Stale s p q l words) (sym e)
      (stale s m g.works words g.kept a p q hp hq
      (λ r t d. is r t ∙ rw (eqb_not p r (λ i. d (sym i))))
      (λ t d. is p t ∙ rw (eqb_is p p refl, eqb_not q t (λ i. d (sym i)))))

  -- the run can go on after an act that touches none, and after one that is refused
  pub going_untouched : (a : Act) → ((r t : ℕ) → touches S L a r t ≡ false) → Going s (after a) words
  going_untouched a u = record { works = works_after s m a g.works; kept = kept_untouched s m g.works words g.kept a u }

  pub going_refused : (a : Act) (n : ℕ) → (acted S m a).0 ≡ refused n → Going s (after a) words
  going_refused a n e = record { works = works_after s m a g.works; kept = kept_refused s m g.works words g.kept a n e }

  -- ---- a prefetch and a credit that are done are of a queue of the switch

  prefetch_in : (p q x : ℕ) → (acted S m (prefetch p q)).0 ≡ entry x → (p < s.ports) × (q < s.queues)
  unfolding acted
  prefetch_in p q x =
      guarded {X = Reply × List ℕ} (λ out. out.0 ≡ entry x → (p < s.ports) × (q < s.queues)) (rules S L (prefetch p q))
      (λ n. (refused n, refused_mem S n (prefetch p q) m)) ((result S L (prefetch p q)).0, write S m (prefetch p q))
      (λ n e. absurd (let z : ◌≡◌ {A = ℕ} 0 1 = cc in omega arith))
      (λ c e. (leb_no s.ports p c.0, leb_no s.queues q c.1.0))

  pub prefetch_stale : (p q : ℕ) (r : Result EntryId Refusal) (m' : List ℕ) → is_ok r ≡ true → (entry_reply r, m') ≡ acted S m (prefetch p q)
      → Stale s p q m' words
  prefetch_stale p q (Ok x) m' k e =
      let i = prefetch_in p q x.0 (sym (ap (λ (o : Reply × List ℕ). o.0) e)) in
      touched (prefetch p q) p q i.0 i.1 (λ r t. refl) m' (ap (λ (o : Reply × List ℕ). o.1) e)
  prefetch_stale p q (Err n) m' k e = cc

  credit_in : (p q n : ℕ) → (acted S m (credit p q n)).0 ≡ done → (p < s.ports) × (q < s.queues)
  unfolding acted
  credit_in p q n =
      guarded {X = Reply × List ℕ} (λ out. out.0 ≡ done → (p < s.ports) × (q < s.queues)) (rules S L (credit p q n))
      (λ r. (refused r, refused_mem S r (credit p q n) m)) ((result S L (credit p q n)).0, write S m (credit p q n))
      (λ r e. absurd (let z : ◌≡◌ {A = ℕ} 0 1 = cc in omega arith))
      (λ c e. (leb_no s.ports p c.0, leb_no s.queues q (or_left (leb s.queues q) (eqb q 0) c.1.0)))

  pub credit_stale : (p q n : ℕ) (r : Result Unit Refusal) (m' : List ℕ) → is_ok r ≡ true → (plain_reply r, m') ≡ acted S m (credit p q n)
      → Stale s p q m' words
  credit_stale p q n (Ok u) m' k e =
      let i = credit_in p q n (sym (ap (λ (o : Reply × List ℕ). o.0) e)) in
      touched (credit p q n) p q i.0 i.1 (λ r t. refl) m' (ap (λ (o : Reply × List ℕ). o.1) e)
  credit_stale p q n (Err no') m' k e = cc

  -- ---- a turn

  -- one that finds a word touches the queue that it picks
  pub turn_stale : (p q : ℕ) → p < s.ports → q < s.queues → q ≡ pick (last_of L p) (ready_word S L p) → (m' : List ℕ) → m' ≡ after (turn untimed p)
      → Stale s p q m' words
  turn_stale p q hp hq e = touched (turn untimed p) p q hp hq (λ r t. ap (λ (n : ℕ). eqb p r && eqb n t) (sym e))

  -- ---- what is done, as the code has it: refused, or of an act that touches no queue

  pub done_refused : (a : Act) (n : ℕ) {m' bytes : List ℕ} → (refused n, m') ≡ acted S m a → bytes ≡ answer_bytes (refused n)
      → Done s a m m' words bytes
  done_refused a n e b =
      let is = ap (λ (o : Reply × List ℕ). o.1) e in
      record {
        told = b ∙ ap (λ (o : Reply × List ℕ). answer_bytes o.0) e;
        memory = is;
        going = subst (λ (l : List ℕ). Going s l words) (sym is) (going_refused a n (sym (ap (λ (o : Reply × List ℕ). o.0) e)));
      }

  pub done_not : {T : Type 0} (said : T → Reply) (a : Act) (r : Result T Refusal) {m' bytes : List ℕ} → is_ok r ≡ false
      → (reply_by said r, m') ≡ acted S m a → bytes ≡ answer_bytes (reply_by said r) → Done s a m m' words bytes
  done_not said a (Ok x) k e b = cc
  done_not said a (Err n) k e b = done_refused a (number_of n) e b

  pub done_untouched : (a : Act) (reply : Reply) {m' bytes : List ℕ} → (reply, m') ≡ acted S m a → bytes ≡ answer_bytes reply
      → ((r t : ℕ) → touches S L a r t ≡ false) → Done s a m m' words bytes
  done_untouched a reply e b u =
      let is = ap (λ (o : Reply × List ℕ). o.1) e in
      record {
        told = b ∙ ap (λ (o : Reply × List ℕ). answer_bytes o.0) e;
        memory = is;
        going = subst (λ (l : List ℕ). Going s l words) (sym is) (going_untouched a u);
      }

-- and of one after which the words were made right again
pub done_renewed : (s : Shape) (m : List ℕ) → Works s m → (a : Act) (reply : Reply) {m' bytes : List ℕ} {words : Words}
    → (reply, m') ≡ acted (settings_of s) m a → bytes ≡ answer_bytes reply → Kept s m' words → Done s a m m' words bytes
done_renewed s m w a reply e b k =
    let is = ap (λ (o : Reply × List ℕ). o.1) e in
    record {
      told = b ∙ ap (λ (o : Reply × List ℕ). answer_bytes o.0) e;
      memory = is;
      going = record { works = subst (Works s) (sym is) (works_after s m a w); kept = k };
    }

-- a turn of no port is refused, and an idle one leaves the memory
pub turn_no_port : (S : Settings) (m : List ℕ) (p : ℕ) → S.ports ≤ p → (refused 4, m) ≡ acted S m (turn untimed p)
unfolding acted refused_mem
turn_no_port S m p h = rw (leb_is S.ports p h)

pub done_idle : (s : Shape) (m : List ℕ) (words : Words) → Works s m → Kept s m words → (p : ℕ) → p < s.ports
    → ready_word (settings_of s) (ledger_in (settings_of s) m) p ≡ 0 → Done s (turn untimed p) m m words (0 ∷ 1 ∷ 0 ∷ 0 ∷ [])
unfolding answer_bytes acted
done_idle s m words w k p hp z = done_renewed s m w (turn untimed p) idle (rw (leb_not s.ports p hp, z)) refl k

-- what leaves is told by its node
pub leaves_told : (k : Packet) (q : ℕ) → answer_bytes (entry k.node) ≡ answer_bytes (leaves k (side_of q))
unfolding answer_bytes
leaves_told k q = refl

-- ---- the task that the code found

pub as_task : (s : Shape) (a a' : Act) {m m' bytes : List ℕ} {words : Words} → a ≡ a' → Done s a' m m' words bytes → Done s a m m' words bytes
as_task s a a' {m = m} {m' = m'} {bytes = bytes} {words = words} e d =
    subst (λ (b : Act). Done s b m m' words bytes) (sym e) d
