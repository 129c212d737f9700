-- Ready words on memory, from call to call: what the ledger's laws say of a step is said of the ledgers that memory pictures before an act and
-- after it. Assumes nothing.
use mathlib.Core.Path.{◌≡◌, refl, sym, ap, ◌∙◌}
use mathlib.Core.Logic.{◌≢◌}
use mathlib.Core.Bool.{false}
use mathlib.Core.List.{List}
use Prim.Native.Nat.{ℕ, ◌+◌, ◌*◌, ◌^◌, ◌<◌}
use Rattle.ledger.specs.Settings.{Settings}
use Rattle.ledger.specs.Ledger.{Ledger}
use Rattle.ledger.specs.Ready.{is_ready, bit, ready_word}
use Rattle.ledger.specs.Calls.{Act, Reply, refused, step}
use Rattle.ledger.specs.Desk.{has}
use Rattle.ledger.specs.Sound.{Roomy}
use Rattle.ledger.proofs.Rows.{roomy}
use Rattle.ledger.proofs.Words as steps
use Rattle.layout.specs.declared.shape.Shape.{Shape}
use Rattle.layout.specs.Shapes.{settings_of}
use Rattle.layout.specs.Picture.{settings_in, ledger_in, StateOf}
use Rattle.memory.specs.Memory.{picture, acted}
use Rattle.memory.specs.Judged.{Works}
use Rattle.memory.proofs.Picture.{picture_is}
use Rattle.memory.proofs.Square.{act_keeps}
use Rattle.memory.proofs.Demands.{on_state, then_pictures, on_settings}

-- ---- an act on a state is the ledger's step

module _ (S : Settings) (m : List ℕ) (e : settings_in m ≡ S) (s : StateOf S m) (a : Act) where
  shown : picture m ≡ has S (ledger_in S m)
  shown = picture_is S m (ledger_in S m) e s refl

  -- its answer is
  pub answer_after : (acted S m a).0 ≡ (step S (ledger_in S m) a).0
  answer_after = ap (λ (out : Reply × List ℕ). out.0) (on_settings S m e s a) ∙ on_state m S (ledger_in S m) shown a

  -- and the ledger that the memory pictures after it
  pub ledger_after : ledger_in S (acted S m a).1 ≡ (step S (ledger_in S m) a).1
  ledger_after =
      let k = act_keeps S m e s a in
      let both : has S (ledger_in S (acted S m a).1) ≡ has S (step S (ledger_in S m) a).1 =
      sym (picture_is S (acted S m a).1 (ledger_in S (acted S m a).1) k.settings k.state refl)
      ∙ ap (λ (out : Reply × List ℕ). picture out.1) (on_settings S m e s a)
      ∙ then_pictures m S (ledger_in S m) shown a in
      cc

-- ---- words

module _ (s : Shape) (m : List ℕ) (w : Works s m) where
  abbrev S : Settings
  S = settings_of s

  abbrev L : Ledger
  L = ledger_in S m

  -- the ledger after an act
  abbrev after : Act → Ledger
  after a = ledger_in S (acted S m a).1

  ok : Roomy S
  ok = roomy S w.state.sound.rows

  is_step : (a : Act) → after a ≡ (step S L a).1
  is_step = ledger_after S m (sym w.settings_are) w.state

  -- a port's word stays where no queue of it is touched
  pub word_kept : (a : Act) (r : ℕ) → r < S.ports → ((t : ℕ) → steps.touches S L a r t ≡ false) → ready_word S (after a) r ≡ ready_word S L r
  word_kept a r hr u = rw (is_step a) (steps.word_kept S ok L w.state.sound.orderly a r hr u)

  -- where one queue is touched, one bit of it changes
  pub word_but_one : (a : Act) (r q : ℕ) → r < S.ports → q < S.queues → ((t : ℕ) → t ≢ q → steps.touches S L a r t ≡ false)
      → ready_word S (after a) r + bit (is_ready S L r q) * 2 ^ q ≡ ready_word S L r + bit (is_ready S (after a) r q) * 2 ^ q
  word_but_one a r q hr hq u = rw (is_step a) (steps.word_but_one S ok L w.state.sound.orderly a r q hr hq u)

  -- and a refused act changes no word
  pub word_refused : (a : Act) (n r : ℕ) → (acted S m a).0 ≡ refused n → ready_word S (after a) r ≡ ready_word S L r
  word_refused a n r e =
      rw (is_step a) (steps.word_refused S L a n r (sym (answer_after S m (sym w.settings_are) w.state a) ∙ e))
