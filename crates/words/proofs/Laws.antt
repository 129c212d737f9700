-- How words stay right, with no code: what an act leaves of those that are kept. Assumes nothing.
use mathlib.Core.Path.{◌≡◌, sym, ap, ◌∙◌}
use mathlib.Core.Logic.{◌≢◌}
use mathlib.Core.Bool.{false}
use mathlib.Core.List.{List}
use Rattle.std.specs.Prelude.{Option, None}
use Prim.Native.Nat.{ℕ, ◌*◌, ◌/◌, ◌%◌, ◌^◌, ◌<◌}
use native.Mathlib.Omega.{arith}
use lib.ListN.{get_or, replicate, get_or-replicate}
use Rattle.std.proofs.lemmas.List.{get_or_past}
use Rattle.std.proofs.lemmas.Grind.{common_steps}
use Rattle.ledger.specs.Settings.{Settings}
use Rattle.ledger.specs.Ledger.{Ledger}
use Rattle.ledger.specs.Calls.{Act, refused}
use Rattle.ledger.specs.Ready.{is_ready, ready_word}
use Rattle.ledger.proofs.Ready.{word_bit}
use Rattle.ledger.proofs.Words.{touches}
use Rattle.layout.specs.declared.shape.Shape.{Shape}
use Rattle.layout.specs.Shapes.{settings_of}
use Rattle.layout.specs.Picture.{ledger_in}
use Rattle.memory.specs.Judged.{Works}
use Rattle.memory.specs.Memory.{acted}
use Rattle.memory.proofs.Rounds.{works_after}
use Rattle.memory.proofs.Words.{word_kept, word_but_one, word_refused}
use Rattle.words.specs.declared.Words.{Words}
use Rattle.words.specs.Kept.{Kept, Stale}

module _ (s : Shape) (m : List ℕ) (w : Works s m) (words : Words) (k : Kept s m words) (a : Act) where
  abbrev S : Settings
  S = settings_of s

  abbrev L : Ledger
  L = ledger_in S m

  abbrev m' : List ℕ
  m' = (acted S m a).1

  -- an act that touches no queue
  pub kept_untouched : ((r t : ℕ) → touches S L a r t ≡ false) → Kept s m' words
  kept_untouched u = record { right = λ r hr v i. k.right r hr v i ∙ sym (word_kept s m w a r hr (u r)) }

  -- and one that is refused
  pub kept_refused : (n : ℕ) → (acted S m a).0 ≡ refused n → Kept s m' words
  kept_refused n e = record { right = λ r hr v i. k.right r hr v i ∙ sym (word_refused s m w a n r e) }

  -- an act that touches queue q of port p alone
  pub stale : (p q : ℕ) → p < s.ports → q < s.queues
      → ((r t : ℕ) → r ≢ p → touches S L a r t ≡ false) → ((t : ℕ) → t ≢ q → touches S L a p t ≡ false)
      → Stale s p q m' words
  unfolding ready_word
  stale p q hp hq elsewhere beside = record {
    works = works_after s m a w;
    port = hp;
    queue = hq;
    others = λ r hr d v i. k.right r hr v i ∙ sym (word_kept s m w a r hr (λ t. elsewhere r t d));
    ours = λ v i.
        let is = k.right p hp v i in
        let old = ap (λ (x : ℕ). x / 2 ^ q % 2 * 2 ^ q) is ∙ ap (λ (b : ℕ). b * 2 ^ q) (word_bit (is_ready S L p) s.queues q hq) in
        omega (arith, old, is, word_but_one s m w a p q hp hq beside);
  }

-- none is made at first
none_at : (n r : ℕ) → get_or {A = Option ℕ} (replicate n None) r None ≡ None
none_at n r = grind (arith, common_steps, get_or-replicate {A = Option ℕ}, get_or_past {X = Option ℕ})

pub none_kept : (s : Shape) (m : List ℕ) → Kept s m (record { made = replicate 32 None })
none_kept s m = record { right = λ r hr v e. let z = none_at 32 r in cc }
