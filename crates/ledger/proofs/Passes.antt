-- What is known of an arrival that no refusal turns away, each fact by its name. Proofs take these facts from here and never by their
-- place among the rules, so a rule that comes or moves is paid here. Assumes nothing.
use mathlib.Core.Path.{◌≡◌, refl, ap}
use mathlib.Core.Bool.{true, false, not}
use mathlib.Core.List.{List, [], ◌∷◌, ◌++◌}
use Prim.Native.Nat.{ℕ, ◌≤◌, ◌<◌}
use lib.ListN.{length, take}
use lib.Dec.{eqb, ltb}
use Rattle.crc.specs.Crc.{crc8}
use Rattle.ledger.specs.Settings.{Settings}
use Rattle.ledger.specs.Rules.{Rule, refuse, guard, Clear}
use Rattle.ledger.specs.Header.{Form, form, body_size, header_size, least_length, fields_of, Load, alone, whole, bytes_in, missized, miscounted}
use Rattle.ledger.specs.Header.{arrival_rules}
use Rattle.ledger.specs.Ledger.{free, Ledger, list_at, arrival_of, mark_of}
use Rattle.ledger.specs.Halt.{held_up}
use Rattle.ledger.specs.Calls.{arrive, is_empty, other_kind, wrong_memory, arriving, sound_rules, last_rules, rules}
use Rattle.ledger.proofs.Tests.{true≢false, leb_no, leb_not, ltb_no, ltb_not, eqb_yes, eqb_is, not_yes, or_left, or_right}

-- ---- rules one after another

pub clear_left : (rs ts : List Rule) → Clear (rs ++ ts) → Clear rs
clear_left [] ts c = tt
clear_left (refuse n b ∷ rs) ts c = (c.0, clear_left rs ts c.1)

pub clear_right : (rs ts : List Rule) → Clear (rs ++ ts) → Clear ts
clear_right [] ts c = c
clear_right (refuse n b ∷ rs) ts c = clear_right rs ts c.1

-- the first of them decide, then the others
pub guard_then : {X : Type 0} (rs ts : List Rule) (no' : ℕ → X) (out : X) → guard (rs ++ ts) no' out ≡ guard rs no' (guard ts no' out)
guard_then [] ts no' out = refl
guard_then (refuse n true ∷ rs) ts no' out = refl
guard_then (refuse n false ∷ rs) ts no' out = guard_then rs ts no' out

-- what is made of a decision is decided by the same rules
pub guard_map : {X Y : Type 0} (f : X → Y) (rs : List Rule) (no' : ℕ → X) (out : X) → f (guard rs no' out) ≡ guard rs (λ n. f (no' n)) (f out)
guard_map f [] no' out = refl
guard_map f (refuse n true ∷ rs) no' out = refl
guard_map f (refuse n false ∷ rs) no' out = guard_map f rs no' out

-- where none of the first applies, the others decide
pub guard_after : {X : Type 0} (rs ts : List Rule) (no' : ℕ → X) (out : X) → Clear rs → guard (rs ++ ts) no' out ≡ guard ts no' out
guard_after [] ts no' out c = refl
guard_after (refuse n true ∷ rs) ts no' out c = absurd (true≢false c.0)
guard_after (refuse n false ∷ rs) ts no' out c = guard_after rs ts no' out c.1

-- ---- what arrives with no fault of its own, by headers of form F, at port p of a switch of n queues

pub record Passes (F : Form) (n p : ℕ) (h : Load) : Type 0 where
  pub sized : missized F h ≡ false
  pub summed : (fields_of F (bytes_in h)).check ≡ crc8 (take (body_size F) (bytes_in h))
  pub unreserved : (fields_of F (bytes_in h)).reserved ≡ 0
  pub own : (fields_of F (bytes_in h)).source ≡ p
  pub long : least_length F ≤ (fields_of F (bytes_in h)).len
  pub counted : miscounted F h ≡ false
  pub queue : (fields_of F (bytes_in h)).queue < n

pub same : (a b : ℕ) → not (eqb a b) ≡ false → a ≡ b
same a b e = eqb_yes a b (not_yes (eqb a b) e)

pub not_other : (a b : ℕ) → a ≡ b → not (eqb a b) ≡ false
not_other a b e = ap not (eqb_is a b e)

module _ (F : Form) (n p : ℕ) (h : Load) where
  pub passes : Clear (arrival_rules F n p h) → Passes F n p h
  passes c =
      let f = fields_of F (bytes_in h) in
      record {
        sized = c.0;
        summed = same f.check (crc8 (take (body_size F) (bytes_in h))) c.1.0;
        unreserved = same f.reserved 0 c.1.1.0;
        own = same f.source p c.1.1.1.0;
        long = ltb_no f.len (least_length F) c.1.1.1.1.0;
        counted = c.1.1.1.1.1.0;
        queue = leb_no n f.queue c.1.1.1.1.1.1.0;
      }

  -- and these facts are all that the rules ask
  pub passes_clear : Passes F n p h → Clear (arrival_rules F n p h)
  passes_clear f = (
    f.sized,
    (
      not_other (fields_of F (bytes_in h)).check (crc8 (take (body_size F) (bytes_in h))) f.summed,
      (
        not_other (fields_of F (bytes_in h)).reserved 0 f.unreserved,
        (
          not_other (fields_of F (bytes_in h)).source p f.own,
          (
            ltb_not (fields_of F (bytes_in h)).len (least_length F) f.long,
            (f.counted, (leb_not n (fields_of F (bytes_in h)).queue f.queue, tt)),
          ),
        ),
      ),
    ),
  )

-- a header alone has its form's size; a packet has a header, and as many bytes as its length says
pub alone_sized : (F : Form) (n p : ℕ) (h : List ℕ) → Passes F n p (alone h) → length h ≡ header_size F
alone_sized F n p h f = same (length h) (header_size F) f.sized

module _ (F : Form) (n p room : ℕ) (b : List ℕ) (f : Passes F n p (whole room b)) where
  pub whole_sized : header_size F ≤ length b
  whole_sized = ltb_no (length b) (header_size F) f.sized

  pub whole_counted : length b ≡ (fields_of F b).len
  whole_counted = same (length b) (fields_of F b).len f.counted

-- ---- an arrival that is sound, and one that is taken in

-- of its own kind, with a packet memory of the right size where one is lent, at a port of the switch, with no fault of its own
pub record Comes (S : Settings) (p : ℕ) (h : Load) : Type 0 where
  pub kind : other_kind S h ≡ false
  pub memory : wrong_memory S h ≡ false
  pub port : p < S.ports
  pub header : Passes (form S) S.queues p h

pub comes : (S : Settings) (p : ℕ) (h : Load) → Clear (sound_rules S p h) → Comes S p h
comes S p h c = record {
  kind = c.0;
  memory = c.1.0;
  port = leb_no S.ports p c.1.1.0;
  header = passes (form S) S.queues p h c.1.1.1;
}

pub comes_clear : (S : Settings) (p : ℕ) (h : Load) → Comes S p h → Clear (sound_rules S p h)
comes_clear S p h f = (f.kind, (f.memory, (leb_not S.ports p f.port, passes_clear (form S) S.queues p h f.header)))

pub record Admits (S : Settings) (L : Ledger) (p : ℕ) (h : Load) : Type 0 where
  pub sound : Comes S p h
  pub port : p < S.ports
  pub header : Passes (form S) S.queues p h
  pub is_going_on : held_up (arriving S L p h).queue (mark_of L p) ≡ false
  pub afford : (arriving S L p h).price ≤ arrival_of S L p (arriving S L p h).queue
  pub some : is_empty (list_at S L (free p)) ≡ false

pub admits : (S : Settings) (L : Ledger) (p : ℕ) (h : Load) → Clear (rules S L (arrive p h)) → Admits S L p h
admits S L p h c =
    let k = arriving S L p h in
    let held = held_up k.queue (mark_of L p) in
    let dear = ltb (arrival_of S L p k.queue) k.price in
    let first = comes S p h (clear_left (sound_rules S p h) (last_rules S L p k) c) in
    let last : Clear (last_rules S L p k) = clear_right (sound_rules S p h) (last_rules S L p k) c in
    record {
      sound = first;
      port = first.port;
      header = first.header;
      is_going_on = or_left held dear last.0;
      afford = ltb_no (arrival_of S L p k.queue) k.price (or_right held dear last.0);
      some = last.1.0;
    }
