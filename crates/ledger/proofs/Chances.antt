-- A round has a chance for every line in which a packet stands: its prefetches fill the slots before its turns. Assumes nothing.
use mathlib.Core.Path.{◌≡◌, refl, sym, ap, ◌∙◌}
use mathlib.Core.Logic.{◌⊎◌, inl, inr}
use mathlib.Core.Bool.{Bool, true, false, not, ◌&&◌}
use mathlib.Core.List.{List, [], ◌∷◌, ◌++◌, map}
use Prim.Native.Nat.{ℕ, zero, suc, ◌+◌, ◌≤◌, ◌<◌}
use native.Mathlib.Nat.{not-suc-le-zero}
use native.Mathlib.Omega.{arith}
use native.Mathlib.Decide.{dec_le, ℕ_discrete}
use lib.ListN.{length}
use lib.Dec.{ltb}
use Rattle.ledger.specs.Settings.{Settings}
use Rattle.ledger.specs.Ledger.{Packet, egress, prefetched, Ledger, list_at}
use Rattle.ledger.specs.Buckets.{untimed}
use Rattle.ledger.specs.Ready.{bit}
use Rattle.ledger.specs.Calls.{Act, stitch, prefetch, turn, is_empty, first_of, step, run}
use Rattle.ledger.specs.Desk.{act}
use Rattle.ledger.specs.Sound.{All, Orderly, Roomy}
use Rattle.ledger.specs.Demand.{is_turn, turns_in}
use Rattle.ledger.specs.Rounds.{each, stitches, prefetches, turns, round_acts, whole_round}
use Rattle.ledger.specs.Door.{line_of}
use Rattle.ledger.proofs.Tests.{true≢false, leb_not, eqb_is, eqb_not, ltb_is, ltb_not}
use Rattle.ledger.proofs.Lists.{All-append}
use Rattle.ledger.proofs.Keep.{to_moved}
use Rattle.ledger.proofs.Steps.{keep_step, keep_run, step_clear}
use Rattle.ledger.proofs.Walk.{count_in, count_append}
use Rattle.ledger.proofs.Line.{is_chance, some_slots_step, some_line_step}

-- ---- what a round holds

abbrev pub Among : Act → List Act → Type 0
Among a [] = ⊥
Among a (b ∷ acts) = (b ≡ a) ⊎ Among a acts

pub among_left : (a : Act) (xs ys : List Act) → Among a xs → Among a (xs ++ ys)
among_left a [] ys h = absurd h
among_left a (x ∷ xs) ys (inl e) = inl e
among_left a (x ∷ xs) ys (inr h) = inr (among_left a xs ys h)

among_right : (a : Act) (xs ys : List Act) → Among a ys → Among a (xs ++ ys)
among_right a [] ys h = h
among_right a (x ∷ xs) ys h = inr (among_right a xs ys h)

pub among_each : (a : Act) (f : ℕ → List Act) (n i : ℕ) → i < n → Among a (f i) → Among a (each f n)
among_each a f zero i h o = absurd (not-suc-le-zero h)
among_each a f (suc n) i h o = go (ℕ_discrete i n) (among_each a f n i)
  where
    go : Dec (i ≡ n) → (i < n → Among a (f i) → Among a (each f n)) → Among a (each f n ++ f n)
    go (yes e) rec = among_right a (each f n) (f n) (rw e at o)
    go (no e) rec = among_left a (each f n) (f n) (rec (omega arith) o)

pub all_each : (P : Act → Type 0) (f : ℕ → List Act) (n : ℕ) → ((i : ℕ) → All P (f i)) → All P (each f n)
all_each P f zero h = tt
all_each P f (suc n) h = All-append P (each f n) (f n) (all_each P f n h) (h n)

-- no act is a turn of port p
abbrev pub Quiet : ℕ → List Act → Type 0
Quiet p acts = All (λ a. is_turn p a ≡ false) acts

pub quiet_stitches : (S : Settings) (p : ℕ) → Quiet p (stitches S)
quiet_stitches S p = all_each (λ a. is_turn p a ≡ false) (λ r. stitch r ∷ []) S.ports (λ r. (refl, tt))

pub quiet_prefetches : (S : Settings) (p : ℕ) → Quiet p (prefetches S)
quiet_prefetches S p =
    all_each (λ a. is_turn p a ≡ false) (λ r. each (λ t. prefetch r t ∷ []) S.queues) S.ports
    (λ r. all_each (λ a. is_turn p a ≡ false) (λ t. prefetch r t ∷ []) S.queues (λ t. (refl, tt)))

-- ---- a round has a chance: its prefetches fill the slots before its turn

abbrev pub chances_of : Settings → ℕ → ℕ → Ledger → List Act → ℕ
chances_of S p q L acts = count_in S (is_chance S p q) L acts

module _ (S : Settings) (ok : Roomy S) (p q : ℕ) (hp : p < S.ports) (hq : q < S.queues) where
  -- somebody stands in the line; somebody stands in the slots
  abbrev pub Line-some : Ledger → Type 0
  Line-some L = is_empty (line_of S L p q) ≡ false

  abbrev Slots-some : Ledger → Type 0
  Slots-some L = is_empty (list_at S L (prefetched p q)) ≡ false

  -- what every quiet act keeps, quiet acts keep
  kept : (P : Ledger → Type 0) → ((L : Ledger) → Orderly S L → (a : Act) → is_turn p a ≡ false → P L → P (step S L a).1)
      → (acts : List Act) → Quiet p acts → (L : Ledger) → Orderly S L → P L → P (run S L acts)
  kept P f [] h L s e = e
  kept P f (a ∷ acts) h L s e = kept P f acts h.1 (step S L a).1 (keep_step S ok L s a) (f L s a h.0 e)

  -- empty slots take in the first of the egress list
  fills : (L : Ledger) → Orderly S L → Line-some L → Slots-some (step S L (prefetch p q)).1
  fills L s e = go (list_at S L (prefetched p q)) refl
    where
      back : List Packet
      back = list_at S L (egress p q)

      go : (xs : List Packet) → list_at S L (prefetched p q) ≡ xs → Slots-some (step S L (prefetch p q)).1
      go (x ∷ xs) i = some_slots_step S ok p q hp hq L s (prefetch p q) refl (ap is_empty i)
      go [] i =
          let some : is_empty back ≡ false = ap (λ (xs : List Packet). is_empty (xs ++ back)) (sym i) ∙ e in
          let few : length (list_at S L (prefetched p q)) < S.slots = omega (arith, ap length i, ok.some_slots) in
          let d = step_clear S L (prefetch p q)
          (leb_not S.ports p hp, (leb_not S.queues q hq, (some, (leb_not S.slots _ few, tt)))) in
          let to = to_moved S ok L s (egress p q) (hp, hq) some (prefetched p q) (hp, hq) (first_of S L (egress p q)) refl
          (λ j. let o : ◌≡◌ {A = ℕ} 0 1 = cc in omega arith) in
          rw d (ap is_empty (to ∙ ap (λ (xs : List Packet). xs ++ (first_of S L (egress p q) ∷ [])) i))

  filled : (acts : List Act) → Quiet p acts → Among (prefetch p q) acts → (L : Ledger) → Orderly S L → Line-some L
      → Slots-some (run S L acts)
  filled [] h o L s e = absurd o
  filled (a ∷ acts) h (inl i) L s e =
      kept Slots-some (λ M. some_slots_step S ok p q hp hq M) acts h.1 (step S L a).1 (keep_step S ok L s a)
      (rw i (fills L s e))
  filled (a ∷ acts) h (inr o) L s e =
      filled acts h.1 o (step S L a).1 (keep_step S ok L s a) (some_line_step S ok p q hp hq L s a h.0 e)

  -- with the slots not empty, the next turn of port p, not timed as a round's, is a chance
  next_turn : (acts : List Act) → Among (turn untimed p) acts → (L : Ledger) → Orderly S L → Slots-some L → 1 ≤ chances_of S p q L acts
  next_turn [] o L s e = absurd o
  next_turn (a ∷ acts) o L s e = go (is_turn p a) refl o (λ h. next_turn acts h (step S L a).1 (keep_step S ok L s a))
    where
      next : Ledger
      next = (step S L a).1

      go : (b : Bool) → is_turn p a ≡ b → (a ≡ turn untimed p) ⊎ Among (turn untimed p) acts
          → (Among (turn untimed p) acts → Slots-some next → 1 ≤ chances_of S p q next acts)
          → 1 ≤ bit (b && not (is_empty (list_at S L (prefetched p q)))) + chances_of S p q next acts
      go true i h rec = rw e (omega arith)
      go false i (inl j) rec = absurd (true≢false (sym (ap (is_turn p) j ∙ eqb_is p p refl) ∙ i))
      go false i (inr h) rec = omega (arith, rec h (some_slots_step S ok p q hp hq L s a i e))

  -- a round's prefetches and turns, after quiet acts
  pub chance_after : (acts : List Act) → Quiet p acts → (L : Ledger) → Orderly S L → Line-some L
      → 1 ≤ chances_of S p q L (acts ++ (prefetches S ++ turns S))
  chance_after acts h L s e =
      let M : Ledger = run S L acts in
      let u = keep_run S ok L s acts in
      let full : Slots-some (run S M (prefetches S)) =
      filled (prefetches S) (quiet_prefetches S p)
      (among_each (prefetch p q) (λ r. each (λ t. prefetch r t ∷ []) S.queues) S.ports p hp
      (among_each (prefetch p q) (λ t. prefetch p t ∷ []) S.queues q hq (inl refl)))
      M u (kept Line-some (λ N. some_line_step S ok p q hp hq N) acts h L s e) in
      let our_turn = among_each (turn untimed p) (λ r. turn untimed r ∷ []) S.ports p hp (inl refl) in
      omega (
        arith,
        count_append S (is_chance S p q) L acts (prefetches S ++ turns S),
        count_append S (is_chance S p q) M (prefetches S) (turns S),
        next_turn (turns S) our_turn (run S M (prefetches S)) (keep_run S ok M u (prefetches S)) full,
      )

  pub some_line : (L : Ledger) (ahead : List Packet) (k : Packet) (behind : List Packet) → line_of S L p q ≡ ahead ++ (k ∷ behind)
      → Line-some L
  some_line L ahead k behind e = ap is_empty e ∙ go ahead
    where
      go : (ys : List Packet) → is_empty (ys ++ (k ∷ behind)) ≡ false
      go [] = refl
      go (y ∷ ys) = refl

  pub round_has_chance : (L : Ledger) → Orderly S L → Line-some L → 1 ≤ chances_of S p q L (round_acts S)
  unfolding round_acts
  round_has_chance L s e = chance_after (stitches S) (quiet_stitches S p) L s e

-- ---- a round has one turn of each port, so demand 3 counts it as one

module _ (p : ℕ) where
  turns_append : (xs ys : List Act) → turns_in p (map act (xs ++ ys)) ≡ turns_in p (map act xs) + turns_in p (map act ys)
  turns_append [] ys = omega arith
  turns_append (a ∷ xs) ys = omega (arith, turns_append xs ys)

  quiet_none : (acts : List Act) → Quiet p acts → turns_in p (map act acts) ≡ 0
  quiet_none [] h = refl
  quiet_none (a ∷ acts) h = let z : bit (is_turn p a) ≡ 0 = rw h.0 in omega (arith, quiet_none acts h.1)

  one_each : (n : ℕ) → turns_in p (map act (each (λ r. turn untimed r ∷ []) n)) ≡ bit (ltb p n)
  one_each zero = rw (ltb_not p 0 (omega arith))
  one_each (suc n) = turns_append (each (λ r. turn untimed r ∷ []) n) (turn untimed n ∷ []) ∙ go (ℕ_discrete n p) (one_each n)
    where
      before : ℕ
      before = turns_in p (map act (each (λ r. turn untimed r ∷ []) n))

      go : Dec (n ≡ p) → before ≡ bit (ltb p n) → before + turns_in p (map act (turn untimed n ∷ [])) ≡ bit (ltb p (suc n))
      go (yes e) rec = rw (rec, eqb_is n p e, ltb_not p n (omega arith), ltb_is p (suc n) (omega arith)) (omega arith)
      go (no e) rec = rw (rec, eqb_not n p e) (omega (arith, same (dec_le (suc p) n)))
        where
          same : Dec (suc p ≤ n) → bit (ltb p n) ≡ bit (ltb p (suc n))
          same (yes h) = rw (ltb_is p n h, ltb_is p (suc n) (omega arith))
          same (no h) = rw (ltb_not p n (omega arith), ltb_not p (suc n) (omega arith))

  pub round_has_one_turn : (S : Settings) → p < S.ports → turns_in p (whole_round S).calls ≡ 1
  unfolding round_acts
  round_has_one_turn S hp =
      let last : turns_in p (map act (turns S)) ≡ 1 = one_each S.ports ∙ ap bit (ltb_is p S.ports hp) in
      omega (
        arith,
        turns_append (stitches S) (prefetches S ++ turns S),
        turns_append (prefetches S) (turns S),
        quiet_none (stitches S) (quiet_stitches S p),
        quiet_none (prefetches S) (quiet_prefetches S p),
        last,
      )
