-- Demand 3: nobody starves. In the line it is the case of a packet that stands in the slots, where every turn of its port is a chance.
-- Assumes nothing.
use mathlib.Core.Path.{◌≡◌, refl, sym, ap, ap₂, ◌∙◌, subst}
use mathlib.Core.Bool.{Bool, true, false, ◌&&◌}
use mathlib.Core.List.{List, [], ◌∷◌, ◌++◌, append_assoc}
use Prim.Native.Nat.{ℕ, ◌+◌, ◌*◌, ◌≤◌, ◌<◌}
use native.Mathlib.Nat.{le_of_suc-le-suc, not-suc-le-zero}
use native.Mathlib.Omega.{arith}
use lib.ListN.{length, drop, take, length-append}
use Rattle.ledger.specs.Settings.{Settings, ten_bytes}
use Rattle.ledger.specs.Ledger.{Packet, egress, prefetched, Ledger, list_at}
use Rattle.ledger.specs.Ready.{bit}
use Rattle.ledger.specs.Calls.{Act, turn, Reply, is_empty, step}
use Rattle.ledger.specs.Desk.{Desk, has, Call, setup, act, desk, after_calls, SetupsRefused}
use Rattle.ledger.specs.Sound.{Roomy, Orderly, Sound}
use Rattle.ledger.specs.Demand.{is_turn, Stands, turns_in, ShowsWaiting, NobodyStarvesFrom, NobodyStarvesAtDesk, NobodyStarvesAtDesk24}
use Rattle.ledger.proofs.Rows.{roomy, ten_byte_counts}
use Rattle.ledger.proofs.Courses.{first_refused, Faithful, act_answer, act_shows, refused_shows, desk_faithful}
use Rattle.ledger.proofs.Walk.{Does, ends, nears, Course, Standing, count_calls, comes_in}
use Rattle.ledger.proofs.Line.{is_chance, Leaving, Waits, waits_some, waits_move, waits_from}

-- what stands within the first of two lists stands in that list
first_part : (k : Packet) (xs ys zs bs : List Packet) → xs ++ ys ≡ zs ++ (k ∷ bs) → length zs < length xs
    → (cs : List Packet) × (xs ≡ zs ++ (k ∷ cs))
first_part k [] ys zs bs e h = absurd (not-suc-le-zero h)
first_part k (x ∷ xs) ys [] bs e h = (xs, cc)
first_part k (x ∷ xs) ys (z ∷ zs) bs e h =
    let o = first_part k xs ys zs bs (ap (λ (l : List Packet). drop 1 l) e) (le_of_suc-le-suc h) in
    let i : x ≡ z = cc in
    (o.0, ap₂ (λ (y : Packet) (l : List Packet). y ∷ l) i o.1)

some_in : (xs : List Packet) (n : ℕ) → n < length xs → is_empty xs ≡ false
some_in [] n h = absurd (not-suc-le-zero h)
some_in (x ∷ xs) n h = refl

-- ---- the wait of a packet in the slots

module _ (S : Settings) (ok : Roomy S) (p q : ℕ) (hp : p < S.ports) (hq : q < S.queues) (k : Packet) where
  -- packet k waits, and in the slots
  abbrev Slotted : ℕ → Ledger → Type 0
  Slotted n L = Waits S ok p q hp hq 0 k n L

  in_slots : (n : ℕ) (L : Ledger) → Slotted n L → (ahead : List Packet) × Stands S p q k ahead L
  in_slots n L v =
      let near : length v.ahead < length (list_at S L (prefetched p q)) = omega (arith, v.within) in
      let o = first_part k (list_at S L (prefetched p q)) (list_at S L (egress p q)) v.ahead v.behind v.stands near in
      (v.ahead, record { behind = o.0; there = o.1 })

  -- then every turn of the port is a chance
  each_turn : (n : ℕ) (L : Ledger) → Slotted n L → (a : Act) → bit (is_turn p a) ≤ bit (is_chance S p q L a)
  each_turn n L w a = rw (some_in (list_at S L (prefetched p q)) (length w.ahead) (omega (arith, w.within))) (go (is_turn p a))
    where
      go : (b : Bool) → bit b ≤ bit (b && true)
      go true = omega arith
      go false = omega arith

  turn_course : Course S Slotted (λ L a. is_turn p a) (Leaving S p q k)
  turn_course = record { some = waits_some S ok p q hp hq 0 k; moves = λ n L s w a. go n L w a (waits_move S ok p q hp hq 0 k n L s w a) }
    where
      go : (n : ℕ) (L : Ledger) → Slotted n L → (a : Act) → Does S Slotted (is_chance S p q) (Leaving S p q k) n L a
          → Does S Slotted (λ L a. is_turn p a) (Leaving S p q k) n L a
      go n L w a (ends e) = ends e
      go n L w a (nears m h v) = nears m (omega (arith, h, each_turn n L w a)) v

-- ---- over calls, on whatever answers and shows as the desk does

module _ {X : Type 0} (call : X → Call → Reply × X) (shows : X → Desk) (long : X → ℕ) (faithful : Faithful call shows long) (S : Settings) where
  -- all turns of the port count
  turns_counted : (p : ℕ) (x : X) (L : Ledger) → shows x ≡ has S L → (cs : List Call) → SetupsRefused call x cs
      → count_calls call shows (λ M a. is_turn p a) x cs ≡ turns_in p cs
  turns_counted p x L e [] f = refl
  turns_counted p x L e (setup T ∷ cs) f =
      let same = refused_shows call shows long faithful S x (setup T) refl (f.0 refl) in
      ap (λ (n : ℕ). 0 + n) (turns_counted p (call x (setup T)).1 L (same ∙ e) cs f.1)
  turns_counted p x L e (act a ∷ cs) f =
      let o = turns_counted p (call x (act a)).1 (step S L a).1 (act_shows call shows long faithful S x L e a) cs f.1 in
      rw e (ap (λ (n : ℕ). bit (is_turn p a) + n) o)

  pub nobody_starves_from : Roomy S → (x : X) (L : Ledger) → shows x ≡ has S L → Orderly S L
      → NobodyStarvesFrom call shows S L S.ports S.queues x
  nobody_starves_from ok x L e s p q hp hq ahead k there hand cs f h =
      let back : List Packet = list_at S L (egress p q) in
      let line = ap (λ (l : List Packet). l ++ back) there.there ∙ append_assoc ahead (k ∷ there.behind) back in
      let w = waits_from S ok p q hp hq 0 k L ahead (there.behind ++ back) line
      (omega (arith, ap length there.there, length-append ahead (k ∷ there.behind))) hand in
      let o = comes_in call shows long faithful S ok _ _ _ (turn_course S ok p q hp hq k) cs (S.queues * (length ahead + 1)) x f
      (record { ledger = L; shown = e; orderly = s; waits = w }) (omega (arith, turns_counted p x L e cs f)) in
      let first : List Call = take o.moment cs in
      record {
        moment = o.moment;
        among = o.among;
        soon = omega (arith, o.soon, turns_counted p x L e first (first_refused call x cs f o.moment));
        clock = o.event.clock;
        a_turn = o.is_that ∙ ap act o.event.a_turn;
        it_leaves =
            act_answer call shows long faithful S (after_calls call x first) o.found o.shown (turn o.event.clock p)
            ∙ ap (λ (a : Act). (step S o.found a).0) (sym o.event.a_turn)
            ∙ o.event.it_leaves;
        until_then = λ i l. waits_so (after_calls call x (take i cs)) (o.until_then i l);
      }
    where
      waits_so : (y : X) → Standing shows S (Slotted S ok p q hp hq k) y → ShowsWaiting shows S p q k y
      waits_so y t =
          let v = in_slots S ok p q hp hq k t.0 t.1.ledger t.1.waits in
          record { ledger = t.1.ledger; ahead = v.0; shown = t.1.shown; stands = v.1 }

-- ---- the desk itself

pub nobody_starves_at_desk : NobodyStarvesAtDesk
unfolding NobodyStarvesAtDesk
nobody_starves_at_desk n S ok L s = nobody_starves_from (desk n) (λ D. D) (λ D. n) (desk_faithful n) S ok (has S L) L refl s

-- with the numbers of the ten-byte edition
pub ten_bytes_from : {X : Type 0} (call : X → Call → Reply × X) (shows : X → Desk) (S : Settings) (L : Ledger) (x : X) → Sound S L
    → S.edition ≡ ten_bytes
    → NobodyStarvesFrom call shows S L S.ports S.queues x → NobodyStarvesFrom call shows S L 4 24 x
ten_bytes_from call shows S L x s e f =
    let b = ten_byte_counts S s.rows e in
    subst (λ (P : ℕ). NobodyStarvesFrom call shows S L P 24 x) b.0
    (subst (λ (Q : ℕ). NobodyStarvesFrom call shows S L S.ports Q x) b.1 f)

pub nobody_starves_at_desk_24 : NobodyStarvesAtDesk24
unfolding NobodyStarvesAtDesk NobodyStarvesAtDesk24
nobody_starves_at_desk_24 n S L s e =
    ten_bytes_from (desk n) (λ D. D) S L (has S L) s e (nobody_starves_at_desk n S (roomy S s.rows) L s.orderly)
