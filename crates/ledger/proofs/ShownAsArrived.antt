-- Paper 02, Q-1, "shown as it arrived": demand 2 for the ports' packet memories, over any calls in which every setup is refused. Assumes nothing.
use mathlib.Core.Path.{◌≡◌, refl, sym, ap, ap₂, ◌∙◌, subst}
use mathlib.Core.Logic.{◌≢◌}
use mathlib.Core.Bool.{Bool, true, false, cond, not}
use mathlib.Core.List.{List, [], ◌∷◌, ◌++◌, append-nil, map}
use Prim.Native.Nat.{ℕ, zero, suc, ◌+◌, ◌≤◌, ◌<◌}
use native.Mathlib.Omega.{arith}
use lib.ListN.{length, get_or, take, drop}
use lib.Seq.{take-take}
use Rattle.numbers.specs.Bytes.{number}
use Rattle.ledger.specs.Settings.{Settings, slot_bytes, packet_room, keeps_packets}
use Rattle.ledger.specs.Header.{form, Fields, fields_of, whole}
use Rattle.ledger.specs.Ledger.{owner, is_node, Packet, recorded, Place, free, ingress, egress, prefetched, place#, Ledger, oldest, list_at, PlaceIn}
use Rattle.ledger.specs.Ready.{bit}
use Rattle.ledger.specs.Calls.{Act, arrive, stitch, prefetch, credit, map_to, turn, ready, where_is, clear, report, bucket, show}
use Rattle.ledger.specs.Calls.{Reply, entry, part, is_empty, first_of, other_sizes, rules, step, run}
use Rattle.ledger.specs.Desk.{Desk, has, Call, setup, act, desk, after_calls, answers_of, SetupsRefused}
use Rattle.ledger.specs.Rules.{Clear}
use Rattle.ledger.specs.Sound.{All, sum, one, Orderly, Roomy}
use Rattle.ledger.specs.Order.{same_place, named, Movement, stays, moves, movement, came_by, left_by, ids_at}
use Rattle.ledger.specs.Packets.{slot_at, Memories, Sized, lengths_from, lengths, packet, brings, keeps, kept_by, slot_of, part_in, NotFree, sends, Unsent}
use Rattle.ledger.specs.Packets.{ShownAsArrivedFrom}
use Rattle.ledger.proofs.Tests.{leb_not, eqb_is, eqb_no}
use Rattle.ledger.proofs.Lists.{sum_below, All-of, All-append, All-split, All-ids}
use Rattle.ledger.proofs.Places.{node_of, bit_le}
use Rattle.ledger.proofs.Keep.{some_queue}
use Rattle.ledger.proofs.Passes.{not_other}
use Rattle.ledger.proofs.Steps.{keep_step, keep_run, step_clear}
use Rattle.ledger.proofs.Packets.{KeptWithin, kept_within}
use Rattle.ledger.proofs.Order.{named_by, same_self, act_moved}
use Rattle.ledger.proofs.Records.{none_of, Holds, first_holds, act_holds}
use Rattle.ledger.proofs.Slots.{stored_at, not_taken, act_sized, act_stays}
use Rattle.ledger.proofs.Courses.{acts_in, Faithful, act_answer, act_shows, refused_shows, calls_show, desk_faithful}

-- ---- only a turn that sends node y brings y to its port's free list

module _ (y : ℕ) (r : Reply) (unsent : sends y r ≡ false) where
  abbrev Away : Movement → Type 0
  Away m = All (λ x. x ≢ y) (came_by (free (owner y)) m)

  by_entry_lem : (v w : Place) → ((x : ℕ) → Away (moves x v w)) → Away (named stays (λ x. moves x v w) (λ b. stays) (λ k. stays) r)
  by_entry_lem v w f = named_by Away stays (λ x. moves x v w) (λ b. stays) (λ k. stays) r tt (λ x i. f x) (λ b. tt) (λ k t i. tt)

  came_home : (a : Act) → Away (movement a r)
  came_home (arrive p h) = by_entry_lem (free p) (ingress p) (λ x. tt)
  came_home (stitch p) =
      named_by Away stays (λ x. stays) (λ b. moves (number 2 b 0) (ingress p) (egress (get_or b 5 0) (get_or b 4 0))) (λ k. stays) r tt (λ x i. tt) (λ b. tt)
      (λ k t i. tt)
  came_home (prefetch p q) = by_entry_lem (egress p q) (prefetched p q) (λ x. tt)
  came_home (credit p q n) = tt
  came_home (map_to d p) = tt
  came_home (turn c p) =
      named_by Away stays (λ x. stays) (λ b. stays) (λ k. moves k.node (prefetched p k.queue) (free (owner k.node))) r tt (λ x i. tt) (λ b. tt)
      (λ k t i. other k (same_place (free (owner y)) (free (owner k.node))) (eqb_no k.node y (ap (sends y) (sym i) ∙ unsent)))
    where
      other : (k : Packet) (z : Bool) → k.node ≢ y → All (λ x. x ≢ y) (cond z (k.node ∷ []) [])
      other k true d = (d, tt)
      other k false d = tt
  came_home (ready p) = tt
  came_home (where_is z) = tt
  came_home (clear p) = tt
  came_home (report p) = tt
  came_home (bucket p b) = tt
  came_home (show ns p q) = tt

-- a node that is counted once stands nowhere behind itself
once_only : (y : ℕ) (ks : List Packet) (rest : List ℕ) → sum (one y 0) ks ≤ 1 → map (λ k. k.node) ks ≡ y ∷ rest → All (λ x. x ≢ y) rest
once_only y [] rest h e = absurd (let z : ◌≡◌ {A = ℕ} 0 1 = cc in omega arith)
once_only y (k ∷ ks) rest h e =
    let first : k.node ≡ y = cc in
    let others : map (λ j. j.node) ks ≡ rest = cc in
    subst (All (λ x. x ≢ y)) others (All-ids (λ x. x ≢ y) ks (none_of y ks (omega (arith, ap bit (eqb_is k.node y first)))))

recorded_len : (S : Settings) (x : ℕ) (f : Fields) → (recorded S x f).len ≡ f.len
unfolding recorded
recorded_len S x f = refl

-- ---- packet b stands: node y isn't free, its slot starts with b, and every packet that is held of node y is k₀

pub record Standing (S : Settings) (y : ℕ) (k₀ : Packet) (b : List ℕ) (ks : Memories) (L : Ledger) : Type 0 where
  pub not_free : NotFree S L y
  pub starts : take (length b) (slot_of ks y) ≡ b
  pub only : Holds S (λ k. k.node ≡ y → k ≡ k₀) L
  pub sized : Sized S ks

module _ (S : Settings) (ok : Roomy S) (L : Ledger) (s : Orderly S L) where
  -- one act whose answer doesn't send y
  act_standing : (y : ℕ) → is_node S y ≡ true → (k₀ : Packet) (b : List ℕ) (ks : Memories) → Standing S y k₀ b ks L
      → (a : Act) → sends y (step S L a).0 ≡ false → Standing S y k₀ b (keeps (brings a) (step S L a).0 ks) (step S L a).1
  act_standing y node k₀ b ks f a unsent =
      let home : Place = free (owner y) in
      let r : Reply = (step S L a).0 in
      let N : Ledger = (step S L a).1 in
      let home_in : PlaceIn S home = ((node_of S y (omega (arith, ap bit node))).home, some_queue S ok L s) in
      let both : All (λ x. x ≢ y) (ids_at S L home ++ came_by home (movement a r)) =
      All-append (λ x. x ≢ y) (ids_at S L home) (came_by home (movement a r)) f.not_free (came_home y r unsent a) in
      record {
        not_free = (All-split (λ x. x ≢ y) (left_by home (movement a r)) (ids_at S N home)
            (subst (All (λ x. x ≢ y)) (act_moved S ok L s a home home_in) both)).1;
        starts = ap (take (length b)) (act_stays S ok L s ks f.sized y node f.not_free a) ∙ f.starts;
        only = act_holds S ok (λ k. k.node ≡ y → k ≡ k₀) L s f.only (λ k. k.node ≡ y → k ≡ k₀) a (λ j n g. g)
            (λ k i was e. absurd (not_taken S L k.node y was f.not_free (sym e)));
        sized = act_sized S ok L s ks f.sized a;
      }

  -- it stands once its arrival is answered: y, which was free, is in no other list
  module _ (p n : ℕ) (b : List ℕ) (y : ℕ) (i : (step S L (arrive p (whole n b))).0 ≡ entry y) where
    abbrev N : Ledger
    N = (step S L (arrive p (whole n b))).1

    w : KeptWithin S L p n b y
    w = kept_within S ok L s p n b y i

    -- the free list is what it was but for y
    but_one : ids_at S L (free p) ≡ y ∷ ids_at S N (free p)
    but_one =
        let line = act_moved S ok L s (arrive p (whole n b)) (free p) (w.port, some_queue S ok L s) in
        let named = rw (i, same_self (free p)) at line in
        sym (append-nil (ids_at S L (free p))) ∙ named

    -- and what is held of y is what was recorded
    only_it : Holds S (λ k. k.node ≡ y → k ≡ recorded S y (fields_of (form S) b)) N
    only_it =
        act_holds S ok (λ k. Unit {0}) L s (record { holds = λ l h. All-of (get_or L.lists l []) (λ k z. tt) })
        (λ k. k.node ≡ y → k ≡ recorded S y (fields_of (form S) b)) (arrive p (whole n b))
        (λ j none z e. absurd ((rw i at none).0 (unfold recorded in (sym e))))
        (λ k is was e. let same = rw i at is in cc)

    arrival_stands : (ks : Memories) → Sized S ks → Standing S y (recorded S y (fields_of (form S) b)) b (keeps (packet p b) (entry y) ks) N
    arrival_stands ks sized =
        let kept = stored_at S L p n b y w ks sized in
        let few : sum (one y 0) (list_at S L (free p)) ≤ 1 =
        omega (arith, sum_below (one y) L.lists (place# S (free p)), s.once y, bit_le (is_node S y)) in
        record {
          not_free = subst (λ (o : ℕ). All (λ x. x ≢ y) (ids_at S N (free o))) (sym w.own)
              (once_only y (list_at S L (free p)) (ids_at S N (free p)) few but_one);
          starts = kept.starts;
          only = only_it;
          sized = λ o h. kept.same_lengths o ∙ sized o h;
        }

  -- ---- and wherever it is the oldest of a queue's slots, show is answered with its bytes

  sizes_right : (ks : Memories) → Sized S ks → (p n : ℕ) → p + n ≤ S.ports → other_sizes S (lengths_from ks p n) ≡ false
  sizes_right ks sized p zero h = refl
  sizes_right ks sized p (suc n) h =
      rw (not_other (length (ks p)) (packet_room S) (sized p (omega arith))) (sizes_right ks sized (suc p) n (omega arith))

  standing_shown : keeps_packets S ≡ true
      → (y : ℕ) (k₀ : Packet) (b : List ℕ) (ks : Memories) → Standing S y k₀ b ks L → k₀.len ≡ length b → length b < slot_bytes
      → (p q : ℕ) → p < S.ports → q < S.queues → (rest : List ℕ) → ids_at S L (prefetched p q) ≡ y ∷ rest
      → (answer : Reply) → answer ≡ (step S L (show (lengths S ks) p q)).0 → (answer ≡ part y (length b)) × (part_in ks answer ≡ b)
  standing_shown keep y k₀ b ks f long short p q hp hq rest e answer i =
      let v : Place = prefetched p q in
      let o = front (list_at S L v) e in
      let same : first_of S L v ≡ k₀ = first_holds S ok (λ k. k.node ≡ y → k ≡ k₀) L s f.only v (hp, hq) o.0 refl o.1 in
      let clear : Clear (rules S L (show (lengths S ks) p q)) = (
        ap not keep,
        (sizes_right ks f.sized 0 S.ports (omega arith), (leb_not S.ports p hp, (leb_not S.queues q hq, (o.0, tt)))),
      ) in
      let is : answer ≡ part y (length b) =
      i
      ∙ ap (λ (out : Reply × Ledger). out.0) (step_clear S L (show (lengths S ks) p q) clear)
      ∙ ap₂ part o.1 (ap (λ (k : Packet). k.len) same ∙ long) in
      (is, ap (part_in ks) is ∙ sym (take-take (length b) slot_bytes (drop (slot_at y) (ks (owner y))) (omega arith)) ∙ f.starts)
    where
      front : (ls : List Packet) → map (λ k. k.node) ls ≡ y ∷ rest → (is_empty ls ≡ false) × ((oldest ls).node ≡ y)
      front [] e = absurd (let z : ◌≡◌ {A = ℕ} 0 1 = cc in omega arith)
      front (k ∷ ls) e = (refl, cc)

-- ---- any calls

module _ {X : Type 0} (call : X → Call → Reply × X) (shows : X → Desk) (long : X → ℕ) (faithful : Faithful call shows long) (S : Settings) (ok : Roomy S) where
  still_standing : (y : ℕ) → is_node S y ≡ true → (k₀ : Packet) (b : List ℕ) (ks : Memories) (x : X) (L : Ledger) → shows x ≡ has S L → Orderly S L
      → Standing S y k₀ b ks L → (cs : List Call) → SetupsRefused call x cs → Unsent y (answers_of call x cs)
      → Standing S y k₀ b (kept_by cs (answers_of call x cs) ks) (run S L (acts_in cs))
  unfolding acts_in
  still_standing y node k₀ b ks x L e s f [] g u = f
  still_standing y node k₀ b ks x L e s f (setup T ∷ cs) g u =
      still_standing y node k₀ b ks (call x (setup T)).1 L (refused_shows call shows long faithful S x (setup T) refl (g.0 refl) ∙ e) s f cs g.1 u.1
  still_standing y node k₀ b ks x L e s f (act a ∷ cs) g u =
      let same : (call x (act a)).0 ≡ (step S L a).0 = act_answer call shows long faithful S x L e a in
      let here : Standing S y k₀ b (keeps (brings a) (call x (act a)).0 ks) (step S L a).1 =
      rw same (act_standing S ok L s y node k₀ b ks f a (rw same at u.0)) in
      still_standing y node k₀ b (keeps (brings a) (call x (act a)).0 ks) (call x (act a)).1 (step S L a).1
      (act_shows call shows long faithful S x L e a) (keep_step S ok L s a) here cs g.1 u.1

  pub shown_as_arrived : (x : X) (L : Ledger) → shows x ≡ has S L → Orderly S L → ShownAsArrivedFrom call shows S x
  shown_as_arrived x L e s ks sized p n b y i cs g u =
      let a : Act = arrive p (whole n b) in
      let z : X = (call x (act a)).1 in
      let j : (step S L a).0 ≡ entry y = sym (act_answer call shows long faithful S x L e a) ∙ i in
      let w : KeptWithin S L p n b y = kept_within S ok L s p n b y j in
      let k₀ : Packet = recorded S y (fields_of (form S) b) in
      let t : Orderly S (step S L a).1 = keep_step S ok L s a in
      let showing : shows z ≡ has S (step S L a).1 = act_shows call shows long faithful S x L e a in
      let N : Ledger = run S (step S L a).1 (acts_in cs) in
      let after : Memories = kept_by cs (answers_of call z cs) (keeps (packet p b) (entry y) ks) in
      let f : Standing S y k₀ b after N =
      still_standing y w.node k₀ b (keeps (packet p b) (entry y) ks) z (step S L a).1 showing t (arrival_stands S ok L s p n b y j ks sized) cs g u in
      let len : k₀.len ≡ length b = recorded_len S y (fields_of (form S) b) ∙ sym w.counted in
      let shown : shows (after_calls call z cs) ≡ has S N = calls_show call shows long faithful S z (step S L a).1 showing cs g in
      record {
        ledger = N;
        shown = shown;
        not_free = f.not_free;
        starts = f.starts;
        shows_it = λ o q ho hq rest first.
            standing_shown S ok N (keep_run S ok (step S L a).1 t (acts_in cs)) w.keeps y k₀ b after f len w.short o q ho hq rest first
            (call (after_calls call z cs) (act (show (lengths S after) o q))).0
            (act_answer call shows long faithful S (after_calls call z cs) N shown (show (lengths S after) o q));
      }

pub desk_shown_as_arrived : (n : ℕ) (S : Settings) → Roomy S → (L : Ledger) → Orderly S L → ShownAsArrivedFrom (desk n) (λ D. D) S (has S L)
desk_shown_as_arrived n S ok L s = shown_as_arrived (desk n) (λ D. D) (λ D. n) (desk_faithful n) S ok (has S L) L refl s
