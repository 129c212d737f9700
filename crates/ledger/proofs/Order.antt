-- Demand 2: queues keep their order, over any calls in which every setup is refused. Assumes nothing.
use mathlib.Core.Path.{◌≡◌, refl, sym, ap, ◌∙◌, subst}
use mathlib.Core.Logic.{◌≢◌}
use mathlib.Core.Bool.{Bool, true, false, cond, ◌&&◌}
use mathlib.Core.List.{List, [], ◌∷◌, ◌++◌, append-nil, append_assoc, map, map-append}
use Prim.Native.Nat.{ℕ, zero, suc, ◌/◌, ◌<◌}
use native.Mathlib.Omega.{arith}
use lib.ListN.{length, drop}
use lib.Seq.{take-append_seam, drop-append_seam}
use lib.Dec.{eqb}
use Rattle.numbers.specs.Bytes.{number}
use Rattle.ledger.specs.Settings.{Settings}
use Rattle.ledger.specs.Rules.{Clear}
use Rattle.ledger.specs.Ledger.{owner, Packet, bare, recorded, Place, free, ingress, egress, prefetched, port_of, Ledger, list_at, last_of, map_of}
use Rattle.ledger.specs.Ledger.{move, mapped, change, PlaceIn, kind_in, queue_in}
use Rattle.ledger.specs.Ready.{ready_word, pick}
use Rattle.ledger.specs.Calls.{Act, arrive, stitch, prefetch, credit, map_to, turn, ready, where_is, Side, Reply, refused, done, entry, stitched}
use Rattle.ledger.specs.Calls.{idle, leaves, word, found, reported, counted, part, is_empty, first_of}
use Rattle.ledger.specs.Buckets.{Clock}
use Rattle.ledger.specs.Calls.{clear, report, bucket, show, stitch_record, arriving, arrived, served, serve, rules, result, step, run, on_refusal}
use Rattle.ledger.specs.Desk.{Desk, has, Call, setup, act, desk, answers_of, SetupsRefused}
use Rattle.ledger.specs.Sound.{Orderly, Roomy}
use Rattle.ledger.specs.Order.{same_place, named, Movement, stays, moves, movement, came_by, left_by, came_to, left_from, ids_at}
use Rattle.ledger.specs.Order.{FirstInFirstOut, KeepsOrder}
use Rattle.ledger.proofs.Header.{dest_mapped}
use Rattle.ledger.proofs.Tests.{true≢false, leb_no, eqb_yes, eqb_is, and_left, and_right}
use Rattle.ledger.proofs.Lists.{cons_form}
use Rattle.ledger.proofs.Places.{Node}
use Rattle.ledger.proofs.Buckets.{ticked_lists}
use Rattle.ledger.proofs.Keep.{some_queue, first_fits, first_node, from_moved, to_moved, else_moved}
use Rattle.ledger.proofs.Passes.{admits}
use Rattle.ledger.proofs.Steps.{picked_some, keep_step, stepped, refused_lists}
use Rattle.ledger.proofs.Courses.{acts_in, Faithful, act_answer, act_shows, refused_shows, calls_show, desk_faithful}

-- ---- the test whether two places are the same

place_by : ℕ → ℕ → ℕ → Place
place_by zero p q = free p
place_by (suc zero) p q = ingress p
place_by (suc (suc zero)) p q = egress p q
place_by (suc (suc (suc k))) p q = prefetched p q

by_parts : (u : Place) → place_by (kind_in u) (port_of u) (queue_in u) ≡ u
unfolding place_by
by_parts (free p) = refl
by_parts (ingress p) = refl
by_parts (egress p q) = refl
by_parts (prefetched p q) = refl

same_yes : (u v : Place) → same_place u v ≡ true → u ≡ v
same_yes u v e =
    let k = and_left (eqb (kind_in u) (kind_in v)) (eqb (port_of u) (port_of v) && eqb (queue_in u) (queue_in v)) e in
    let r = and_right (eqb (kind_in u) (kind_in v)) (eqb (port_of u) (port_of v) && eqb (queue_in u) (queue_in v)) e in
    let a : kind_in u ≡ kind_in v = eqb_yes (kind_in u) (kind_in v) k in
    let b : port_of u ≡ port_of v = eqb_yes (port_of u) (port_of v) (and_left (eqb (port_of u) (port_of v)) (eqb (queue_in u) (queue_in v)) r) in
    let c : queue_in u ≡ queue_in v = eqb_yes (queue_in u) (queue_in v) (and_right (eqb (port_of u) (port_of v)) (eqb (queue_in u) (queue_in v)) r) in
    let p = by_parts u in
    let q = by_parts v in
    cc

pub same_self : (u : Place) → same_place u u ≡ true
same_self u = rw (eqb_is (kind_in u) (kind_in u) refl, eqb_is (port_of u) (port_of u) refl, eqb_is (queue_in u) (queue_in u) refl)

-- ---- what an answer names: what holds of each case holds of it

pub named_by : {A : Type 0} (P : A → Type 0) (no' : A) (e : ℕ → A) (s : List ℕ → A) (l : Packet → A) (r : Reply)
    → P no' → ((x : ℕ) → r ≡ entry x → P (e x)) → ((b : List ℕ) → P (s b)) → ((k : Packet) (t : Side) → r ≡ leaves k t → P (l k)) → P (named no' e s l r)
named_by P no' e s l (refused n) f g h i = f
named_by P no' e s l done f g h i = f
named_by P no' e s l (entry x) f g h i = g x refl
named_by P no' e s l (stitched b) f g h i = h b
named_by P no' e s l idle f g h i = f
named_by P no' e s l (leaves k t) f g h i = i k t refl
named_by P no' e s l (word w n) f g h i = f
named_by P no' e s l (found v j) f g h i = f
named_by P no' e s l (reported n) f g h i = f
named_by P no' e s l (counted n) f g h i = f
named_by P no' e s l (part x n) f g h i = f

-- ---- what stood and what came is what left and what stands

abbrev Line : List ℕ → List ℕ → List ℕ → List ℕ → Type 0
Line stood came left stands = stood ++ came ≡ left ++ stands

line_same : (xs : List ℕ) → Line xs [] [] xs
line_same xs = append-nil xs

line_then : (xs ys zs came came' left left' : List ℕ) → Line xs came left ys → Line ys came' left' zs → Line xs (came ++ came') (left ++ left') zs
line_then xs ys zs came came' left left' f g =
    sym (append_assoc xs came came')
    ∙ ap (λ (l : List ℕ). l ++ came') f
    ∙ append_assoc left ys came'
    ∙ ap (λ (l : List ℕ). left ++ l) g
    ∙ sym (append_assoc left left' zs)

line_means : (xs ys came left : List ℕ) → Line xs came left ys → FirstInFirstOut xs came left ys
line_means xs ys came left e = record {
  stays_behind = sym (drop-append_seam left ys) ∙ ap (drop (length left)) (sym e);
  oldest_left = sym (take-append_seam left ys) ∙ ap (lib.ListN.take (length left)) (sym e);
}

-- ---- one act

-- the record of a stitch names the node, the queue and the port
record_id : (k : Packet) (to : ℕ) → k.node < 65536 → number 2 (stitch_record k to) 0 ≡ k.node
unfolding number stitch_record
record_id k to h = omega arith

pub node_small : (S : Settings) → Roomy S → (y : ℕ) → Node S y → y < 65536
node_small S ok y n = let a : y / 2048 < 32 = omega (arith, n.home, ok.few_ports) in omega arith

module _ (S : Settings) (ok : Roomy S) (L : Ledger) (s : Orderly S L) where
  -- the ids of place u in the ledger N, after this movement
  abbrev Moved : Movement → Ledger → Type 0
  Moved m N = (u : Place) → PlaceIn S u → Line (ids_at S L u) (came_by u m) (left_by u m) (ids_at S N u)

  moved : (v w : Place) → PlaceIn S v → PlaceIn S w → is_empty (list_at S L v) ≡ false → v ≢ w → (k : Packet) → k.node ≡ (first_of S L v).node
      → Moved (moves (first_of S L v).node v w) (move S v w k L)
  moved v w hv hw e d k n u hu = go (same_place u v) refl (same_place u w) refl
    where
      x : ℕ
      x = (first_of S L v).node

      other : (t : Place) → same_place u t ≡ false → u ≢ t
      other t i z = true≢false (sym (same_self u) ∙ ap (same_place u) z ∙ i)

      go : (a : Bool) → same_place u v ≡ a → (b : Bool) → same_place u w ≡ b
          → Line (ids_at S L u) (cond b (x ∷ []) []) (cond a (x ∷ []) []) (ids_at S (move S v w k L) u)
      go true i true j = absurd (d (sym (same_yes u v i) ∙ same_yes u w j))
      go true i false j =
          subst (λ (t : Place). Line (ids_at S L t) [] (x ∷ []) (ids_at S (move S v w k L) t)) (sym (same_yes u v i))
          (rw (from_moved S ok L s v hv e w hw k n d)
          (append-nil (ids_at S L v) ∙ ap (map (λ (j : Packet). j.node)) (cons_form (list_at S L v) e)))
      go false i true j =
          subst (λ (t : Place). Line (ids_at S L t) (x ∷ []) [] (ids_at S (move S v w k L) t)) (sym (same_yes u w j))
          (rw (to_moved S ok L s v hv e w hw k n d)
          (ap (λ (y : ℕ). ids_at S L w ++ (y ∷ [])) (sym n) ∙ sym (map-append (λ (j : Packet). j.node) (list_at S L w) (k ∷ []))))
      go false i false j =
          rw (else_moved S ok L s v hv e w hw k n d u hu (other v i) (other w j)) (append-nil (ids_at S L u))

  unmoved : Moved stays L
  unmoved u hu = line_same (ids_at S L u)

  served_moved : (c : Clock) (p q : ℕ) → p < S.ports → q < S.queues → is_empty (list_at S L (prefetched p q)) ≡ false
      → Moved (movement (turn c p) (serve S L c p q).0) (serve S L c p q).1
  unfolding served change
  served_moved c p q hp hq e =
      let v : Place = prefetched p q in
      let k : Packet = first_of S L v in
      let n = first_node S ok L s v (hp, hq) e in
      rw (ticked_lists c p k (served S L p q k))
      (subst (λ (t : ℕ). Moved (moves k.node (prefetched p t) (free (owner k.node))) (served S L p q k)) (sym (first_fits S ok L s v (hp, hq) e).1)
      (moved v (free (owner k.node)) (hp, hq) (n.home, some_queue S ok L s) e (λ i. let z : ◌≡◌ {A = ℕ} 0 1 = cc in omega arith) (bare k.node) refl))

  result_moved : (a : Act) → Clear (rules S L a) → Moved (movement a (result S L a).0) (result S L a).1
  result_moved (arrive p h) c =
      let a = admits S L p h c in
      let v_in : PlaceIn S (free p) = (a.port, some_queue S ok L s) in
      unfold arrived change in
      moved (free p) (ingress p) v_in v_in a.some (λ i. let z : ◌≡◌ {A = ℕ} 0 1 = cc in omega arith) (arriving S L p h) (unfold recorded in refl)
  result_moved (stitch p) c =
      let v_in : PlaceIn S (ingress p) = (leb_no S.ports p c.0, some_queue S ok L s) in
      let k : Packet = first_of S L (ingress p) in
      let to : ℕ = map_of L k.dest in
      let f = first_fits S ok L s (ingress p) v_in c.1.0 in
      let id = record_id k to (node_small S ok k.node (first_node S ok L s (ingress p) v_in c.1.0)) in
      unfold stitch_record in
      subst (λ (y : ℕ). Moved (moves y (ingress p) (egress to k.queue)) (move S (ingress p) (egress to k.queue) k L)) (sym id)
      (moved (ingress p) (egress to k.queue) v_in (
        s.ranges.numbers_in mapped k.dest
            (dest_mapped S ok k.dest f.2.dest_in),
        f.2.queue_in_range,
      ) c.1.0
      (λ i. let z : ◌≡◌ {A = ℕ} 0 1 = cc in omega arith) k refl)
  result_moved (prefetch p q) c =
      let hp : p < S.ports = leb_no S.ports p c.0 in
      let hq : q < S.queues = leb_no S.queues q c.1.0 in
      moved (egress p q) (prefetched p q) (hp, hq) (hp, hq) c.1.1.0 (λ i. let z : ◌≡◌ {A = ℕ} 0 1 = cc in omega arith) (first_of S L (egress p q)) refl
  result_moved (credit p q n) c = unfold change in unmoved
  result_moved (map_to d p) c = unfold change in unmoved
  result_moved (turn c' p) c = go (eqb (ready_word S L p) 0) (picked_some S ok L s p (leb_no S.ports p c.0))
    where
      t : ℕ
      t = pick (last_of L p) (ready_word S L p)

      go : (b : Bool) → (b ≡ false → (t < S.queues) × (is_empty (list_at S L (prefetched p t)) ≡ false))
          → Moved (movement (turn c' p) (cond b (idle, L) (serve S L c' p t)).0) (cond b (idle, L) (serve S L c' p t)).1
      go true f = unmoved
      go false f = served_moved c' p t (leb_no S.ports p c.0) (f refl).0 (f refl).1
  result_moved (ready p) c = unmoved
  result_moved (where_is y) c = unmoved
  result_moved (clear p) c = unfold change in unmoved
  result_moved (report p) c = unmoved
  result_moved (bucket p b) c = unmoved
  result_moved (show ns p q) c = unmoved

  -- a refusal names no node
  refused_stays : (a : Act) (n : ℕ) → movement a (refused n) ≡ stays
  refused_stays (arrive p h) n = refl
  refused_stays (stitch p) n = refl
  refused_stays (prefetch p q) n = refl
  refused_stays (credit p q m) n = refl
  refused_stays (map_to d p) n = refl
  refused_stays (turn c p) n = refl
  refused_stays (ready p) n = refl
  refused_stays (where_is y) n = refl
  refused_stays (clear p) n = refl
  refused_stays (report p) n = refl
  refused_stays (bucket p b) n = refl
  refused_stays (show ns p q) n = refl

  refused_moved : (a : Act) (n : ℕ) → Moved (movement a (refused n)) (on_refusal S n a L)
  refused_moved a n = rw (refused_stays a n, refused_lists S n a L) unmoved

  pub act_moved : (a : Act) → Moved (movement a (step S L a).0) (step S L a).1
  act_moved a =
      stepped S L a (λ out. Moved (movement a out.0) out.1) (refused_moved a) (result_moved a)

-- ---- any calls

module _ {X : Type 0} (call : X → Call → Reply × X) (shows : X → Desk) (long : X → ℕ) (faithful : Faithful call shows long) (S : Settings) (ok : Roomy S) where
  abbrev InLine : Place → X → Ledger → List Call → Type 0
  InLine u x L cs = Line (ids_at S L u) (came_to u cs (answers_of call x cs)) (left_from u cs (answers_of call x cs)) (ids_at S (run S L (acts_in cs)) u)

  in_line : (u : Place) → PlaceIn S u → (x : X) (L : Ledger) → shows x ≡ has S L → Orderly S L → (cs : List Call) → SetupsRefused call x cs → InLine u x L cs
  unfolding acts_in
  in_line u hu x L e s [] f = line_same (ids_at S L u)
  in_line u hu x L e s (setup T ∷ cs) f =
      in_line u hu (call x (setup T)).1 L (refused_shows call shows long faithful S x (setup T) refl (f.0 refl) ∙ e) s cs f.1
  in_line u hu x L e s (act a ∷ cs) f =
      let r : Reply = (call x (act a)).0 in
      let N : Ledger = (step S L a).1 in
      let same : (step S L a).0 ≡ r = sym (act_answer call shows long faithful S x L e a) in
      let one : Line (ids_at S L u) (came_by u (movement a r)) (left_by u (movement a r)) (ids_at S N u) =
      subst (λ (t : Reply). Line (ids_at S L u) (came_by u (movement a t)) (left_by u (movement a t)) (ids_at S N u)) same (act_moved S ok L s a u hu) in
      line_then (ids_at S L u) (ids_at S N u) (ids_at S (run S N (acts_in cs)) u) (came_by u (movement a r))
      (came_to u cs (answers_of call (call x (act a)).1 cs))
      (left_by u (movement a r)) (left_from u cs (answers_of call (call x (act a)).1 cs))
      one
      (in_line u hu (call x (act a)).1 N (act_shows call shows long faithful S x L e a) (keep_step S ok L s a) cs f.1)

  -- every list keeps its order
  pub keeps_order : (u : Place) → PlaceIn S u → (x : X) (L : Ledger) → shows x ≡ has S L → Orderly S L → (cs : List Call) → SetupsRefused call x cs
      → KeepsOrder call shows S L u x cs
  keeps_order u hu x L e s cs f =
      let rs : List Reply = answers_of call x cs in
      record {
        ledger = run S L (acts_in cs);
        shown = calls_show call shows long faithful S x L e cs f;
        is_in_order = line_means (ids_at S L u) (ids_at S (run S L (acts_in cs)) u) (came_to u cs rs) (left_from u cs rs) (in_line u hu x L e s cs f);
      }

pub desk_keeps_order : (n : ℕ) (S : Settings) → Roomy S → (L : Ledger) → Orderly S L → (u : Place) → PlaceIn S u
    → (cs : List Call) → SetupsRefused (desk n) (has S L) cs → KeepsOrder (desk n) (λ D. D) S L u (has S L) cs
desk_keeps_order n S ok L s u hu cs f = keeps_order (desk n) (λ D. D) (λ D. n) (desk_faithful n) S ok u hu (has S L) L refl s cs f
