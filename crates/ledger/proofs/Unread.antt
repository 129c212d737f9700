-- Nothing but the reading call reads a bucket (paper 02, Q-13): no rule but its range, no refusal, no other answer, and so no demand.
-- Assumes nothing.
use mathlib.Core.Path.{◌≡◌, refl, sym, ap, ◌∙◌, subst}
use mathlib.Core.Bool.{Bool, true, false, cond}
use mathlib.Core.List.{List, [], ◌∷◌}
use Prim.Native.Nat.{ℕ, ◌+◌, ◌-◌, ◌<◌}
use lib.ListN.{length, get_or, set}
use lib.Dec.{eqb}
use Rattle.ledger.specs.Settings.{Settings}
use Rattle.ledger.specs.Rules.{Rule, guard}
use Rattle.ledger.specs.Ledger.{owner, Packet, bare, Place, free, ingress, egress, prefetched, place#, Column, arrival, outward, last, mapped, halted}
use Rattle.ledger.specs.Ledger.{buckets, column#, tall, bound, Ledger, arrival_of, outward_of, last_of, map_of, mark_of, set_credit, pop, push}
use Rattle.ledger.specs.Ledger.{move, change, put_in, start}
use Rattle.ledger.specs.Buckets.{Clock, untimed, at}
use Rattle.ledger.specs.Ready.{is_ready, ready_word, pick}
use Rattle.ledger.specs.Halt.{marks}
use Rattle.ledger.specs.Calls.{Act, arrive, stitch, prefetch, credit, map_to, turn, ready, where_is}
use Rattle.ledger.specs.Calls.{clear, report, bucket, show, Reply, refused, done, idle}
use Rattle.ledger.specs.Calls.{first_of, arriving, arrived, served, ticked, serve, rules, result, step, marked_for, on_refusal}
use Rattle.ledger.specs.Desk.{Desk, has, Call, setup, act, setup_rules, desk}
use Rattle.ledger.specs.Sound.{Sound}
use Rattle.ledger.specs.Tally.{ButBuckets, AgreeBut, both_none, both_have, is_reading, is_reading_call, WaitsUnread}
use Rattle.ledger.proofs.Tests.{true≢false}
use Rattle.ledger.proofs.Columns.{change_other, only_changed}
use Rattle.ledger.proofs.Keep.{keep_changed}
use Rattle.ledger.proofs.Buckets.{not_arrival}
use Rattle.ledger.proofs.Rows.{roomy}
use Rattle.ledger.proofs.Steps.{guarded_both}
use Rattle.ledger.proofs.Courses.{Faithful, desk_faithful}

-- ---- ledgers that differ in buckets alone

but_self : (L : Ledger) → ButBuckets L L
but_self L = record { same_lists = refl; same_numbers = λ c n. refl }

module _ {L N : Ledger} (b : ButBuckets L N) where
  but_move : (S : Settings) (v w : Place) (k : Packet) → ButBuckets (move S v w k L) (move S v w k N)
  unfolding move
  but_move S v w k = record {
    same_lists = ap (λ (ls : List (List Packet)). push (place# S w) k (pop (place# S v) ls)) b.same_lists;
    same_numbers = b.same_numbers;
  }

  but_change : (c : Column) (f : List ℕ → List ℕ) → ButBuckets (change c f L) (change c f N)
  unfolding change
  but_change c f = record {
    same_lists = b.same_lists;
    same_numbers = λ d n. ap (λ (xs : List ℕ). cond (eqb (column# c) (column# d)) (f xs) xs) (b.same_numbers d n);
  }

  -- buckets may be changed in any way
  but_counted : (f g : List ℕ → List ℕ) → ButBuckets (change buckets f L) (change buckets g N)
  but_counted f g = record {
    same_lists = unfold change in b.same_lists;
    same_numbers = λ d n. rw (change_other buckets f L d (λ e. n (sym e)), change_other buckets g N d (λ e. n (sym e))) (b.same_numbers d n);
  }

  but_ticked : (c : Clock) (p : ℕ) (k : Packet) → ButBuckets (ticked c p k L) (ticked c p k N)
  unfolding ticked
  but_ticked untimed p k = b
  but_ticked (at time) p k = but_counted _ _

-- ---- one act on both

-- the ledger with other buckets: what doesn't read them computes to the same on both
unfoldable recount : List ℕ → Ledger → Ledger
recount ys L = change buckets (λ xs. ys) L

is_recount : {L N : Ledger} → ButBuckets L N → N ≡ recount (N.numbers buckets) L
unfolding recount
is_recount {L} {N} b = only_changed buckets L N b.same_lists b.same_numbers

-- answered alike but by a reading, with ledgers that differ in buckets alone
abbrev Alike : Act → Reply × Ledger → Reply × Ledger → Type 0
Alike a one other = (is_reading a ≡ false → one.0 ≡ other.0) × ButBuckets one.1 other.1

module _ (S : Settings) (ys : List ℕ) (L : Ledger) (b : ButBuckets L (recount ys L)) where
  served_alike : (r q : ℕ) (k : Packet) → ButBuckets (served S L r q k) (served S (recount ys L) r q k)
  unfolding recount change served
  served_alike r q k =
      let home : ℕ = owner k.node in
      but_change
      (but_change
      (but_change (but_move b S (prefetched r q) (free home) (bare k.node)) arrival (λ xs. set_credit S xs home q (arrival_of S L home q + k.price)))
      outward (λ xs. set_credit S xs r q (outward_of S L r q - k.price)))
      last (λ xs. set xs r q)

  result_alike : (a : Act) → Alike a (result S L a) (result S (recount ys L) a)
  unfolding recount change arrived ready_word is_ready
  result_alike (arrive r h) =
      let k : Packet = arriving S L r h in
      (λ n. refl, but_change (but_move b S (free r) (ingress r) k) arrival (λ xs. set_credit S xs r k.queue (arrival_of S L r k.queue - k.price)))
  result_alike (stitch r) =
      let k : Packet = first_of S L (ingress r) in
      (λ n. refl, but_move b S (ingress r) (egress (map_of L k.dest) k.queue) k)
  result_alike (prefetch r q) = (λ n. refl, but_move b S (egress r q) (prefetched r q) (first_of S L (egress r q)))
  result_alike (credit r q n) = (λ n. refl, but_change b outward (λ xs. set_credit S xs r q (outward_of S L r q + n)))
  result_alike (map_to d r) = (λ n. refl, but_change b mapped (λ xs. set xs d r))
  result_alike (turn c r) = go (eqb (ready_word S L r) 0)
    where
      q : ℕ
      q = pick (last_of L r) (ready_word S L r)

      go : (m : Bool) → Alike (turn c r) (cond m (idle, L) (serve S L c r q)) (cond m (idle, recount ys L) (serve S (recount ys L) c r q))
      go true = (λ n. refl, b)
      go false =
          let k : Packet = first_of S L (prefetched r q) in
          (λ n. refl, but_ticked {L = served S L r q k} {N = served S (recount ys L) r q k} (served_alike r q k) c r k)
  result_alike (ready r) = (λ n. refl, b)
  result_alike (where_is y) = (λ n. refl, b)
  result_alike (clear r) = (λ n. refl, but_change b halted (λ xs. set xs r 0))
  result_alike (report r) = (λ n. refl, b)
  result_alike (bucket r d) = (λ n. absurd (true≢false n), b)
  result_alike (show ns r d) = (λ n. refl, b)

  -- no rule reads a bucket
  same_rules : (a : Act) → rules S (recount ys L) a ≡ rules S L a
  unfolding recount change
  same_rules (arrive r h) = refl
  same_rules (stitch r) = refl
  same_rules (prefetch r q) = refl
  same_rules (credit r q n) = refl
  same_rules (map_to d r) = refl
  same_rules (turn c r) = refl
  same_rules (ready r) = refl
  same_rules (where_is y) = refl
  same_rules (clear r) = refl
  same_rules (report r) = refl
  same_rules (bucket r d) = refl
  same_rules (show ns r d) = refl

  marked_alike : (p n : ℕ) → ButBuckets (marked_for S p n L) (marked_for S p n (recount ys L))
  unfolding recount change marked_for
  marked_alike p n = go (marks S p (mark_of L p) n)
    where
      go : (m : Bool) → ButBuckets (cond m (put_in halted p n L) L) (cond m (put_in halted p n (recount ys L)) (recount ys L))
      go true = but_change b halted (λ xs. set xs p n)
      go false = b

  refused_alike : (a : Act) (n : ℕ) → ButBuckets (on_refusal S n a L) (on_refusal S n a (recount ys L))
  unfolding on_refusal
  refused_alike (arrive p h) n = marked_alike p n
  refused_alike (stitch p) n = b
  refused_alike (prefetch p q) n = b
  refused_alike (credit p q v) n = b
  refused_alike (map_to d p) n = b
  refused_alike (turn c p) n = b
  refused_alike (ready p) n = b
  refused_alike (where_is y) n = b
  refused_alike (clear p) n = b
  refused_alike (report p) n = b
  refused_alike (bucket p d) n = b
  refused_alike (show ns p d) n = b

  step_alike : (a : Act) → Alike a (step S L a) (step S (recount ys L) a)
  step_alike a =
      let no₁ : ℕ → Reply × Ledger = λ n. (refused n, on_refusal S n a L) in
      let no₂ : ℕ → Reply × Ledger = λ n. (refused n, on_refusal S n a (recount ys L)) in
      subst (λ (rs : List Rule). Alike a (step S L a) (guard rs no₂ (result S (recount ys L) a))) (sym (same_rules a))
      (guarded_both (Alike a) (rules S L a) no₁ no₂ (result S L a) (result S (recount ys L) a)
      (λ n. (λ i. refl, refused_alike a n)) (λ c. result_alike a))

any_act : (S : Settings) (L N : Ledger) → ButBuckets L N → (a : Act) → Alike a (step S L a) (step S N a)
any_act S L N b a =
    let same = is_recount b in
    subst (λ (M : Ledger). Alike a (step S L a) (step S M a)) (sym same) (step_alike S (N.numbers buckets) L (subst (ButBuckets L) same b) a)

-- ---- no rule of soundness but (b) reads a bucket, and (b) its range alone

pub sound_unread : (S : Settings) (L N : Ledger) → ButBuckets L N → length (N.numbers buckets) ≡ tall S buckets
    → ((i : ℕ) → i < tall S buckets → get_or (N.numbers buckets) i 0 < bound S buckets) → Sound S L → Sound S N
unfolding recount
sound_unread S L N b long low s =
    subst (Sound S) (sym (is_recount b))
    (record {
      rows = s.rows;
      orderly = keep_changed S (roomy S s.rows) L s.orderly buckets not_arrival (λ xs. N.numbers buckets)
          (long ∙ sym (s.orderly.shaped.numbers_long buckets)) low;
      marked = unfold change in s.marked;
    })

-- ---- any calls

module _ {X : Type 0} (call : X → Call → Reply × X) (shows : X → Desk) (long : X → ℕ) (faithful : Faithful call shows long)
    (steady : (x : X) (c : Call) → long (call x c).1 ≡ long x) where
  -- one call, on desks that differ in buckets alone
  abbrev BothAlike : Call → Reply × Desk → Reply × Desk → Type 0
  BothAlike c one other = (is_reading_call c ≡ false → one.0 ≡ other.0) × AgreeBut one.1 other.1

  desk_alike : (n : ℕ) (D E : Desk) → AgreeBut D E → (c : Call) → BothAlike c (desk n D c) (desk n E c)
  desk_alike n D E o (setup T) =
      guarded_both (BothAlike (setup T)) (setup_rules n T) (λ r. (refused r, D)) (λ r. (refused r, E)) (done, has T (start T)) (done, has T (start T))
      (λ r. (λ i. refl, o))
      (λ c. (λ i. refl, both_have T (start T) (start T) (but_self (start T))))
  desk_alike n D E both_none (act a) = (λ i. refl, both_none)
  desk_alike n D E (both_have S L N b) (act a) =
      let o = any_act S L N b a in
      (o.0, both_have S (step S L a).1 (step S N a).1 o.1)

  call_alike : (x y : X) → long x ≡ long y → AgreeBut (shows x) (shows y) → (c : Call)
      → BothAlike c ((call x c).0, shows (call x c).1) ((call y c).0, shows (call y c).1)
  call_alike x y same o c =
      subst (λ (out : Reply × Desk). BothAlike c out ((call y c).0, shows (call y c).1)) (sym (faithful x c))
      (subst (λ (out : Reply × Desk). BothAlike c (desk (long x) (shows x) c) out) (sym (faithful y c))
      (subst (λ (n : ℕ). BothAlike c (desk (long x) (shows x) c) (desk n (shows y) c)) same (desk_alike (long x) (shows x) (shows y) o c)))

  pub waits_unread : (x y : X) → long x ≡ long y → AgreeBut (shows x) (shows y) → (cs : List Call) → WaitsUnread call shows x y cs
  waits_unread x y same o [] = record { agree = o; answers = tt }
  waits_unread x y same o (c ∷ cs) =
      let one = call_alike x y same o c in
      let rest = waits_unread (call x c).1 (call y c).1 (steady x c ∙ same ∙ sym (steady y c)) one.1 cs in
      record { agree = rest.agree; answers = (one.0, rest.answers) }

pub desk_waits_unread : (n : ℕ) (D E : Desk) → AgreeBut D E → (cs : List Call) → WaitsUnread (desk n) (λ D. D) D E cs
desk_waits_unread n D E o cs = waits_unread (desk n) (λ D. D) (λ D. n) (desk_faithful n) (λ D c. refl) D E refl o cs
