-- The customer's night, continued: an arrival is answered by its own port's free list, credit and mark; and had a port's refused arrivals
-- never been sent, nothing would differ but its mark. Assumes nothing.
use mathlib.Core.Path.{◌≡◌, refl, sym, ap, ◌∙◌, subst}
use mathlib.Core.Logic.{◌≢◌, ◌⊎◌, inl, inr, ⊎_elim}
use mathlib.Core.Bool.{Bool, true, false, cond}
use mathlib.Core.List.{List, [], ◌∷◌}
use Prim.Native.Nat.{ℕ, zero, suc, ◌+◌, ◌-◌, ◌<◌}
use native.Mathlib.Omega.{arith}
use native.Mathlib.Decide.{ℕ_discrete}
use lib.ListN.{length, get_or, set, length-set}
use lib.Seq.{get_or-set_other}
use lib.Dec.{eqb, ltb}
use Rattle.ledger.specs.Settings.{Settings}
use Rattle.ledger.specs.Rules.{Rule, guard}
use Rattle.ledger.specs.Header.{form, fields_of, Load, bytes_in}
use Rattle.ledger.specs.Ledger.{owner, Packet, bare, recorded, Place, free, ingress, egress, prefetched, place#, credit_at, set_credit, Column, column#}
use Rattle.ledger.specs.Buckets.{Clock, untimed, at, wait_of, bucket_of, one_more, bucket#}
use Rattle.ledger.specs.Ledger.{arrival, outward, last, mapped, halted, buckets, Ledger, arrival_of, outward_of, last_of, map_of, mark_of}
use Rattle.ledger.specs.Ledger.{oldest, pop, push, move, change, put_in}
use Rattle.ledger.specs.Ready.{is_ready, ready_word, pick}
use Rattle.ledger.specs.Halt.{marks, held_up, OnlyMark}
use Rattle.ledger.specs.Calls.{Act, arrive, stitch, prefetch, credit, map_to, turn, ready, where_is, clear, report, bucket, show, is_arrival}
use Rattle.ledger.specs.Calls.{Reply, refused, entry, idle, reported, first_of, arriving, sound_rules, last_rules, arrived, served, ticked, serve}
use Rattle.ledger.specs.Calls.{rules, result, marked_for, on_refusal, step}
use Rattle.ledger.specs.Sound.{All, Orderly}
use Rattle.ledger.specs.Desk.{Desk, has, Call, setup, act, desk, after_calls, answers_of, SetupsRefused}
use Rattle.ledger.specs.Night.{AgreeAt, refused_at, others, asked, AlikeBut, OwnMarkAlone, HaltLasts}
use Rattle.ledger.proofs.Tests.{true≢false, eqb_is, eqb_not, ltb_not, and_left, and_right}
use Rattle.ledger.proofs.Columns.{other_column, change_here, change_other, only_changed}
use Rattle.ledger.proofs.Buckets.{ticked_numbers}
use Rattle.ledger.proofs.Halt.{marks_first, marked_by, not_held}
use Rattle.ledger.proofs.Passes.{guard_then, guard_after, comes, comes_clear, Admits, admits}
use Rattle.ledger.proofs.Steps.{guarded_both, cleared, stepped, refused_by, refused_else}
use Rattle.ledger.proofs.Promises.{refusal_marks}
use Rattle.ledger.proofs.Courses.{Faithful, act_answer, act_shows, refused_shows, desk_faithful}

-- ---- two ledgers under the same rules

-- ---- an arrival reads its own port's free list, credit and mark

module _ (S : Settings) (L N : Ledger) (r : ℕ) (h : Load) (g : AgreeAt S r L N) where
  -- the rules that read the ledger are the same, of a queue that the switch has
  same_last : (arriving S L r h).queue < S.queues → last_rules S N r (arriving S N r h) ≡ last_rules S L r (arriving S L r h)
  unfolding recorded
  same_last low = rw (g.same_free, g.same_mark, g.same_credit (fields_of (form S) (bytes_in h)).queue low)

  pub same_answer : (step S N (arrive r h)).0 ≡ (step S L (arrive r h)).0
  same_answer =
      let first : List Rule = sound_rules S r h in
      let no₁ : ℕ → Reply × Ledger = λ n. (refused n, on_refusal S n (arrive r h) N) in
      let no₂ : ℕ → Reply × Ledger = λ n. (refused n, on_refusal S n (arrive r h) L) in
      let out₁ : Reply × Ledger = result S N (arrive r h) in
      let out₂ : Reply × Ledger = result S L (arrive r h) in
      let last₁ : List Rule = last_rules S N r (arriving S N r h) in
      let last₂ : List Rule = last_rules S L r (arriving S L r h) in
      rw (guard_then first last₁ no₁ out₁, guard_then first last₂ no₂ out₂)
      (guarded_both Same first no₁ no₂ (guard last₁ no₁ out₁) (guard last₂ no₂ out₂)
      (λ n. refl)
      (λ c.
      subst (λ (rs : List Rule). Same (guard rs no₁ out₁) (guard last₂ no₂ out₂))
      (sym (same_last (unfold recorded in (comes S r h c).header.queue)))
      (guarded_both Same last₂ no₁ no₂ out₁ out₂ (λ n. refl) (λ d. ap (λ (ks : List Packet). entry (oldest ks).node) g.same_free))))
    where
      Same : Reply × Ledger → Reply × Ledger → Type 0
      Same a b = a.0 ≡ b.0

-- ---- what refused arrivals at one port leave to the others

-- ledgers that differ in port p's mark alone agree on what an arrival at another port reads
pub agree_elsewhere : (S : Settings) (L N : Ledger) (p r : ℕ) → OnlyMark p L N → r ≢ p → AgreeAt S r L N
agree_elsewhere S L N p r o other = record {
  same_free = ap (λ (ls : List (List Packet)). get_or ls (place# S (free r)) []) o.same_lists;
  same_credit = λ q low. ap (λ (xs : List ℕ). credit_at S xs r q) (o.same_numbers arrival (other_column arrival halted (omega arith)));
  same_mark = o.other_marks r other;
}

pub refused_agree : (S : Settings) (L : Ledger) → Orderly S L → (p : ℕ) (h : Load) (n : ℕ) → (step S L (arrive p h)).0 ≡ refused n
    → (r : ℕ) → r ≢ p → AgreeAt S r L (step S L (arrive p h)).1
refused_agree S L s p h n e r other = agree_elsewhere S L (step S L (arrive p h)).1 p r (refusal_marks S L s p h n e).only other

-- ---- side by side: the ledger L, and N, what it would be had port p's refused arrivals never been sent

-- a number put in two lists of the same length: they agree where they did, and at its place
put_alike : (xs ys : List ℕ) (i v j : ℕ) → length xs ≡ length ys → (j ≢ i → get_or xs j 0 ≡ get_or ys j 0) → get_or (set xs i v) j 0 ≡ get_or (set ys i v) j 0
put_alike [] [] i v j long same = refl
put_alike [] (y ∷ ys) i v j long same = absurd (omega arith)
put_alike (x ∷ xs) [] i v j long same = absurd (omega arith)
put_alike (x ∷ xs) (y ∷ ys) zero v zero long same = refl
put_alike (x ∷ xs) (y ∷ ys) zero v (suc j) long same = same (omega arith)
put_alike (x ∷ xs) (y ∷ ys) (suc i) v zero long same = same (omega arith)
put_alike (x ∷ xs) (y ∷ ys) (suc i) v (suc j) long same = put_alike xs ys i v j (omega arith) (λ n. same (omega arith))

-- they differ in p's mark alone, which in N is L's or none; both have as many marks, so that a mark put in both is in both or in neither
record Behind (p : ℕ) (N L : Ledger) : Type 0 where
  only : OnlyMark p N L
  low : (mark_of N p ≡ mark_of L p) ⊎ (mark_of N p ≡ 0)
  long : length (L.numbers halted) ≡ length (N.numbers halted)

behind_self : (p : ℕ) (L : Ledger) → Behind p L L
behind_self p L = record {
  only = record { same_lists = refl; same_numbers = λ c n. refl; other_marks = λ r n. refl };
  low = inl refl;
  long = refl;
}

module _ {p : ℕ} {N L : Ledger} (b : Behind p N L) where
  behind_move : (S : Settings) (v w : Place) (k : Packet) → Behind p (move S v w k N) (move S v w k L)
  unfolding move
  behind_move S v w k = record {
    only = record {
      same_lists = ap (λ (ls : List (List Packet)). push (place# S w) k (pop (place# S v) ls)) b.only.same_lists;
      same_numbers = b.only.same_numbers;
      other_marks = b.only.other_marks;
    };
    low = b.low;
    long = b.long;
  }

  behind_change : (c : Column) (f : List ℕ → List ℕ) → c ≢ halted → Behind p (change c f N) (change c f L)
  behind_change c f n = record {
    only = record {
      same_lists = unfold change in b.only.same_lists;
      same_numbers = λ d m. unfold change in
          ap (λ (xs : List ℕ). cond (eqb (column# c) (column# d)) (f xs) xs) (b.only.same_numbers d m);
      other_marks = λ r m. rw (change_other c f L halted n, change_other c f N halted n) (b.only.other_marks r m);
    };
    low = rw (change_other c f L halted n, change_other c f N halted n) b.low;
    long = rw (change_other c f L halted n, change_other c f N halted n) b.long;
  }

  behind_put : (r v : ℕ) → Behind p (put_in halted r v N) (put_in halted r v L)
  unfolding change
  behind_put r v = record {
    only = record {
      same_lists = b.only.same_lists;
      same_numbers = λ d m. ap (λ (xs : List ℕ). cond (eqb (column# halted) (column# d)) (set xs r v) xs) (b.only.same_numbers d m);
      other_marks = λ i m. put_alike (L.numbers halted) (N.numbers halted) r v i b.long (λ n. b.only.other_marks i m);
    };
    low = at (ℕ_discrete p r);
    long = length-set (L.numbers halted) r v ∙ b.long ∙ sym (length-set (N.numbers halted) r v);
  }
    where
      at : Dec (p ≡ r) → (mark_of (put_in halted r v N) p ≡ mark_of (put_in halted r v L) p) ⊎ (mark_of (put_in halted r v N) p ≡ 0)
      at (yes e) = inl (sym (put_alike (L.numbers halted) (N.numbers halted) r v p b.long (λ n. absurd (n e))))
      at (no n) = rw (get_or-set_other (L.numbers halted) r p v 0 n, get_or-set_other (N.numbers halted) r p v 0 n) b.low

  -- p's own mark, put in L alone: L had none, so N has none
  behind_marked : (S : Settings) (n : ℕ) → Behind p N (marked_for S p n L)
  unfolding change
  behind_marked S n = marked_by S p n L (Behind p N) put (λ e. b)
    where
      put : marks S p (mark_of L p) n ≡ true → Behind p N (put_in halted p n L)
      put e = record {
        only = record {
          same_lists = b.only.same_lists;
          same_numbers = λ d m. change_other halted (λ xs. set xs p n) L d (λ i. m (sym i)) ∙ b.only.same_numbers d m;
          other_marks = λ r m. get_or-set_other (L.numbers halted) p r n 0 m ∙ b.only.other_marks r m;
        };
        low = inr (⊎_elim (λ i. i ∙ marks_first S p (mark_of L p) n e) (λ i. i) b.low);
        long = length-set (L.numbers halted) p n ∙ b.long;
      }

  -- a mark at another port, put in both or in none
  behind_both_marked : (S : Settings) (r n : ℕ) → r ≢ p → Behind p (marked_for S r n N) (marked_for S r n L)
  unfolding marked_for
  behind_both_marked S r n other = rw (b.only.other_marks r other) (go (marks S r (mark_of N r) n))
    where
      go : (m : Bool) → Behind p (cond m (put_in halted r n N) N) (cond m (put_in halted r n L) L)
      go true = behind_put r n
      go false = b

-- ---- one act on both

-- the ledger with other marks: what doesn't read them computes to the same on both
unfoldable remark : List ℕ → Ledger → Ledger
remark ys N = change halted (λ xs. ys) N

is_remark : {p : ℕ} {N L : Ledger} → OnlyMark p N L → L ≡ remark (L.numbers halted) N
unfolding remark
is_remark {p} {N} {L} o = only_changed halted N L o.same_lists o.same_numbers

-- what both answer and leave: the same answer, but to p's report
abbrev Alike : ℕ → Act → Reply × Ledger → Reply × Ledger → Type 0
Alike p a sent unsent = (a ≢ report p → unsent.0 ≡ sent.0) × Behind p unsent.1 sent.1

-- one act: port p's refused arrival, which N doesn't get, or any other, which both get
record Kept (p : ℕ) (a : Act) (N : Ledger) (sent unsent : Reply × Ledger) : Type 0 where
  dropped : refused_at p a sent.0 ≡ true → Behind p N sent.1
  sent_too : refused_at p a sent.0 ≡ false → Alike p a sent unsent

module _ (S : Settings) (p : ℕ) (ys : List ℕ) (N : Ledger) (b : Behind p N (remark ys N)) where
  served_alike : (r q : ℕ) (k : Packet) → Behind p (served S N r q k) (served S (remark ys N) r q k)
  unfolding remark change served
  served_alike r q k =
      let home : ℕ = owner k.node in
      behind_change
      (behind_change
      (behind_change (behind_move b S (prefetched r q) (free home) (bare k.node)) arrival
      (λ xs. set_credit S xs home q (arrival_of S N home q + k.price)) (other_column arrival halted (omega arith)))
      outward (λ xs. set_credit S xs r q (outward_of S N r q - k.price)) (other_column outward halted (omega arith)))
      last (λ xs. set xs r q) (other_column last halted (omega arith))

  -- a tick reads and changes buckets alone
  ticked_alike : (c : Clock) (r : ℕ) (k : Packet) (A B : Ledger) → Behind p A B → Behind p (ticked c r k A) (ticked c r k B)
  unfolding ticked
  ticked_alike untimed r k A B o = o
  ticked_alike (at time) r k A B o =
      let i : ℕ = bucket# r (bucket_of (wait_of time k.stamp)) in
      let same = ap (λ (xs : List ℕ). one_more (get_or xs i 0)) (o.only.same_numbers buckets (other_column buckets halted (omega arith))) in
      subst (λ (v : ℕ). Behind p (put_in buckets i (one_more (get_or (A.numbers buckets) i 0)) A) (put_in buckets i v B)) (sym same)
      (behind_change o buckets (λ xs. set xs i (one_more (get_or (A.numbers buckets) i 0))) (other_column buckets halted (omega arith)))

  -- where no rule applies, nothing but a report reads a mark
  result_alike : (a : Act) → Alike p a (result S (remark ys N) a) (result S N a)
  unfolding remark change arrived ready_word is_ready
  result_alike (arrive r h) =
      let k : Packet = arriving S N r h in (
        λ n. refl,
        behind_change (behind_move b S (free r) (ingress r) k) arrival (λ xs. set_credit S xs r k.queue (arrival_of S N r k.queue - k.price))
            (other_column arrival halted (omega arith)),
      )
  result_alike (stitch r) =
      let k : Packet = first_of S N (ingress r) in
      (λ n. refl, behind_move b S (ingress r) (egress (map_of N k.dest) k.queue) k)
  result_alike (prefetch r q) = (λ n. refl, behind_move b S (egress r q) (prefetched r q) (first_of S N (egress r q)))
  result_alike (credit r q n) =
      (λ n. refl, behind_change b outward (λ xs. set_credit S xs r q (outward_of S N r q + n)) (other_column outward halted (omega arith)))
  result_alike (map_to d r) = (λ n. refl, behind_change b mapped (λ xs. set xs d r) (other_column mapped halted (omega arith)))
  result_alike (turn c r) = go (eqb (ready_word S N r) 0)
    where
      q : ℕ
      q = pick (last_of N r) (ready_word S N r)

      go : (m : Bool) → Alike p (turn c r) (cond m (idle, remark ys N) (serve S (remark ys N) c r q)) (cond m (idle, N) (serve S N c r q))
      go true = (λ n. refl, b)
      go false =
          let k : Packet = first_of S N (prefetched r q) in
          (λ n. refl, ticked_alike c r k (served S N r q k) (served S (remark ys N) r q k) (served_alike r q k))
  result_alike (ready r) = (λ n. refl, b)
  result_alike (where_is y) = (λ n. refl, b)
  result_alike (clear r) = (λ n. refl, behind_put b r 0)
  result_alike (report r) = (λ n. ap reported (sym (b.only.other_marks r (λ e. n (ap report e)))), b)
  result_alike (bucket r d) = (λ n. refl, b)
  result_alike (show ns r d) = (λ n. refl, b)

  -- nor do the rules, but an arrival's
  else_rules : (a : Act) → is_arrival a ≡ false → rules S (remark ys N) a ≡ rules S N a
  unfolding remark change
  else_rules (arrive r h) i = absurd (true≢false i)
  else_rules (stitch r) i = refl
  else_rules (prefetch r q) i = refl
  else_rules (credit r q n) i = refl
  else_rules (map_to d r) i = refl
  else_rules (turn c r) i = refl
  else_rules (ready r) i = refl
  else_rules (where_is y) i = refl
  else_rules (clear r) i = refl
  else_rules (report r) i = refl
  else_rules (bucket r d) i = refl
  else_rules (show ns r d) i = refl

  -- and those read their own port's
  elsewhere_rules : (r : ℕ) (h : Load) → r ≢ p → rules S (remark ys N) (arrive r h) ≡ rules S N (arrive r h)
  unfolding remark change
  elsewhere_rules r h other = rw (b.only.other_marks r other)

  -- by the same rules both do alike, if they do so where they are refused
  both_alike : (a : Act) → rules S (remark ys N) a ≡ rules S N a → ((n : ℕ) → Behind p (on_refusal S n a N) (on_refusal S n a (remark ys N)))
      → Alike p a (step S (remark ys N) a) (step S N a)
  both_alike a same left =
      let no₁ : ℕ → Reply × Ledger = λ n. (refused n, on_refusal S n a (remark ys N)) in
      let no₂ : ℕ → Reply × Ledger = λ n. (refused n, on_refusal S n a N) in
      subst (λ (rs : List Rule). Alike p a (guard rs no₁ (result S (remark ys N) a)) (step S N a)) (sym same)
      (guarded_both (Alike p a) (rules S N a) no₁ no₂ (result S (remark ys N) a) (result S N a) (λ n. (λ i. refl, left n)) (λ c. result_alike a))

  -- an arrival at p that L takes in, N takes in: its mark is L's, or none
  taken_too : (h : Load) → Admits S (remark ys N) p h → step S N (arrive p h) ≡ result S N (arrive p h)
  unfolding remark change
  taken_too h a =
      let k : Packet = arriving S N p h in
      let no' : ℕ → Reply × Ledger = λ n. (refused n, on_refusal S n (arrive p h) N) in
      let out : Reply × Ledger = result S N (arrive p h) in
      let goes : held_up k.queue (mark_of N p) ≡ false = ⊎_elim (λ e. rw e a.is_going_on) (λ e. rw e (not_held k.queue)) b.low in
      let pays : ltb (arrival_of S N p k.queue) k.price ≡ false = ltb_not (arrival_of S N p k.queue) k.price a.afford in
      guard_after (sound_rules S p h) (last_rules S N p k) no' out (comes_clear S p h a.sound)
      ∙ cleared (last_rules S N p k) no' out (rw (goes, pays), (a.some, tt))

  own_arrival_lem : (h : Load) → Kept p (arrive p h) N (step S (remark ys N) (arrive p h)) (step S N (arrive p h))
  own_arrival_lem h =
      stepped S (remark ys N) (arrive p h) (λ out. Kept p (arrive p h) N out (step S N (arrive p h)))
      (λ n. record {
        dropped = λ e. unfold on_refusal in (behind_marked b S n);
        sent_too = λ e. absurd (true≢false (rw (eqb_is p p refl) at e));
      })
      (λ c. record {
        dropped = λ e. absurd (true≢false (sym (and_right (eqb p p) false e)));
        sent_too = λ e. rw (taken_too h (admits S (remark ys N) p h c)) (result_alike (arrive p h));
      })

  else_act : (a : Act) → is_arrival a ≡ false → refused_at p a (step S (remark ys N) a).0 ≡ false
      → Kept p a N (step S (remark ys N) a) (step S N a)
  else_act a i other = record {
    dropped = λ e. absurd (true≢false (sym e ∙ other));
    sent_too = λ e. both_alike a (else_rules a i) (λ n. rw (refused_else S n a N i, refused_else S n a (remark ys N) i) b);
  }

  one_act : (a : Act) → Kept p a N (step S (remark ys N) a) (step S N a)
  one_act (arrive r h) = at (ℕ_discrete r p)
    where
      at : Dec (r ≡ p) → Kept p (arrive r h) N (step S (remark ys N) (arrive r h)) (step S N (arrive r h))
      at (yes e) = subst (λ (i : ℕ). Kept p (arrive i h) N (step S (remark ys N) (arrive i h)) (step S N (arrive i h))) (sym e) (own_arrival_lem h)
      at (no other) = record {
        dropped = λ e. absurd (true≢false (sym (and_left (eqb r p) _ e) ∙ eqb_not r p other));
        sent_too = λ e. both_alike (arrive r h) (elsewhere_rules r h other) (λ n. unfold on_refusal in (behind_both_marked b S r n other));
      }
  one_act (stitch r) = else_act (stitch r) refl refl
  one_act (prefetch r q) = else_act (prefetch r q) refl refl
  one_act (credit r q n) = else_act (credit r q n) refl refl
  one_act (map_to d r) = else_act (map_to d r) refl refl
  one_act (turn c r) = else_act (turn c r) refl refl
  one_act (ready r) = else_act (ready r) refl refl
  one_act (where_is y) = else_act (where_is y) refl refl
  one_act (clear r) = else_act (clear r) refl refl
  one_act (report r) = else_act (report r) refl refl
  one_act (bucket r d) = else_act (bucket r d) refl refl
  one_act (show ns r d) = else_act (show ns r d) refl refl

any_act : (S : Settings) (p : ℕ) (N L : Ledger) → Behind p N L → (a : Act) → Kept p a N (step S L a) (step S N a)
any_act S p N L b a =
    let same = is_remark b.only in
    subst (λ (M : Ledger). Kept p a N (step S M a) (step S N a)) (sym same)
    (one_act S p (L.numbers halted) N (subst (Behind p N) same b) a)

-- ---- any calls

module _ {X : Type 0} (call : X → Call → Reply × X) (shows : X → Desk) (long : X → ℕ) (faithful : Faithful call shows long) (S : Settings) where
  pub arrival_alike : (x y : X) (L N : Ledger) → shows x ≡ has S L → shows y ≡ has S N → (r : ℕ) → AgreeAt S r L N → (h : Load)
      → (call y (act (arrive r h))).0 ≡ (call x (act (arrive r h))).0
  arrival_alike x y L N e f r g h =
      act_answer call shows long faithful S y N f (arrive r h)
      ∙ same_answer S L N r h g
      ∙ sym (act_answer call shows long faithful S x L e (arrive r h))

  module _ (p : ℕ) where
    -- what two courses of calls show at their ends, and how the second answers what the first was asked too
    record Course (sent-desk unsent-desk : Desk) (left : List (Act × Reply)) (xs : List Reply) : Type 0 where
      sent : Ledger
      unsent : Ledger
      shown : sent-desk ≡ has S sent
      shown_without : unsent-desk ≡ has S unsent
      behind : Behind p unsent sent
      answers : AlikeBut p left xs

    -- the calls cs on x, and on y those that are left of them
    abbrev Alongside : X → X → List Call → List (Act × Reply) → Type 0
    Alongside x y cs left = Course (shows (after_calls call x cs)) (shows (after_calls call y (asked left))) left (answers_of call y (asked left))

    -- one act before calls that are known to go so from whatever shows a ledger behind
    first_act : (x y : X) (L N : Ledger) → shows x ≡ has S L → shows y ≡ has S N → Behind p N L → (a : Act) (cs : List Call) (left : List (Act × Reply))
        → ((z : X) (M : Ledger) → shows z ≡ has S M → Behind p M (step S L a).1 → Alongside (call x (act a)).1 z cs left)
        → Alongside x y (act a ∷ cs) (cond (refused_at p a (call x (act a)).0) left ((a, (call x (act a)).0) ∷ left))
    first_act x y L N e f b a cs left then' = go (refused_at p a r) refl
      where
        r : Reply
        r = (call x (act a)).0

        same : r ≡ (step S L a).0
        same = act_answer call shows long faithful S x L e a

        both : Kept p a N (step S L a) (step S N a)
        both = any_act S p N L b a

        go : (m : Bool) → refused_at p a r ≡ m → Alongside x y (act a ∷ cs) (cond m left ((a, r) ∷ left))
        go true i = then' y N f (both.dropped (ap (refused_at p a) (sym same) ∙ i))
        go false i =
            let t = both.sent_too (ap (refused_at p a) (sym same) ∙ i) in
            let o = then' (call y (act a)).1 (step S N a).1 (act_shows call shows long faithful S y N f a) t.1 in
            record {
              sent = o.sent;
              unsent = o.unsent;
              shown = o.shown;
              shown_without = o.shown_without;
              behind = o.behind;
              answers = (λ n. act_answer call shows long faithful S y N f a ∙ t.0 n ∙ sym same, o.answers);
            }

    alongside : (x y : X) (L N : Ledger) → shows x ≡ has S L → shows y ≡ has S N → Behind p N L → (cs : List Call) → SetupsRefused call x cs
        → Alongside x y cs (others p cs (answers_of call x cs))
    alongside x y L N e f b [] g = record { sent = L; unsent = N; shown = e; shown_without = f; behind = b; answers = tt }
    alongside x y L N e f b (setup T ∷ cs) g =
        alongside (call x (setup T)).1 y L N (refused_shows call shows long faithful S x (setup T) refl (g.0 refl) ∙ e) f b cs g.1
    alongside x y L N e f b (act a ∷ cs) g =
        let x' : X = (call x (act a)).1 in
        let e' = act_shows call shows long faithful S x L e a in
        first_act x y L N e f b a cs (others p cs (answers_of call x' cs))
        (λ z M i c. alongside x' z (step S L a).1 M e' i c cs g.1)

  pub own_mark_alone : (x : X) (L : Ledger) → shows x ≡ has S L → (p : ℕ) (cs : List Call) → SetupsRefused call x cs → OwnMarkAlone call shows S p x cs
  own_mark_alone x L e p cs f =
      let o = alongside p x x L L e e (behind_self p L) cs f in
      record {
        sent = o.sent;
        unsent = o.unsent;
        shown = o.shown;
        shown_without = o.shown_without;
        only = o.behind.only;
        answers = o.answers;
      }

pub desk_own_mark_alone : (n : ℕ) (S : Settings) (L : Ledger) (p : ℕ) (cs : List Call) → SetupsRefused (desk n) (has S L) cs
    → OwnMarkAlone (desk n) (λ D. D) S p (has S L) cs
desk_own_mark_alone n S L = own_mark_alone (desk n) (λ D. D) (λ D. n) (desk_faithful n) S (has S L) L refl

-- ---- a halt lasts until it is cleared

module _ (S : Settings) (p : ℕ) (L : Ledger) (some : 0 < mark_of L p) where
  -- no refusal changes a mark that stands
  refused_lasts : (a : Act) (n : ℕ) → mark_of (on_refusal S n a L) p ≡ mark_of L p
  refused_lasts a n = refused_by S n a L (λ N. mark_of N p ≡ mark_of L p) refl (λ r. marked_by S r n L (λ N. mark_of N p ≡ mark_of L p) (set_at r) (λ e. refl))
    where
      set_at : (r : ℕ) → marks S r (mark_of L r) n ≡ true → mark_of (put_in halted r n L) p ≡ mark_of L p
      set_at r e =
          rw (change_here halted (λ xs. set xs r n) L)
          (get_or-set_other (L.numbers halted) r p n 0 (λ i. omega (arith, some, marks_first S r (mark_of L r) n e, ap (mark_of L) i)))

  -- nor does anything but a clear of this port
  result_lasts : (a : Act) → a ≢ clear p → mark_of (result S L a).1 p ≡ mark_of L p
  result_lasts (arrive r h) d = unfold arrived change move in refl
  result_lasts (stitch r) d = unfold move in refl
  result_lasts (prefetch r q) d = unfold move in refl
  result_lasts (credit r q n) d = unfold change in refl
  result_lasts (map_to i r) d = unfold change in refl
  result_lasts (turn c r) d = go (eqb (ready_word S L r) 0)
    where
      q : ℕ
      q = pick (last_of L r) (ready_word S L r)

      go : (b : Bool) → mark_of (cond b (idle, L) (serve S L c r q)).1 p ≡ mark_of L p
      go true = refl
      go false =
          let k : Packet = first_of S L (prefetched r q) in
          rw (ticked_numbers c r k (served S L r q k) halted (other_column halted buckets (omega arith))) (unfold served change move in refl)
  result_lasts (ready r) d = refl
  result_lasts (where_is y) d = refl
  result_lasts (clear r) d =
      rw (change_here halted (λ xs. set xs r 0) L) (get_or-set_other (L.numbers halted) r p 0 0 (λ i. d (ap clear (sym i))))
  result_lasts (report r) d = refl
  result_lasts (bucket r b) d = refl
  result_lasts (show ns r q) d = refl

  pub step_lasts : (a : Act) → a ≢ clear p → mark_of (step S L a).1 p ≡ mark_of L p
  step_lasts a d = stepped S L a (λ out. mark_of out.1 p ≡ mark_of L p) (refused_lasts a) (λ c. result_lasts a d)

module _ {X : Type 0} (call : X → Call → Reply × X) (shows : X → Desk) (long : X → ℕ) (faithful : Faithful call shows long) (S : Settings) (p : ℕ) where
  pub halt_lasts : (x : X) (L : Ledger) → shows x ≡ has S L → 0 < mark_of L p → (cs : List Call) → SetupsRefused call x cs
      → All (λ c. c ≢ act (clear p)) cs → HaltLasts call shows S p (mark_of L p) x cs
  halt_lasts x L e some [] f u = record { ledger = L; shown = e; stays = refl }
  halt_lasts x L e some (setup T ∷ cs) f u =
      let o = halt_lasts (call x (setup T)).1 L (refused_shows call shows long faithful S x (setup T) refl (f.0 refl) ∙ e) some cs f.1 u.1 in
      record { ledger = o.ledger; shown = o.shown; stays = o.stays }
  halt_lasts x L e some (act a ∷ cs) f u =
      let same = step_lasts S p L some a (λ i. u.0 (ap act i)) in
      let o = halt_lasts (call x (act a)).1 (step S L a).1 (act_shows call shows long faithful S x L e a) (rw same some) cs f.1 u.1 in
      record { ledger = o.ledger; shown = o.shown; stays = o.stays ∙ same }
