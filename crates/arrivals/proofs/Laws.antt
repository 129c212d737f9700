-- What the judge of an arrival and its acts come to, with no code. Assumes nothing.
use mathlib.Core.Path.{◌≡◌, refl, sym, ap, ◌∙◌}
use mathlib.Core.Bool.{true, false}
use mathlib.Core.List.{List, [], ◌∷◌, ◌++◌}
use Prim.Native.Nat.{ℕ, ◌-◌, ◌^◌, ◌≤◌, ◌<◌}
use native.Mathlib.Omega.{arith}
use Rattle.ledger.specs.Settings.{Settings}
use Rattle.ledger.specs.Rules.{Rule, refuse, guard}
use Rattle.ledger.specs.Header.{Form, Fields, form, fields_of, Load, bytes_in, arrival_rules}
use Rattle.ledger.specs.Ledger.{is_node, Packet, recorded, free, ingress, place#, arrival_of, PlaceIn}
use Rattle.ledger.specs.Calls.{refused, entry, arrive, first_of, no_port, lacks, last_rules, rules}
use Rattle.ledger.specs.Sound.{weigh, one, Roomy}
use Rattle.ledger.proofs.Tests.{leb_is, leb_not}
use Rattle.ledger.proofs.Places.{place#_lt}
use Rattle.ledger.proofs.Header.{fields_in}
use Rattle.ledger.proofs.Passes as ledger
use Rattle.ledger.proofs.Steps.{cleared}
use Rattle.header.specs.Judge.{Verdict, bad, good, verdict}
use Rattle.header.proofs.Verdicts.{good_means}
use Rattle.layout.specs.declared.shape.Shape.{Shape}
use Rattle.layout.specs.declared.Table.TheVariants.{Arrival, Count}
use Rattle.layout.specs.Tables.{lists, get}
use Rattle.layout.specs.Shapes.{settings_of}
use Rattle.layout.specs.Picture.{ledger_in}
use Rattle.memory.specs.Ends.{pop_mem, push_mem, Tidy}
use Rattle.memory.specs.Writes.{head_of, record_mem, credit_mem, arrive_mem, mark_mem, refused_mem}
use Rattle.memory.specs.Judged as memory
use Rattle.memory.specs.Judged.{Judgement, judged, Works}
use Rattle.memory.specs.Memory.{acted}
use Rattle.memory.proofs.Chains.{item_node, state_tidy}
use Rattle.memory.proofs.Judged.{judged_clear, acted_good, acted_refused}
use Rattle.memory.proofs.Paint.{empty_is, some_is, counted_some, pop_item, record_kept}
use Rattle.memory.proofs.Pop.{pop_tidy, pop_node, pop_gone}
use Rattle.arrivals.specs.Admission.{Admission, accepted, rejected, packet_for, packet_of, judged_fields, kind_rules, judged_kind, judged_at, judged_arrival}
use Rattle.arrivals.specs.Admission.{CanTakeIn}

-- ---- the packet

pub queue_in_range : (S : Settings) (x : ℕ) (f : Fields) → f.queue < S.queues → (recorded S x f).queue < S.queues
unfolding recorded
queue_in_range S x f h = h

-- ---- the judge of fields

module _ (S : Settings) (ok : Roomy S) (p : ℕ) (hp : p < S.ports) where
  pub lists_in : (place# S (free p) < lists S) × (place# S (ingress p) < lists S)
  lists_in =
      let h : PlaceIn S (free p) = (hp, omega (arith, ok.some_queues)) in
      (place#_lt S (free p) h, place#_lt S (ingress p) h)

  module _ (m : List ℕ) (f : Fields) where
    abbrev k : Packet
    k = packet_for S m p f

    pub no_credit : lacks S (ledger_in S m) p k.queue k.price ≡ true → rejected 10 ≡ judged_fields S m p f
    unfolding judged_fields
    no_credit h = rw h

    module _ (afford : lacks S (ledger_in S m) p k.queue k.price ≡ false) where
      pub no_node : get S m Count (place# S (free p)) ≡ 0 → rejected 11 ≡ judged_fields S m p f
      unfolding judged_fields
      no_node e = rw (afford, empty_is S m (place# S (free p)) lists_in.0 e)

      pub admits : (get S m Count (place# S (free p)) ≡ 0 → ⊥) → accepted k ≡ judged_fields S m p f
      unfolding judged_fields
      admits n = rw (afford, some_is S m (place# S (free p)) lists_in.0 n)

-- ---- the judge of an arrival

-- what a verdict of the header's rules decides, with `out` for what the rules after them say
abbrev carried : {X : Type 0} → (ℕ → X) → X → Verdict → X
carried no' out (bad n) = no' n
carried no' out (good f) = out

by_verdict : {X : Type 0} (rs ts : List Rule) (f : Fields) (no' : ℕ → X) (out : X)
    → carried no' (guard ts no' out) (guard rs bad (good f)) ≡ guard (rs ++ ts) no' out
by_verdict rs ts f no' out = ledger.guard_map (carried no' (guard ts no' out)) rs bad (good f) ∙ sym (ledger.guard_then rs ts no' out)

pub len_in : (F : Form) (n p : ℕ) (h : Load) (f : Fields) → good f ≡ verdict F n p h → f.len < 2 ^ 13
len_in F n p h f e = rw (good_means F n p h f e).0 (fields_in F (bytes_in h)).len

pub known_queue : (F : Form) (n p : ℕ) (h : Load) (f : Fields) → good f ≡ verdict F n p h → f.queue < n
known_queue F n p h f e = let g = good_means F n p h f e in rw g.0 g.1.queue

module _ (S : Settings) (m : List ℕ) (p : ℕ) (h : Load) where
  abbrev told : Fields
  told = fields_of (form S) (bytes_in h)

  pub no_port_lem : S.ports ≤ p → rejected 4 ≡ judged_at S m p h
  unfolding judged_at
  no_port_lem e = rw (leb_is S.ports p e)

  module _ (hp : p < S.ports) where
    by_header : carried rejected (judged_fields S m p told) (verdict (form S) S.queues p h) ≡ judged_at S m p h
    unfolding judged_at judged_fields recorded
    by_header =
        by_verdict (arrival_rules (form S) S.queues p h) (last_rules S (ledger_in S m) p (packet_of S m p h)) told rejected (accepted (packet_of S m p h))
        ∙ rw (leb_not S.ports p hp)

    pub bad_header : (n : ℕ) → bad n ≡ verdict (form S) S.queues p h → rejected n ≡ judged_at S m p h
    bad_header n e = ap (carried rejected (judged_fields S m p told)) e ∙ by_header

    pub good_header : (f : Fields) → good f ≡ verdict (form S) S.queues p h → judged_fields S m p f ≡ judged_at S m p h
    good_header f e =
        ap (judged_fields S m p) (good_means (form S) S.queues p h f e).0
        ∙ ap (carried rejected (judged_fields S m p told)) e
        ∙ by_header

  -- what the kind decides
  abbrev then : Judgement → Admission
  then memory.good = judged_at S m p h
  then (memory.bad n) = rejected n

  by_kind : then (judged_kind S h) ≡ judged_arrival S m p h
  unfolding judged_kind judged_arrival judged_at recorded
  by_kind =
      let others : List Rule = no_port S p ∷ (arrival_rules (form S) S.queues p h ++ last_rules S (ledger_in S m) p (packet_of S m p h)) in
      ledger.guard_map then (kind_rules S h) memory.bad memory.good
      ∙ sym (ledger.guard_then (kind_rules S h) others rejected (accepted (packet_of S m p h)))

  pub bad_kind : (n : ℕ) → memory.bad n ≡ judged_kind S h → rejected n ≡ judged_arrival S m p h
  bad_kind n e = ap then e ∙ by_kind

  pub good_kind : memory.good ≡ judged_kind S h → judged_at S m p h ≡ judged_arrival S m p h
  good_kind e = ap then e ∙ by_kind

-- ---- from the judge to the outcome

abbrev plainly : Admission → Judgement
plainly (accepted k) = memory.good
plainly (rejected n) = memory.bad n

guard_plainly : (rs : List Rule) (k : Packet) → guard rs memory.bad memory.good ≡ plainly (guard rs rejected (accepted k))
guard_plainly [] k = refl
guard_plainly (refuse n true ∷ rs) k = refl
guard_plainly (refuse n false ∷ rs) k = guard_plainly rs k

judged_plainly : (S : Settings) (m : List ℕ) (p : ℕ) (h : Load) → judged S (ledger_in S m) (arrive p h) ≡ plainly (judged_arrival S m p h)
unfolding judged judged_arrival
judged_plainly S m p h = guard_plainly (rules S (ledger_in S m) (arrive p h)) (packet_of S m p h)

pub turned_away : (S : Settings) (m : List ℕ) (p : ℕ) (h : Load) (n : ℕ) → rejected n ≡ judged_arrival S m p h
    → acted S m (arrive p h) ≡ (refused n, mark_mem S p n m)
unfolding refused_mem
turned_away S m p h n e = acted_refused S m (arrive p h) n (judged_plainly S m p h ∙ ap plainly (sym e))

-- what is known once the judge accepted packet k
pub record Arrives (s : Shape) (m : List ℕ) (p : ℕ) (h : Load) (k : Packet) : Type 0 where
  pub take : CanTakeIn s p k m
  pub outcome : acted (settings_of s) m (arrive p h) ≡ (entry k.node, arrive_mem (settings_of s) p k m)

pub arrives : (s : Shape) (m : List ℕ) → Works s m → (p : ℕ) (h : Load) (k : Packet) → accepted k ≡ judged_arrival (settings_of s) m p h → Arrives s m p h k
unfolding judged_arrival recorded
arrives s m w p h k e =
    let S : Settings = settings_of s in
    let fine = judged_plainly S m p h ∙ ap plainly (sym e) in
    let c = judged_clear S (ledger_in S m) (arrive p h) fine in
    let a = ledger.admits S (ledger_in S m) p h c in
    let inside = (lists_in S s.laid.roomy p a.port).0 in
    let f = e ∙ cleared (rules S (ledger_in S m) (arrive p h)) rejected (accepted (packet_of S m p h)) c in
    let is : k ≡ packet_of S m p h = cc in
    let first : (first_of S (ledger_in S m) (free p)).node ≡ head_of S m (free p) =
    ap (λ (j : Packet). j.node) (pop_item S s.laid.roomy m (state_tidy S m w.state) (place# S (free p)) inside a.some)
    ∙ item_node S m (place# S (free p)) (head_of S m (free p)) in
    record {
      take = record {
        tidy = state_tidy S m w.state;
        port = a.port;
        queue = rw is (queue_in_range S (head_of S m (free p)) (fields_of (form S) (bytes_in h)) a.header.queue);
        some = counted_some S m (place# S (free p)) inside a.some;
        node = ap (λ (j : Packet). j.node) is;
        afford = rw is a.afford;
      };
      outcome = acted_good S m (arrive p h) fine ∙ rw (first, is);
    }

-- ---- taking it in

module _ (s : Shape) (p : ℕ) (k : Packet) (m : List ℕ) (t : CanTakeIn s p k m) where
  abbrev S : Settings
  S = settings_of s

  abbrev popped : List ℕ
  popped = pop_mem S (place# S (free p)) m

  inside : place# S (free p) < lists S
  inside = (lists_in S s.laid.roomy p t.port).0

  pub popped_tidy : Tidy S popped
  popped_tidy = pop_tidy S m (place# S (free p)) t.tidy inside t.some

  pub node_on : is_node S k.node ≡ true
  node_on = rw t.node (pop_node S m (place# S (free p)) t.tidy inside t.some)

  node_gone : weigh (one k.node) (ledger_in S popped).lists ≡ 0
  node_gone = rw t.node (pop_gone S m (place# S (free p)) t.tidy inside t.some)

  pub recorded_tidy : Tidy S (record_mem S k popped)
  recorded_tidy = (record_kept S s.laid.roomy popped popped_tidy k.node node_on node_gone k refl).tidy

-- the four writes, one after another
pub taken_in : (S : Settings) (p : ℕ) (k : Packet) (m : List ℕ) {m₁ m₂ m₃ m₄ : List ℕ} {b x v q n : ℕ}
    → m₁ ≡ pop_mem S (place# S (free p)) m
    → m₂ ≡ record_mem S k m₁
    → m₃ ≡ push_mem S b x m₂
    → b ≡ place# S (ingress p)
    → x ≡ k.node
    → m₄ ≡ credit_mem S Arrival p q (v - n) m₃
    → q ≡ k.queue
    → n ≡ k.price
    → v ≡ arrival_of S (ledger_in S m) p q
    → m₄ ≡ arrive_mem S p k m
unfolding arrive_mem
taken_in S p k m pop rec push to node pay queue price credit = cc
