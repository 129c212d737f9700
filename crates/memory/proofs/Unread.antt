-- Neither rounds, runs nor audits read a bucket (paper 02, Q-13): a round is calls none of which is a reading, and so is a run; an audit tells
-- what where answers.
-- Nor do repairs, which write over them all.
-- Assumes nothing.
use mathlib.Core.Path.{◌≡◌, refl, sym, ap, ap₂, ◌∙◌, subst}
use mathlib.Core.Bool.{Bool, true, false, cond}
use mathlib.Core.List.{List, [], ◌∷◌, ◌++◌, map}
use Prim.Native.Nat.{ℕ, zero, suc, ◌*◌, ◌/◌, ◌<◌}
use native.Mathlib.Omega.{arith}
use lib.ListN.{length, drop}
use Rattle.ledger.specs.Settings.{Settings, ids}
use Rattle.ledger.specs.Rules.{guard}
use Rattle.ledger.specs.Ledger.{Ledger}
use Rattle.ledger.specs.Buckets.{untimed}
use Rattle.ledger.specs.Calls.{Act, stitch, prefetch, turn, where_is, Reply, refused, done}
use Rattle.ledger.specs.Desk.{Desk, none, has, Call, act, after_calls, answers_of}
use Rattle.ledger.specs.Sound.{All}
use Rattle.ledger.specs.Repair.{mended}
use Rattle.ledger.specs.Audit.{node_at, place_room, audit_rules}
use Rattle.ledger.specs.Rounds.{each, stitches, prefetches, turns, round_acts, round_rules, round_reply, answers_in, round, Carried, nothing, whole_round}
use Rattle.ledger.specs.Rounds.{done_by}
use Rattle.ledger.specs.Rounds.{turn_answers, runs}
use Rattle.ledger.specs.Header.{form, header_size}
use Rattle.ledger.specs.Tally.{AgreeBut, both_none, both_have, is_reading, is_reading_call, AlikeBut}
use Rattle.ledger.proofs.Lists.{All-append}
use Rattle.ledger.proofs.Chances.{all_each}
use Rattle.ledger.proofs.Steps.{guarded}
use Rattle.fields.specs.Field.{field_at}
use Rattle.fields.specs.Calls.{whole_told}
use Rattle.fields.specs.Orders.{header_in, call_in}
use Rattle.fields.specs.declared.Field.{Field}
use Rattle.fields.specs.declared.Field.TheVariants as field
use Rattle.fields.specs.declared.Order.{Order}
use Rattle.fields.specs.declared.Order.TheVariants.{Setup, Arrive, Stitch, Prefetch, Turn, Credit, Map}
use Rattle.fields.specs.declared.Read.{Read}
use Rattle.fields.specs.declared.Read.TheVariants as read
use Rattle.layout.specs.declared.Table.TheVariants.{Mapped, Buckets}
use Rattle.layout.specs.Tables.{all, get, put}
use Rattle.layout.specs.Picture.{settings_in, opens, StateOf}
use Rattle.layout.proofs.Tables.{length_put, get_put_else, drop_put, settings_put}
use Rattle.memory.specs.Memory.{picture, M}
use Rattle.memory.specs.Demands.{on_memory}
use Rattle.memory.specs.Rounds.{round_on, round_calls, RoundIsCalls}
use Rattle.memory.specs.Runs.{Ask, does, bad, ended, of_call, of_bench, is_own, own_arrival, asked_by, asked_at, goes_on, halts}
use Rattle.memory.specs.Runs.{stretch, stretch_of, run_calls, report_of, RunIsCalls}
use Rattle.memory.specs.Audit.{block, place_told, audited, audit_on}
use Rattle.memory.specs.Image.{setup_mem}
use Rattle.memory.specs.Repair.{repair_mem, repaired}
use Rattle.memory.specs.Tally.{WaitsUnreadInMemory, RoundsUnread, RunsUnread, AuditsUnread, RepairsUnread}
use Rattle.memory.proofs.Picture.{picture_state}
use Rattle.memory.proofs.Demands.{pictured_state, on_settings}
use Rattle.memory.proofs.Tally.{waits_unread_in_memory}
use Rattle.memory.proofs.Rounds.{round_is_calls}
use Rattle.memory.proofs.Runs.{run_is_calls}
use Rattle.memory.proofs.Repair.{fill_ext}
use Rattle.memory.proofs.Audit.{joined_same, audit_on_lem, audit_off}

-- ---- rounds

-- what a round is goes by the settings alone
same_calls : (D E : Desk) → AgreeBut D E → (k : ℕ) → (done_by D (round k)).calls ≡ (done_by E (round k)).calls
same_calls D E both_none k = refl
same_calls D E (both_have S L N b) k = refl

same_reply : (D E : Desk) → AgreeBut D E → (k : ℕ) → round_reply D k ≡ round_reply E k
same_reply D E both_none k = refl
same_reply D E (both_have S L N b) k = refl

-- none of its calls is a reading
abbrev Unreading : List Call → Type 0
Unreading cs = All (λ c. is_reading_call c ≡ false) cs

abbrev Other : Act → Type 0
Other a = is_reading a ≡ false

round_unreading : (S : Settings) → All Other (round_acts S)
unfolding round_acts
round_unreading S =
    All-append Other (stitches S) (prefetches S ++ turns S) (all_each Other (λ p. stitch p ∷ []) S.ports (λ p. (refl, tt)))
    (All-append Other (prefetches S) (turns S)
    (all_each Other (λ p. each (λ q. prefetch p q ∷ []) S.queues) S.ports (λ p. all_each Other (λ q. prefetch p q ∷ []) S.queues (λ q. (refl, tt))))
    (all_each Other (λ p. turn untimed p ∷ []) S.ports (λ p. (refl, tt))))

acts_unreading : (acts : List Act) → All Other acts → Unreading (map act acts)
acts_unreading [] h = tt
acts_unreading (a ∷ acts) h = (h.0, acts_unreading acts h.1)

unreading : (D : Desk) (k : ℕ) → Unreading (done_by D (round k)).calls
unreading none k = tt
unreading (has S L) k =
    guarded {X = Carried} (λ d. Unreading d.calls) (round_rules S k) (λ r. nothing) (whole_round S) (λ r. tt)
    (λ c. acts_unreading (round_acts S) (round_unreading S))

same_answers : (m n : List ℕ) (cs : List Call) → AlikeBut cs (answers_of on_memory m cs) (answers_of on_memory n cs) → Unreading cs
    → answers_of on_memory m cs ≡ answers_of on_memory n cs
same_answers m n [] a h = refl
same_answers m n (c ∷ cs) a h = ap₂ (λ (r : Reply) (rs : List Reply). r ∷ rs) (a.0 h.0) (same_answers (M c m).1 (M c n).1 cs a.1 h.1)

-- two rounds' outcomes that differ in the memories' buckets alone
abbrev Same : Reply × List ℕ × List ℕ → Reply × List ℕ × List ℕ → Type 0
Same one other = (one.0 ≡ other.0) × (one.2 ≡ other.2) × AgreeBut (picture one.1) (picture other.1)

pub rounds_unread : RoundsUnread
unfolding RoundsUnread RoundIsCalls WaitsUnreadInMemory
rounds_unread m n same o room =
    let k : ℕ = length room in
    let cs : List Call = round_calls m room in
    let ds : List Call = round_calls n room in
    let is : cs ≡ ds = same_calls (picture m) (picture n) o k in
    let w = waits_unread_in_memory m n same o cs in
    let told = same_answers m n cs w.answers (unreading (picture m) k) in
    subst (λ (out : Reply × List ℕ × List ℕ). Same out (round_on n room)) (sym (round_is_calls m room))
    (subst (Same (round_reply (picture m) k, after_calls on_memory m cs, answers_in (turn_answers cs (answers_of on_memory m cs)) room))
    (sym (round_is_calls n room))
    (subst
    (λ (es : List Call).
    (round_reply (picture m) k ≡ round_reply (picture n) k)
    × (answers_in (turn_answers cs (answers_of on_memory m cs)) room ≡ answers_in (turn_answers es (answers_of on_memory n es)) room)
    × AgreeBut (picture (after_calls on_memory m cs)) (picture (after_calls on_memory n es)))
    is
    (same_reply (picture m) (picture n) o k, ap (λ (rs : List Reply). answers_in (turn_answers cs rs) room) told, w.agree)))

-- ---- runs

-- no field asks for a reading
abbrev Asks : Ask → Type 0
Asks (does a next) = Other a
Asks bad = Unit
Asks ended = Unit

order_asks : (order : Order) (h : List ℕ) (next : ℕ) → Asks (of_call (call_in order h) next)
order_asks (Setup nodes beat slots credit) h next = tt
order_asks (Arrive port at) h next = refl
order_asks (Stitch port) h next = refl
order_asks (Prefetch port queue) h next = refl
order_asks (Turn port) h next = refl
order_asks (Credit port queue amount) h next = refl
order_asks (Map id port) h next = refl

bench_asks : (s : List ℕ) (r : Read) → Asks (of_bench s r)
bench_asks s (read.Call order next) = order_asks order (header_in s order) next
bench_asks s read.Bad = tt
bench_asks s read.End = tt

field_asks : (size : ℕ) (s : List ℕ) (f : Field) → Asks (asked_by size s f)
field_asks size s (field.Whole tag v len next) = go (is_own size tag len)
  where
    go : (b : Bool) → Asks (cond b (does (own_arrival size s v) next) (of_bench s (whole_told s tag v len next)))
    go true = refl
    go false = bench_asks s (whole_told s tag v len next)
field_asks size s field.Cut = tt
field_asks size s field.End = tt

stretch_unreading : (size : ℕ) (s : List ℕ) (n at : ℕ) → All Other (stretch size s n at).acts
unfolding stretch asked_at
stretch_unreading size s zero at = go (asked_at size s at)
  where
    go : (a : Ask) → All Other (halts a).acts
    go (does a next) = tt
    go bad = tt
    go ended = tt
stretch_unreading size s (suc n) at = go (asked_at size s at) (field_asks size s (field_at s at)) (λ next. stretch_unreading size s n next)
  where
    go : (a : Ask) → Asks a → ((next : ℕ) → All Other (stretch size s n next).acts) → All Other (goes_on a (λ next. stretch size s n next)).acts
    go (does a next) h rec = (h, rec next)
    go bad h rec = tt
    go ended h rec = tt

-- what a run is goes by the settings alone
abbrev run_at : Desk → List ℕ → ℕ → List Call
run_at D s k = (done_by D (runs (λ S. (stretch_of S s k).acts))).calls

same_run : (D E : Desk) → AgreeBut D E → (s : List ℕ) (k : ℕ) → (run_at D s k ≡ run_at E s k) × (report_of D s k ≡ report_of E s k)
same_run D E both_none s k = (refl, refl)
same_run D E (both_have S L N b) s k = (refl, refl)

run_unreading : (D : Desk) (s : List ℕ) (k : ℕ) → Unreading (run_at D s k)
run_unreading none s k = tt
run_unreading (has S L) s k = acts_unreading (stretch_of S s k).acts (stretch_unreading (header_size (form S)) s (k / 4) 0)

pub runs_unread : RunsUnread
unfolding RunsUnread RunIsCalls WaitsUnreadInMemory
runs_unread m n same o s room =
    let k : ℕ = length room in
    let cs : List Call = run_calls m s room in
    let is = same_run (picture m) (picture n) o s k in
    let w = waits_unread_in_memory m n same o cs in
    let told = same_answers m n cs w.answers (run_unreading (picture m) s k) in
    rw (run_is_calls m s room, run_is_calls n s room, ← is.0) (is.1, ap (λ (rs : List Reply). answers_in rs room) told, w.agree)

-- ---- audits

-- a memory that pictures a ledger of these settings is a state of them
state_of : (m : List ℕ) (S : Settings) (L : Ledger) → picture m ≡ has S L → (settings_in m ≡ S) × StateOf S m
state_of m S L e =
    let t = (pictured_state m S L e).0 in
    let shown = sym (picture_state m t) ∙ e in
    let same : settings_in m ≡ S = cc in
    (same, subst (λ (T : Settings). StateOf T m) same t)

pub audits_unread : AuditsUnread
unfolding AuditsUnread WaitsUnreadInMemory place_told
audits_unread m n same o room = go (picture m) refl (picture n) refl o
  where
    -- where answers alike, so each block tells alike
    block_same : (S : Settings) (L N : Ledger) → picture m ≡ has S L → picture n ≡ has S N → (i : ℕ) → place_told S m room i ≡ place_told S n room i
    block_same S L N e f i =
        let y : ℕ = node_at S i in
        let s = state_of m S L e in
        let t = state_of n S N f in
        let w = waits_unread_in_memory m n same o (act (where_is y) ∷ []) in
        ap (λ (r : Reply). place_room y r (block i room))
        (ap (λ (out : Reply × List ℕ). out.0) (on_settings S m s.0 s.1 (where_is y))
        ∙ w.answers.0 refl
        ∙ sym (ap (λ (out : Reply × List ℕ). out.0) (on_settings S n t.0 t.1 (where_is y))))

    go : (D : Desk) → picture m ≡ D → (E : Desk) → picture n ≡ E → AgreeBut D E → audit_on m room ≡ audit_on n room
    go D e E f both_none = none_audits m e ∙ sym (none_audits n f)
      where
        none_audits : (l : List ℕ) → picture l ≡ none → audit_on l room ≡ (refused 3, room)
        none_audits l i =
            audit_off l room (λ t. let bad : has _ _ ≡ none = sym (picture_state l t) ∙ i in let z : ◌≡◌ {A = ℕ} 0 1 = cc in omega arith)
    go D e E f (both_have S L N b) =
        let s = state_of m S L e in
        let t = state_of n S N f in
        sym (audit_on_lem m room S s.0 s.1)
        ∙ unfold audited in
        (ap (λ (bytes : List ℕ). guard (audit_rules S (length room)) (λ i. (refused i, room)) (done, bytes ++ drop (8 * all S) room))
        (joined_same (place_told S m room) (place_told S n room) (all S) (λ i h. block_same S L N e f i)))
        ∙ audit_on_lem n room S t.0 t.1

-- ---- repairs

twice : {A : Type 0} (b : Bool) (x y z : A) → cond b x z ≡ cond b (cond b x y) z
twice true x y z = refl
twice false x y z = refl

pub repairs_unread : RepairsUnread
unfolding RepairsUnread repaired repair_mem setup_mem
repairs_unread m i v hi = rw (same, length_put S Buckets i v m, mended_alike) (twice (opens m) (done, repair_mem S m) (refused 3, m) (refused 3, n))
  where
    S : Settings
    S = settings_in m

    n : List ℕ
    n = put S Buckets i v m

    same : settings_in n ≡ S
    same = settings_put S m Buckets i v hi (λ e. let z : ◌≡◌ {A = ℕ} 0 1 = cc in omega arith)

    entry : (d : ℕ) → d < ids → get S n Mapped d ≡ get S m Mapped d
    entry d h = get_put_else S m Buckets i v Mapped d hi h (λ e o. let z : ◌≡◌ {A = ℕ} 0 1 = cc in omega arith)

    mended_alike : repair_mem S n ≡ repair_mem S m
    mended_alike =
        rw (drop_put S Buckets i v m hi)
        (fill_ext S Mapped (λ d. d) (λ d. mended S (get S n Mapped d)) (λ d. mended S (get S m Mapped d)) ids (setup_mem S m)
        (λ d h. ap (mended S) (entry d h)))
