-- Acts one after another on a state, and a round: it is the same calls one by one. Assumes nothing.
use mathlib.Core.Path.{◌≡◌, refl, sym, ap, ap₂, ◌∙◌, subst}
use mathlib.Core.Bool.{Bool, true, false}
use mathlib.Core.List.{List, [], ◌∷◌, ◌++◌, map, append_assoc}
use Prim.Native.Nat.{ℕ, zero, suc, ◌+◌, ◌-◌, ◌*◌, ◌≤◌, ◌<◌}
use native.Mathlib.Nat.{le_of_suc-le-suc, not-suc-le-zero}
use native.Mathlib.Omega.{arith}
use native.Mathlib.Decide.{dec_le}
use native.Mathlib.Numerals.{add-one}
use lib.ListN.{length, get_or, take, drop, length-append, length-map, get_or-append, get_or-map}
use lib.Seq.{take-append-add, get_or-append-add}
use lib.Dec.{ltb}
use Rattle.ledger.specs.Settings.{Settings}
use Rattle.ledger.specs.Buckets.{Clock, untimed}
use Rattle.ledger.specs.Calls.{Act, stitch, prefetch, turn, ready, Reply, refused, done, is_refused}
use Rattle.ledger.specs.Desk.{Desk, has, Call, act, after_calls, answers_of}
use Rattle.ledger.specs.Demand.{is_turn}
use Rattle.ledger.specs.Rounds.{each, stitches, prefetches, turns, round_acts, round_rules, round_reply, answers_in, round, done_by, of_turn}
use Rattle.ledger.specs.Rounds.{turn_answers, answer_bytes}
use Rattle.ledger.proofs.Tests.{true≢false, ltb_is, ltb_not, eqb_is}
use Rattle.ledger.proofs.Lists.{All-append, All-at}
use Rattle.ledger.proofs.Steps.{guarded}
use Rattle.ledger.proofs.Chances.{quiet_stitches, quiet_prefetches}
use Rattle.ledger.proofs.Told.{none_told, read_told, each_length, each_at}
use Rattle.layout.specs.declared.shape.Shape.{Shape}
use Rattle.layout.specs.Shapes.{settings_of}
use Rattle.layout.specs.Picture.{settings_in, ledger_in, StateOf, State}
use Rattle.memory.specs.Judged.{Works}
use Rattle.memory.specs.Memory.{state_dec, desk_of, picture, acted, M}
use Rattle.memory.specs.Demands.{on_memory}
use Rattle.memory.specs.Rounds.{after_acts, answers_to, turns_told, rounded, round_tested, round_on, RoundIsCalls, RoomTells}
use Rattle.memory.proofs.Square.{act_keeps}
use Rattle.memory.proofs.Demands.{on_settings}

-- ---- acts one after another

module _ (S : Settings) where
  pub after_append : (m : List ℕ) (xs ys : List Act) → after_acts S m (xs ++ ys) ≡ after_acts S (after_acts S m xs) ys
  after_append m [] ys = refl
  after_append m (a ∷ xs) ys = after_append (acted S m a).1 xs ys

  pub answers_append : (m : List ℕ) (xs ys : List Act) → answers_to S m (xs ++ ys) ≡ answers_to S m xs ++ answers_to S (after_acts S m xs) ys
  answers_append m [] ys = refl
  answers_append m (a ∷ xs) ys = ap (λ (l : List Reply). (acted S m a).0 ∷ l) (answers_append (acted S m a).1 xs ys)

  pub answers_length : (m : List ℕ) (xs : List Act) → length (answers_to S m xs) ≡ length xs
  answers_length m [] = refl
  answers_length m (a ∷ xs) = ap suc (answers_length (acted S m a).1 xs)

  -- one number more
  module _ (f : ℕ → List Act) (n : ℕ) (m : List ℕ) where
    pub after_next : after_acts S m (each f (n + 1)) ≡ after_acts S (after_acts S m (each f n)) (f n)
    after_next = rw add-one (after_append m (each f n) (f n))

    pub answers_next : answers_to S m (each f (n + 1)) ≡ answers_to S m (each f n) ++ answers_to S (after_acts S m (each f n)) (f n)
    answers_next = rw add-one (answers_append m (each f n) (f n))

  pub as_many_answers : (f : ℕ → Act) (n : ℕ) (m : List ℕ) → length (answers_to S m (each (λ p. f p ∷ []) n)) ≡ n
  as_many_answers f n m = answers_length m (each (λ p. f p ∷ []) n) ∙ each_length f n

  -- ---- a round on a state, by its three parts

  module _ (m : List ℕ) where
    abbrev m₁ : List ℕ
    m₁ = after_acts S m (stitches S)

    abbrev m₂ : List ℕ
    m₂ = after_acts S m₁ (prefetches S)

    round_leaves : after_acts S m (round_acts S) ≡ after_acts S m₂ (turns S)
    unfolding round_acts
    round_leaves = after_append m (stitches S) (prefetches S ++ turns S) ∙ after_append m₁ (prefetches S) (turns S)

    round_tells : turns_told S m ≡ answers_to S m₂ (turns S)
    round_tells = ap (λ (n : List ℕ). answers_to S n (turns S)) (after_append m (stitches S) (prefetches S))

    pub round_short : (room : List ℕ) → length room < 4 * S.ports → rounded S m room ≡ (refused 27, m, room)
    unfolding rounded
    round_short room h = rw (ltb_is (length room) (4 * S.ports) h)

    pub round_done : (room : List ℕ) → 4 * S.ports ≤ length room
        → rounded S m room ≡ (done, after_acts S m₂ (turns S), answers_in (answers_to S m₂ (turns S)) room)
    unfolding rounded
    round_done room h = rw (ltb_not (length room) (4 * S.ports) h, round_leaves, round_tells)

-- ---- what acts below the public calls may rely on holds after them

module _ (s : Shape) where
  pub works_after : (m : List ℕ) (a : Act) → Works s m → Works s (acted (settings_of s) m a).1
  works_after m a w =
      let k = act_keeps (settings_of s) m (sym w.settings_are) w.state a in
      record { settings_are = sym k.settings; state = k.state }

  pub works_after_all : (m : List ℕ) (xs : List Act) → Works s m → Works s (after_acts (settings_of s) m xs)
  works_after_all m [] w = w
  works_after_all m (a ∷ xs) w = works_after_all (acted (settings_of s) m a).1 xs (works_after m a w)

-- ---- on a state, acts are calls

module _ (S : Settings) where
  pub acts_leave : (m : List ℕ) → settings_in m ≡ S → StateOf S m → (xs : List Act) → after_calls on_memory m (map act xs) ≡ after_acts S m xs
  acts_leave m e s [] = refl
  acts_leave m e s (a ∷ xs) =
      let k = act_keeps S m e s a in
      ap (λ (out : Reply × List ℕ). after_calls on_memory out.1 (map act xs)) (sym (on_settings S m e s a))
      ∙ acts_leave (acted S m a).1 k.settings k.state xs

  pub acts_answer : (m : List ℕ) → settings_in m ≡ S → StateOf S m → (xs : List Act) → answers_of on_memory m (map act xs) ≡ answers_to S m xs
  acts_answer m e s [] = refl
  acts_answer m e s (a ∷ xs) =
      let k = act_keeps S m e s a in
      ap (λ (out : Reply × List ℕ). out.0 ∷ answers_of on_memory out.1 (map act xs)) (sym (on_settings S m e s a))
      ∙ ap (λ (l : List Reply). (acted S m a).0 ∷ l) (acts_answer (acted S m a).1 k.settings k.state xs)

  -- ---- of a round's answers, those of its turns

  abbrev of_turns : List ℕ → List Act → List Reply
  of_turns m xs = turn_answers (map act xs) (answers_to S m xs)

  of_turns_append : (m : List ℕ) (xs ys : List Act) → of_turns m (xs ++ ys) ≡ of_turns m xs ++ of_turns (after_acts S m xs) ys
  of_turns_append m [] ys = refl
  of_turns_append m (a ∷ xs) ys =
      let x = of_turn (act a) (acted S m a).0 in
      ap (λ (l : List Reply). x ++ l) (of_turns_append (acted S m a).1 xs ys)
      ∙ sym (append_assoc x (of_turns (acted S m a).1 xs) (of_turns (after_acts S m (a ∷ xs)) ys))

  -- acts with no turn among them
  none_of_turns : (f : ℕ → List Act) → ((m : List ℕ) (n : ℕ) → of_turns m (f n) ≡ []) → (n : ℕ) (m : List ℕ) → of_turns m (each f n) ≡ []
  none_of_turns f h zero m = refl
  none_of_turns f h (suc n) m = of_turns_append m (each f n) (f n) ∙ rw (none_of_turns f h n m, h (after_acts S m (each f n)) n)

  all_of_turns : (n : ℕ) (m : List ℕ) → of_turns m (each (λ p. turn untimed p ∷ []) n) ≡ answers_to S m (each (λ p. turn untimed p ∷ []) n)
  all_of_turns zero m = refl
  all_of_turns (suc n) m =
      let xs = each (λ p. turn untimed p ∷ []) n in
      of_turns_append m xs (turn untimed n ∷ []) ∙ rw (all_of_turns n m) (sym (answers_append S m xs (turn untimed n ∷ [])))

  stitches_none : (m : List ℕ) → of_turns m (stitches S) ≡ []
  stitches_none m = none_of_turns (λ p. stitch p ∷ []) (λ m n. refl) S.ports m

  prefetches_none : (m : List ℕ) → of_turns m (prefetches S) ≡ []
  prefetches_none m =
      none_of_turns (λ p. each (λ q. prefetch p q ∷ []) S.queues) (λ m p. none_of_turns (λ q. prefetch p q ∷ []) (λ m n. refl) S.queues m) S.ports m

  turns_answer : (m : List ℕ) → of_turns m (round_acts S) ≡ turns_told S m
  unfolding round_acts
  turns_answer m =
      let m₁ = after_acts S m (stitches S) in
      of_turns_append m (stitches S) (prefetches S ++ turns S)
      ∙ rw (stitches_none m)
      (of_turns_append m₁ (prefetches S) (turns S)
      ∙ rw (prefetches_none m₁) (all_of_turns S.ports (after_acts S m₁ (prefetches S)) ∙ sym (round_tells S m)))

-- ---- a round is the same calls one by one

-- what a round into a room is, of a desk that a memory pictures
abbrev Same : List ℕ → List ℕ → Desk → Reply × List ℕ × List ℕ → Type 0
Same m room D out =
    let cs = (done_by D (round (length room))).calls in
    out ≡ (round_reply D (length room), after_calls on_memory m cs, answers_in (turn_answers cs (answers_of on_memory m cs)) room)

nothing_done : (m room : List ℕ) (r : Reply) → ◌≡◌ {A = Reply × List ℕ × List ℕ} (r, m, room) (r, m, answers_in [] room)
nothing_done m room r = ap (λ (l : List ℕ). (r, m, l)) (sym (none_told room))

pub round_is_calls : RoundIsCalls
unfolding RoundIsCalls round_on picture rounded
round_is_calls m room = go (state_dec m)
  where
    S : Settings
    S = settings_in m

    -- by whether the room is too short
    short : State m → (b : Bool) → ltb (length room) (4 * S.ports) ≡ b → Same m room (has S (ledger_in S m)) (rounded S m room)
    short s true e = rw e (nothing_done m room (refused 27))
    short s false e =
        rw (e, acts_leave S m refl s (round_acts S), acts_answer S m refl s (round_acts S), turns_answer S m)

    go : (d : Dec (State m)) → Same m room (desk_of m d) (round_tested m d room)
    go (yes s) = short s (ltb (length room) (4 * S.ports)) refl
    go (no n) = nothing_done m room (refused 3)

-- ---- where a memory is a state of these settings, and where it is none

module _ (m room : List ℕ) where
  pub round_on_lem : (S : Settings) → settings_in m ≡ S → StateOf S m → rounded S m room ≡ round_on m room
  unfolding round_on
  round_on_lem S e s = go (state_dec m)
    where
      go : (d : Dec (State m)) → rounded S m room ≡ round_tested m d room
      go (yes t) = ap (λ (T : Settings). rounded T m room) (sym e)
      go (no n) = absurd (n (subst (λ (T : Settings). StateOf T m) (sym e) s))

  pub round_off : (State m → ⊥) → round_on m room ≡ (refused 3, m, room)
  unfolding round_on
  round_off n = go (state_dec m)
    where
      go : (d : Dec (State m)) → round_tested m d room ≡ (refused 3, m, room)
      go (yes t) = absurd (n t)
      go (no k) = refl

-- ---- what the caller of a round sees

module _ (S : Settings) where
  -- what comes before a round's turns
  abbrev first : List Act
  first = stitches S ++ prefetches S

  parts : round_acts S ≡ first ++ turns S
  unfolding round_acts
  parts = sym (append_assoc (stitches S) (prefetches S) (turns S))

  -- the only turn of port p stands behind them, in its order
  turn_seat : (j : ℕ) (c : Clock) (p : ℕ) → j < length (round_acts S) → get_or (round_acts S) j (ready 0) ≡ turn c p
      → (p < S.ports) × (j ≡ length first + p) × (untimed ≡ c)
  turn_seat j c p h e = go (dec_le (suc j) (length first))
    where
      many : length (turns S) ≡ S.ports
      many = each_length (turn untimed) S.ports

      is_turn_lem : get_or (first ++ turns S) j (ready 0) ≡ turn c p
      is_turn_lem = ap (λ (l : List Act). get_or l j (ready 0)) (sym parts) ∙ e

      go : Dec (suc j ≤ length first) → (p < S.ports) × (j ≡ length first + p) × (untimed ≡ c)
      go (yes l) =
          let quiet = All-append (λ a. is_turn p a ≡ false) (stitches S) (prefetches S) (quiet_stitches S p) (quiet_prefetches S p) in
          let none = All-at (λ a. is_turn p a ≡ false) first (ready 0) quiet j l in
          let here : get_or first j (ready 0) ≡ turn c p = sym (get_or-append first (turns S) (ready 0) j l) ∙ is_turn_lem in
          absurd (true≢false (sym (ap (is_turn p) here ∙ eqb_is p p refl) ∙ none))
      go (no l) =
          let i : ℕ = j - length first in
          let at : j ≡ length first + i = omega arith in
          let short : i < S.ports = omega (arith, h, ap length parts, length-append first (turns S), many) in
          let here : turn untimed i ≡ turn c p =
          sym (each_at (turn untimed) S.ports i (ready 0) short)
          ∙ sym (get_or-append-add first (turns S) i (ready 0))
          ∙ ap (λ (k : ℕ). get_or (first ++ turns S) k (ready 0)) (sym at)
          ∙ is_turn_lem in
          let same : i ≡ p = cc in
          (omega arith, omega arith, cc)

  pub answer_at : (xs : List Act) (m : List ℕ) (i : ℕ) (d : Reply) (e : Act) → i < length xs
      → get_or (answers_to S m xs) i d ≡ (acted S (after_acts S m (take i xs)) (get_or xs i e)).0
  answer_at [] m i d e h = absurd (not-suc-le-zero h)
  answer_at (a ∷ xs) m zero d e h = refl
  answer_at (a ∷ xs) m (suc i) d e h = answer_at xs (acted S m a).1 i d e (le_of_suc-le-suc h)

  -- so its answer is the one that is told for p
  turn_told : (m : List ℕ) (j p : ℕ) → p < S.ports → j ≡ length first + p
      → get_or (turns_told S m) p done ≡ (acted S (after_acts S m (take j (round_acts S))) (turn untimed p)).0
  turn_told m j p hp e =
      let m₂ : List ℕ = after_acts S m first in
      let upto : take j (round_acts S) ≡ first ++ take p (turns S) =
      ap (λ (l : List Act). take j l) parts ∙ ap (λ (k : ℕ). take k (first ++ turns S)) e ∙ take-append-add first (turns S) p in
      answer_at (turns S) m₂ p done (ready 0) (omega (arith, each_length (turn untimed) S.ports))
      ∙ ap (λ (a : Act). (acted S (after_acts S m₂ (take p (turns S))) a).0) (each_at (turn untimed) S.ports p (ready 0) hp)
      ∙ ap (λ (n : List ℕ). (acted S n (turn untimed p)).0)
      (sym (after_append S m first (take p (turns S))) ∙ ap (λ (l : List Act). after_acts S m l) (sym upto))

  -- on a state, what an act answers after others is what the call does
  pub call_after : (m : List ℕ) → settings_in m ≡ S → StateOf S m → (xs : List Act) (a : Act)
      → (acted S (after_acts S m xs) a).0 ≡ (M (act a) (after_calls on_memory m (map act xs))).0
  call_after m e s [] a = ap (λ (out : Reply × List ℕ). out.0) (on_settings S m e s a)
  call_after m e s (b ∷ xs) a =
      let k = act_keeps S m e s b in
      call_after (acted S m b).1 k.settings k.state xs a
      ∙ ap (λ (out : Reply × List ℕ). (M (act a) (after_calls on_memory out.1 (map act xs))).0) (on_settings S m e s b)

pub take_map : (n : ℕ) (xs : List Act) → take n (map act xs) ≡ map act (take n xs)
take_map zero xs = refl
take_map (suc n) [] = refl
take_map (suc n) (a ∷ xs) = ap (λ (l : List Call). act a ∷ l) (take_map n xs)

pub room_tells : RoomTells
unfolding RoomTells round_on picture rounded
room_tells m room j c p = go (state_dec m)
  where
    S : Settings
    S = settings_in m

    Tells : Desk → Reply × List ℕ × List ℕ → Type 0
    Tells D out =
        let cs = (done_by D (round (length room))).calls in
        j < length cs → get_or cs j (act (ready 0)) ≡ act (turn c p)
        → take 4 (drop (4 * p) out.2) ≡ answer_bytes (M (act (turn c p)) (after_calls on_memory m (take j cs))).0

    told : State m → (b : Bool) → ltb (length room) (4 * S.ports) ≡ b → Tells (has S (ledger_in S m)) (rounded S m room)
    told s true e = rw e (λ h i. absurd (not-suc-le-zero h))
    told s false e = rw e (λ h i.
        let acts : List Act = round_acts S in
        let is : act (get_or acts j (ready 0)) ≡ act (turn c p) = sym (get_or-map act acts j (ready 0)) ∙ i in
        let same : get_or acts j (ready 0) ≡ turn c p = cc in
        let at = turn_seat S j c p (omega (arith, h, length-map acts act)) same in
        read_told (turns_told S m) room p done (omega (arith, at.0, as_many_answers S (turn untimed) S.ports (after_acts S m (stitches S ++ prefetches S))))
        ∙ ap answer_bytes
        (turn_told S m j p at.0 at.1
        ∙ call_after S m refl s (take j acts) (turn untimed p)
        ∙ ap₂ (λ (t : Clock) (cs : List Call). (M (act (turn t p)) (after_calls on_memory m cs)).0) at.2 (sym (take_map j acts))))

    go : (d : Dec (State m)) → Tells (desk_of m d) (round_tested m d room)
    go (yes s) = told s (ltb (length room) (4 * S.ports)) refl
    go (no n) = λ h i. absurd (not-suc-le-zero h)

-- a refused round leaves memory and room as they were
pub refused_round_keeps : (m room : List ℕ) → is_refused (round_on m room).0 ≡ true → ((round_on m room).1 ≡ m) × ((round_on m room).2 ≡ room)
unfolding round_on rounded
refused_round_keeps m room = go (state_dec m)
  where
    Keeps : Reply × List ℕ × List ℕ → Type 0
    Keeps out = is_refused out.0 ≡ true → (out.1 ≡ m) × (out.2 ≡ room)

    go : (d : Dec (State m)) → Keeps (round_tested m d room)
    go (yes s) =
        guarded {X = Reply × List ℕ × List ℕ} Keeps (round_rules (settings_in m) (length room)) (λ n. (refused n, m, room))
        (done, after_acts (settings_in m) m (round_acts (settings_in m)), answers_in (turns_told (settings_in m) m) room)
        (λ n e. (refl, refl)) (λ c e. absurd (true≢false (sym e)))
    go (no n) = λ e. (refl, refl)
