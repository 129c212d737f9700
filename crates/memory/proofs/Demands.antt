-- What is proved of the desk holds of memory, by the square. Assumes nothing.
use mathlib.Core.Path.{◌≡◌, refl, sym, ap, ◌∙◌, subst}
use mathlib.Core.Logic.{◌≢◌}
use mathlib.Core.Bool.{Bool, true, false}
use mathlib.Core.List.{List}
use Prim.Native.Nat.{ℕ, ◌*◌, ◌<◌}
use native.Mathlib.Omega.{arith}
use lib.ListN.{length}
use Rattle.ledger.specs.Settings.{Settings}
use Rattle.ledger.specs.Header.{Load}
use Rattle.ledger.specs.Ledger.{is_node, Packet, Place, place#, Ledger, mark_of, PlaceIn}
use Rattle.ledger.specs.Ready.{is_ready, word_of, count_of}
use Rattle.ledger.specs.Buckets.{Clock}
use Rattle.ledger.specs.Calls.{Act, arrive, turn, ready, where_is, clear, Side, inside, outside, Reply, refused, entry, leaves, word, found, step}
use Rattle.ledger.specs.Desk.{has, Call, act, SetupsRefused}
use Rattle.ledger.specs.Sound.{All, Roomy, Sound}
use Rattle.ledger.specs.Order.{KeepsOrder, GoesAlong}
use Rattle.ledger.specs.Night.{Arrival, PoolKept, AgreeAt, OwnMarkAlone, HaltLasts}
use Rattle.ledger.proofs.Places.{place#_lt}
use Rattle.ledger.proofs.Rows.{roomy}
use Rattle.ledger.proofs.Find.{where_right}
use Rattle.ledger.proofs.Passes.{Comes, comes_clear}
use Rattle.ledger.proofs.Promises.{inside_outside, ready_counts, Wanting, sound_arrival, OnePlace, each_in_one_place}
use Rattle.ledger.proofs.Courses.{Faithful, act_answer, act_shows}
use Rattle.ledger.proofs.Waits.{nobody_starves_from, ten_bytes_from}
use Rattle.ledger.proofs.Order.{keeps_order}
use Rattle.ledger.proofs.Records.{goes_along}
use Rattle.ledger.proofs.Night.{whose_node, arrival_shows, pool_kept}
use Rattle.ledger.proofs.Halted.{refused_agree, arrival_alike, own_mark_alone, halt_lasts}
use Rattle.layout.specs.declared.shape.Shape.{Shape}
use Rattle.layout.specs.Tables.{lists}
use Rattle.layout.specs.Shapes.{settings_of}
use Rattle.layout.specs.Picture.{settings_in, ledger_in, StateOf, State}
use Rattle.memory.specs.Memory.{state_dec, desk_of, picture, acted, tested, M}
use Rattle.memory.specs.Judged.{Works}
use Rattle.memory.specs.Demands.{on_memory, NobodyStarvesInMemory, NobodyStarvesInMemory24}
use Rattle.memory.proofs.Chains.{node_below, state_tidy, list_length, count_bound}
use Rattle.memory.proofs.Picture.{picture_state}
use Rattle.memory.proofs.Square.{square}

-- a memory that pictures a ledger is a state, and the ledger is sound
pub pictured_state : (m : List ℕ) (S : Settings) (L : Ledger) → picture m ≡ has S L → State m × Sound S L
unfolding picture
pictured_state m S L e = go (state_dec m) e
  where
    go : (d : Dec (State m)) → desk_of m d ≡ has S L → State m × Sound S L
    go (yes s) i =
        let a : settings_in m ≡ S = cc in
        let b : ledger_in (settings_in m) m ≡ L = cc in
        (s, subst (λ (T : Settings). Sound T L) a (subst (Sound (settings_in m)) b s.sound))
    go (no n) i = absurd (let z : ◌≡◌ {A = ℕ} 0 1 = cc in omega arith)

-- a memory answers and shows as the desk does: the square
pub memory_faithful : Faithful on_memory picture length
memory_faithful m c = square c m

-- ---- demand 3, on memory

pub nobody_starves_in_memory : NobodyStarvesInMemory
unfolding NobodyStarvesInMemory
nobody_starves_in_memory m S L e =
    let s = (pictured_state m S L e).1 in
    nobody_starves_from on_memory picture length memory_faithful S (roomy S s.rows) m L e s.orderly

pub nobody_starves_in_memory_24 : NobodyStarvesInMemory24
unfolding NobodyStarvesInMemory NobodyStarvesInMemory24
nobody_starves_in_memory_24 m S L e ten = ten_bytes_from on_memory picture S L m (pictured_state m S L e).1 ten (nobody_starves_in_memory m S L e)

-- ---- demand 2, on a memory that is a switch state

module _ (m : List ℕ) (S : Settings) (L : Ledger) (e : picture m ≡ has S L) where
  s : Sound S L
  s = (pictured_state m S L e).1

  ok : Roomy S
  ok = roomy S s.rows

  -- one act on memory is the desk's step on what it pictures
  pub on_state : (a : Act) → (M (act a) m).0 ≡ (step S L a).0
  on_state a = act_answer on_memory picture length memory_faithful S m L e a

  pub then_pictures : (a : Act) → picture (M (act a) m).1 ≡ has S (step S L a).1
  then_pictures a = act_shows on_memory picture length memory_faithful S m L e a

  -- each node stands in one place; m is any state, so one after any calls
  pub memory_one_place : (y : ℕ) → is_node S y ≡ true → OnePlace S L y
  memory_one_place y n = each_in_one_place S L s y n

  -- over any calls in which every setup is refused: queues keep their order
  pub memory_keeps_order : (u : Place) → PlaceIn S u → (cs : List Call) → SetupsRefused on_memory m cs → KeepsOrder on_memory picture S L u m cs
  memory_keeps_order u hu cs f = keeps_order on_memory picture length memory_faithful S ok u hu m L e s.orderly cs f

  -- what is recorded of a packet goes along with it
  pub memory_goes_along : (cs : List Call) → SetupsRefused on_memory m cs → GoesAlong on_memory picture S L m cs
  memory_goes_along cs f = goes_along on_memory picture length memory_faithful S ok m L e s.orderly cs f

  -- and pools neither leak nor mix
  pub memory_pool_kept : (p : ℕ) → p < S.ports → (cs : List Call) → SetupsRefused on_memory m cs → PoolKept on_memory picture S L p m cs
  memory_pool_kept p hp cs f = pool_kept on_memory picture length memory_faithful S ok m L e s.orderly p hp cs f

  -- an arrival at port p, whatever its bytes, hurts nobody but p
  pub memory_hurts_only_itself : (p : ℕ) (h : Load)
      → (N : Ledger) × (picture (M (act (arrive p h)) m).1 ≡ has S N) × Arrival S L p h (M (act (arrive p h)) m).0 N
  memory_hurts_only_itself p h = arrival_shows on_memory picture length memory_faithful S ok m L e s.orderly p h

  pub memory_whose_node : (p : ℕ) (h h' : Load) (x y : ℕ) → (M (act (arrive p h)) m).0 ≡ entry x → (M (act (arrive p h')) m).0 ≡ entry y → x ≡ y
  memory_whose_node p h h' x y d i = whose_node S L p h h' x y (sym (on_state (arrive p h)) ∙ d) (sym (on_state (arrive p h')) ∙ i)

  -- what a port's refused arrivals change, over any calls, is its own mark
  pub memory_own_mark_alone : (p : ℕ) (cs : List Call) → SetupsRefused on_memory m cs → OwnMarkAlone on_memory picture S p m cs
  memory_own_mark_alone p cs f = own_mark_alone on_memory picture length memory_faithful S m L e p cs f

  -- and the mark that a port has stays until it is cleared
  pub memory_halt_lasts : (p : ℕ) → 0 < mark_of L p → (cs : List Call) → SetupsRefused on_memory m cs → All (λ c. c ≢ act (clear p)) cs
      → HaltLasts on_memory picture S p (mark_of L p) m cs
  memory_halt_lasts p some cs f u = halt_lasts on_memory picture length memory_faithful S p m L e some cs f u

  -- an arrival at port r is answered alike on any memory of the same settings that agrees at r
  pub memory_arrival_alike : (m' : List ℕ) (N : Ledger) → picture m' ≡ has S N → (r : ℕ) → AgreeAt S r L N → (h : Load)
      → (M (act (arrive r h)) m').0 ≡ (M (act (arrive r h)) m).0
  memory_arrival_alike m' N i r g h = arrival_alike on_memory picture length memory_faithful S m m' L N e i r g h

  -- as the one that a refused arrival at another port leaves does
  pub memory_refused_agree : (p : ℕ) (h : Load) (n : ℕ) → (M (act (arrive p h)) m).0 ≡ refused n → (r : ℕ) → r ≢ p
      → (N : Ledger) × (picture (M (act (arrive p h)) m).1 ≡ has S N) × AgreeAt S r L N
  memory_refused_agree p h n i r d = (
    (step S L (arrive p h)).1,
    then_pictures (arrive p h),
    refused_agree S L s.orderly p h n (sym (on_state (arrive p h)) ∙ i) r d,
  )

  -- ready's count is the number of ready queues
  pub memory_ready_counts : (p : ℕ) → p < S.ports
      → (M (act (ready p)) m).0 ≡ word (word_of (is_ready S L p) S.queues) (count_of (is_ready S L p) S.queues)
  memory_ready_counts p hp = on_state (ready p) ∙ ap (λ (r : Reply × Ledger). r.0) (ready_counts S L p hp)

  -- a packet of queue 0 leaves inside, any other outside
  pub memory_inside_outside : (c : Clock) (p : ℕ) (k : Packet) (t : Side)
      → (M (act (turn c p)) m).0 ≡ leaves k t → (k.queue ≡ 0 → t ≡ inside) × (0 < k.queue → t ≡ outside)
  memory_inside_outside c p k t i = inside_outside S ok L s.orderly c p k t (sym (on_state (turn c p)) ∙ i)

  -- a sound arrival: turned away only for want of credit, which a halt is taken for, or of a node
  pub memory_arrival : (p : ℕ) (h : Load) → Comes S p h
      → (N : Ledger) × (picture (M (act (arrive p h)) m).1 ≡ has S N) × Wanting S L p h ((M (act (arrive p h)) m).0, N)
  memory_arrival p h f = (
    (step S L (arrive p h)).1,
    then_pictures (arrive p h),
    subst (λ (r : Reply). Wanting S L p h (r, (step S L (arrive p h)).1)) (sym (on_state (arrive p h)))
        (sound_arrival S L p h (comes_clear S p h f)),
  )

-- ---- on a memory that is no state every act is refused 3

pub off_state : (m : List ℕ) → (State m → ⊥) → (a : Act) → M (act a) m ≡ (refused 3, m)
unfolding M
off_state m n a = go (state_dec m)
  where
    go : (d : Dec (State m)) → tested m d a ≡ (refused 3, m)
    go (yes t) = absurd (n t)
    go (no k) = refl

-- so one that answers an act with anything else is a state
pub answered_state : (m : List ℕ) (a : Act) → (M (act a) m).0 ≢ refused 3 → State m
answered_state m a other = go (state_dec m)
  where
    go : Dec (State m) → State m
    go (yes t) = t
    go (no n) = absurd (other (ap (λ (r : Reply × List ℕ). r.0) (off_state m n a)))

-- and on a state of these settings the act is the call
pub on_settings : (S : Settings) (m : List ℕ) → settings_in m ≡ S → StateOf S m → (a : Act) → acted S m a ≡ M (act a) m
unfolding M
on_settings S m e s a = go (state_dec m)
  where
    go : (d : Dec (State m)) → acted S m a ≡ tested m d a
    go (yes t) = ap (λ (T : Settings). acted T m a) (sym e)
    go (no n) = absurd (n (subst (λ (T : Settings). StateOf T m) (sym e) s))

pub on_works : (s : Shape) (m : List ℕ) → Works s m → (a : Act) → acted (settings_of s) m a ≡ M (act a) m
on_works s m w = on_settings (settings_of s) m (sym w.settings_are) w.state

-- ---- where, on memory: entry ids and positions stay below 2,048 for each port

module _ (m : List ℕ) (y : ℕ) (v : Place) (i : ℕ) where
  abbrev Below : ℕ → Type 0
  Below n = (y < n) × (i < n)

  below : State m → (b : Bool) → is_node (settings_in m) y ≡ b → (step (settings_in m) (ledger_in (settings_in m) m) (where_is y)).0 ≡ found v i
      → Below ((settings_in m).ports * 2048)
  below t false d e = let a = rw d at e in absurd (let z : ◌≡◌ {A = ℕ} 0 1 = cc in omega arith)
  below t true d e =
      let S = settings_in m in
      let r = roomy S t.sound.rows in
      let w = where_right S r (ledger_in S m) t.sound.orderly y d in
      let same : found v i ≡ found w.0 w.1 = sym e ∙ ap (λ (p : Reply × Ledger). p.0) w.2 in
      let j : i ≡ w.1 = cc in
      let l : place# S w.0 < lists S = place#_lt S w.0 w.3 in
      let n = count_bound S m (state_tidy S m t) (place# S w.0) l in
      let k = list_length S m (place# S w.0) l in
      (node_below S y d, omega (arith, w.4))

  module _ (f : (M (act (where_is y)) m).0 ≡ found v i) where
    found_state : State m
    found_state = answered_state m (where_is y) (λ e. let z : ◌≡◌ {A = ℕ} 0 1 = cc in omega arith)

    pub where_below : Below ((settings_in m).ports * 2048)
    where_below =
        let S = settings_in m in
        below found_state (is_node S y) refl (sym (on_state m S (ledger_in S m) (picture_state m found_state) (where_is y)) ∙ f)

    -- with 32 ports, the most that there are, they reach 65,535
    pub where_reach : Below 65536
    where_reach =
        let ok = roomy (settings_in m) found_state.sound.rows in
        (omega (arith, where_below.0, ok.few_ports), omega (arith, where_below.1, ok.few_ports))

-- after any call a memory that was a state is one again, and a memory that is one pictures a sound ledger
pub still_a_state : (a : Act) (m : List ℕ) → State m → State (M (act a) m).1
still_a_state a m t =
    let e = picture_state m t in
    let S = settings_in m in
    (pictured_state (M (act a) m).1 S (step S (ledger_in S m) a).1 (then_pictures m S (ledger_in S m) e a)).0
