-- How long they wait (paper 02, Q-13), on memory: what a timed turn makes of a turn's bytes, what the buckets count over calls, and that no
-- bucket is read. Assumes nothing.
use mathlib.Core.Path.{◌≡◌, refl, sym, ap, subst}
use mathlib.Core.Bool.{Bool, true, false, cond}
use mathlib.Core.List.{List}
use Prim.Native.Nat.{ℕ, ◌≤◌, ◌<◌}
use native.Mathlib.Omega.{arith}
use lib.ListN.{length, set}
use lib.Dec.{eqb}
use Rattle.ledger.specs.Settings.{Settings, size}
use Rattle.ledger.specs.Ledger.{Packet, prefetched, buckets, tall, bound, Ledger, list_at, last_of, change, put_in}
use Rattle.ledger.specs.Buckets.{untimed, at}
use Rattle.ledger.specs.Ready.{ready_word, pick}
use Rattle.ledger.specs.Calls.{turn, Reply, refused, idle, leaves, done, side_of, is_empty, first_of, serve, rules, result}
use Rattle.ledger.specs.Desk.{has, Call, setup, act, setup_rules, SetupsRefused}
use Rattle.ledger.specs.Sound.{Sound, Roomy}
use Rattle.ledger.specs.Tally.{TimedAsTurn, BucketsCount, ButBuckets, AgreeBut, both_none, both_have}
use Rattle.ledger.proofs.Tests.{leb_no, ltb_no}
use Rattle.ledger.proofs.Columns.{change_other}
use Rattle.ledger.proofs.Rows.{roomy}
use Rattle.ledger.proofs.Keep.{keep_put}
use Rattle.ledger.proofs.Buckets.{not_arrival}
use Rattle.ledger.proofs.Steps.{guarded, guarded_both, picked_some}
use Rattle.ledger.proofs.Tally.{timed_as_turn, buckets_count}
use Rattle.ledger.proofs.Unread.{waits_unread}
use Rattle.layout.specs.declared.Table.TheVariants.{Buckets}
use Rattle.layout.specs.Tables.{get, put}
use Rattle.layout.proofs.Tables.{get_lt, length_put, put_back, settings_put}
use Rattle.layout.specs.Picture.{settings_in, packet_at, ledger_in, StateOf, State}
use Rattle.memory.specs.Writes.{head_of, serve_mem, tick_mem, write, refused_mem}
use Rattle.memory.specs.Image.{setup_mem}
use Rattle.memory.specs.Memory.{state_dec, picture, acted, tested, M}
use Rattle.memory.specs.Demands.{on_memory}
use Rattle.memory.specs.Tally.{as_timed, TimedBytes, BucketsFree, WaitsUnreadInMemory}
use Rattle.memory.proofs.Chains.{state_tidy}
use Rattle.memory.proofs.Paint.{column_kept, column_paint}
use Rattle.memory.proofs.Image.{setup_length}
use Rattle.memory.proofs.Picture.{picture_state, picture_none, picture_is}
use Rattle.memory.proofs.Square.{j_is, past_kept}
use Rattle.memory.proofs.Demands.{pictured_state, memory_faithful}

-- ---- the bytes of a timed turn

-- on a memory that is a switch state
pub timed_acts : (S : Settings) (m : List ℕ) → StateOf S m → (time p : ℕ)
    → acted S m (turn (at time) p) ≡ as_timed S time p (acted S m (turn untimed p))
unfolding acted
timed_acts S m s time p =
    guarded_both (λ (u t : Reply × List ℕ). t ≡ as_timed S time p u) (rules S L (turn untimed p))
    (λ n. (refused n, refused_mem S n (turn untimed p) m)) (λ n. (refused n, refused_mem S n (turn (at time) p) m))
    ((result S L (turn untimed p)).0, write S m (turn untimed p)) ((result S L (turn (at time) p)).0, write S m (turn (at time) p))
    (λ n. unfold refused_mem in refl)
    (λ c. let hp = leb_no S.ports p c.0 in go hp (eqb (ready_word S L p) 0) (picked_some S ok L s.sound.orderly p hp))
  where
    L : Ledger
    L = ledger_in S m

    ok : Roomy S
    ok = roomy S s.sound.rows

    q : ℕ
    q = pick (last_of L p) (ready_word S L p)

    sent : Packet
    sent = packet_at S m (head_of S m (prefetched p q))

    go : p < S.ports → (b : Bool) → (b ≡ false → (q < S.queues) × (is_empty (list_at S L (prefetched p q)) ≡ false))
        → ◌≡◌ {A = Reply × List ℕ}
        ((cond b (idle, L) (serve S L (at time) p q)).0, cond b m (tick_mem S (at time) p sent (serve_mem S p q sent m)))
        (as_timed S time p ((cond b (idle, L) (serve S L untimed p q)).0, cond b m (tick_mem S untimed p sent (serve_mem S p q sent m))))
    go hp true f = refl
    go hp false f =
        let j : Packet = first_of S L (prefetched p q) in
        unfold tick_mem in
        ap (λ (k : Packet). (leaves j (side_of q), tick_mem S (at time) p k (serve_mem S p q sent m))) (sym (j_is S ok m s p q hp (f refl).0 (f refl).1))

pub timed_bytes : TimedBytes
unfolding TimedBytes M
timed_bytes m time p = go (state_dec m)
  where
    go : (d : Dec (State m)) → tested m d (turn (at time) p) ≡ as_timed (settings_in m) time p (tested m d (turn untimed p))
    go (yes s) = timed_acts (settings_in m) m s time p
    go (no n) = refl

-- ---- over calls

module _ (m : List ℕ) (S : Settings) (L : Ledger) (e : picture m ≡ has S L) where
  s : Sound S L
  s = (pictured_state m S L e).1

  pub memory_timed_as_turn : (time p : ℕ) → TimedAsTurn on_memory picture S time p m
  memory_timed_as_turn time p = timed_as_turn on_memory picture length memory_faithful S m L e s.orderly time p

  pub memory_buckets_count : (p : ℕ) → p < S.ports → (cs : List Call) → SetupsRefused on_memory m cs → BucketsCount on_memory picture S L p m cs
  memory_buckets_count p hp cs f = buckets_count on_memory picture length memory_faithful S (roomy S s.rows) p hp m L e s.orderly cs f

-- ---- no bucket is read

-- no call changes the length
steady : (m : List ℕ) (c : Call) → length (M c m).1 ≡ length m
unfolding M
steady m (setup T) =
    guarded {X = Reply × List ℕ} (λ out. length out.1 ≡ length m) (setup_rules (length m) T) (λ r. (refused r, m)) (done, setup_mem T m)
    (λ r. refl) (λ c. setup_length T m (ltb_no (length m) (size T) c.1.0))
steady m (act a) = (past_kept a m).1

pub waits_unread_in_memory : WaitsUnreadInMemory
unfolding WaitsUnreadInMemory
waits_unread_in_memory m n same o cs = waits_unread on_memory picture length memory_faithful steady m n same o cs

-- a number in a bucket of a switch state: what it is then
record Recounted (m : List ℕ) (i v : ℕ) (n : List ℕ) : Type 0 where
  settings : settings_in n ≡ settings_in m
  state : StateOf (settings_in m) n
  shows : ledger_in (settings_in m) n ≡ put_in buckets i v (ledger_in (settings_in m) m)

recounted : (m : List ℕ) → State m → (i v : ℕ) → i < tall (settings_in m) buckets → v < bound (settings_in m) buckets
    → Recounted m i v (put (settings_in m) Buckets i v m)
recounted m t i v hi hv =
    let S : Settings = settings_in m in
    let L : Ledger = ledger_in S m in
    let ok = roomy S t.sound.rows in
    let tidy = state_tidy S m t in
    let kept = column_kept S ok m tidy buckets i v hi in
    let shows : ledger_in S (put S Buckets i v m) ≡ put_in buckets i v L = column_paint S ok m tidy buckets i v hi hv in
    let sound : Sound S (put_in buckets i v L) = record {
      rows = t.sound.rows;
      orderly = keep_put S ok L t.sound.orderly buckets not_arrival i v hv;
      marked = unfold change in t.sound.marked;
    } in
    record {
      settings = kept.settings;
      state = record {
        long = omega (arith, t.long, kept.same_length);
        hangs = kept.tidy.hangs;
        sound = subst (Sound S) (sym shows) sound;
      };
      shows = shows;
    }

still_state : (m : List ℕ) → State m → (i v : ℕ) → i < tall (settings_in m) buckets → v < bound (settings_in m) buckets
    → State (put (settings_in m) Buckets i v m)
still_state m t i v hi hv =
    let r = recounted m t i v hi hv in
    subst (λ (T : Settings). StateOf T (put (settings_in m) Buckets i v m)) (sym r.settings) r.state

pub buckets_free : BucketsFree
unfolding BucketsFree
buckets_free m small i v hi hv = go (state_dec m)
  where
    S : Settings
    S = settings_in m

    n : List ℕ
    n = put S Buckets i v m

    same : settings_in n ≡ S
    same = settings_put S m Buckets i v hi (λ e. let z : ◌≡◌ {A = ℕ} 0 1 = cc in omega arith)

    -- the number that stood there, put back, makes m of n
    back : State n → State m
    back t =
        let long : size S ≤ length m = omega (arith, rw same at t.long, length_put S Buckets i v m) in
        let old : ℕ = get S m Buckets i in
        let u : State (put (settings_in n) Buckets i old n) = still_state n t i old (rw same hi) (get_lt S m Buckets i) in
        subst State (put_back S m Buckets i v small long hi) (rw same at u)

    go : Dec (State m) → AgreeBut (picture m) (picture n)
    go (yes t) =
        let L : Ledger = ledger_in S m in
        let N : Ledger = put_in buckets i v L in
        let r = recounted m t i v hi hv in
        let but : ButBuckets L N = record {
          same_lists = unfold change in refl;
          same_numbers = λ c d. change_other buckets (λ xs. set xs i v) L c (λ j. d (sym j));
        } in
        rw (picture_state m t, picture_is S n N r.settings r.state r.shows) (both_have S L N but)
    go (no f) = rw (picture_none m f, picture_none n (λ t. f (back t))) both_none
