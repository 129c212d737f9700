-- The audit: its reply is the desk's, its blocks are what `where` answers, and what it leaves of the room. Assumes nothing.
use mathlib.Core.Path.{◌≡◌, refl, sym, ap, ◌∙◌, subst}
use mathlib.Core.Bool.{Bool, true, false}
use mathlib.Core.List.{List, [], ◌∷◌, ◌++◌, append_assoc}
use Prim.Native.Nat.{ℕ, zero, suc, ◌+◌, ◌*◌, ◌/◌, ◌%◌, ◌≤◌, ◌<◌}
use native.Mathlib.Nat.{not-suc-le-zero, mod-lt, div-lt_iff_lt-mul, div-add-mod'}
use native.Mathlib.Decide.{dec_le}
use native.Mathlib.Omega.{arith}
use lib.ListN.{length, get_or, take, drop, length-append, length-drop, take-append-drop}
use lib.Seq.{length-take-le, take_at, drop_at, drop-drop}
use lib.Dec.{ltb}
use Rattle.ledger.specs.Settings.{Settings}
use Rattle.ledger.specs.Rules.{refuse, guard}
use Rattle.ledger.specs.Ledger.{owner, index, entry_id, is_node, place_of, Ledger}
use Rattle.ledger.specs.Sound.{Roomy}
use Rattle.ledger.specs.Calls.{Reply, refused, done, entry, stitched, idle, leaves, word, found, reported, counted, part, where_is, position, which, is_refused}
use Rattle.ledger.specs.Desk.{Desk, none, has, act}
use Rattle.ledger.specs.Audit.{place_bytes, place_room, node_at, audit_reply}
use Rattle.ledger.proofs.Tests.{true≢false, ltb_is, ltb_not}
use Rattle.ledger.proofs.Places.{row_lt, row_div, row_mod, node_is}
use Rattle.ledger.proofs.Rows.{roomy}
use Rattle.layout.specs.Tables.{all}
use Rattle.layout.specs.Picture.{settings_in, slot, ledger_in, StateOf, State}
use Rattle.memory.specs.Memory.{state_dec, desk_of, picture, acted, M}
use Rattle.memory.specs.Audit.{block, joined, place_told, audited, audit_tested, audit_on, AuditTells}
use Rattle.memory.proofs.Picture.{picture_state}
use Rattle.memory.proofs.Demands.{pictured_state, on_settings}

-- ---- blocks of eight bytes

-- a block that a room has whole
pub block_length : (room : List ℕ) (i : ℕ) → 8 * i + 8 ≤ length room → length (block i room) ≡ 8
block_length room i h = length-take-le 8 (drop (8 * i) room) (rw length-drop (omega arith))

-- a room is its blocks, with what is past them
pub blocks_are : (room : List ℕ) (n : ℕ) → joined (λ i. block i room) n ++ drop (8 * n) room ≡ room
blocks_are room zero = refl
blocks_are room (suc n) =
    let front = joined (λ i. block i room) n in
    let e : 8 * n + 8 ≡ 8 * suc n = omega arith in
    let rest : block n room ++ drop (8 * suc n) room ≡ drop (8 * n) room =
    ap (λ (k : ℕ). block n room ++ drop k room) (sym e)
    ∙ ap (λ (l : List ℕ). block n room ++ l) (sym (drop-drop 8 (8 * n) room))
    ∙ take-append-drop 8 (drop (8 * n) room) in
    append_assoc front (block n room) (drop (8 * suc n) room) ∙ ap (λ (l : List ℕ). front ++ l) rest ∙ blocks_are room n

pub joined_same : (f g : ℕ → List ℕ) (n : ℕ) → ((i : ℕ) → i < n → f i ≡ g i) → joined f n ≡ joined g n
joined_same f g zero h = refl
joined_same f g (suc n) h = λ k. joined_same f g n (λ i l. h i (omega arith)) k ++ h n (omega arith) k

module _ (f : ℕ → List ℕ) where
  joined_length : (n : ℕ) → ((i : ℕ) → i < n → length (f i) ≡ 8) → length (joined f n) ≡ 8 * n
  joined_length zero h = refl
  joined_length (suc n) h = length-append (joined f n) (f n) ∙ omega (arith, joined_length n (λ i l. h i (omega arith)), h n (omega arith))

  -- block i is f i
  block_joined : (n i : ℕ) → i < n → ((i : ℕ) → i < n → length (f i) ≡ 8) → (ys : List ℕ) → block i (joined f n ++ ys) ≡ f i
  block_joined zero i l h ys = absurd (not-suc-le-zero l)
  block_joined (suc n) i l h ys = ap (block i) (append_assoc (joined f n) (f n) ys) ∙ go (dec_le (suc i) n) (block_joined n i)
    where
      fewer : (j : ℕ) → j < n → length (f j) ≡ 8
      fewer j k = h j (omega arith)

      go : Dec (suc i ≤ n) → (i < n → ((i : ℕ) → i < n → length (f i) ≡ 8) → (ys : List ℕ) → block i (joined f n ++ ys) ≡ f i)
          → block i (joined f n ++ (f n ++ ys)) ≡ f i
      go (yes k) rec = rec k fewer (f n ++ ys)
      go (no k) rec =
          let is : i ≡ n = omega arith in
          let at : length (joined f n) ≡ 8 * i = joined_length n fewer ∙ ap (λ (j : ℕ). 8 * j) (sym is) in
          ap (λ (l : List ℕ). take 8 l) (drop_at (joined f n) (f n ++ ys) (8 * i) at)
          ∙ take_at (f n) ys 8 (h n (omega arith))
          ∙ ap f (sym is)

-- ---- what where leaves in eight bytes are eight bytes

place_room_length : (y : ℕ) (r : Reply) (old : List ℕ) → length old ≡ 8 → length (place_room y r old) ≡ 8
unfolding place_bytes
place_room_length y (refused n) old h = h
place_room_length y done old h = h
place_room_length y (entry x) old h = h
place_room_length y (stitched b) old h = h
place_room_length y idle old h = h
place_room_length y (leaves k s) old h = h
place_room_length y (word w n) old h = h
place_room_length y (found v i) old h = refl
place_room_length y (reported n) old h = h
place_room_length y (counted n) old h = h
place_room_length y (part x n) old h = h

-- ---- an audit on a state, by whether the room is long enough

module _ (S : Settings) (m room : List ℕ) where
  pub audit_short : length room < 8 * all S → audited S m room ≡ (refused 27, room)
  unfolding audited
  audit_short h = rw (ltb_is (length room) (8 * all S) h)

  pub audit_done : 8 * all S ≤ length room → audited S m room ≡ (done, joined (place_told S m room) (all S) ++ drop (8 * all S) room)
  unfolding audited
  audit_done h = rw (ltb_not (length room) (8 * all S) h)

  module _ (h : 8 * all S ≤ length room) where
    told_length : (i : ℕ) → i < all S → length (place_told S m room i) ≡ 8
    unfolding place_told
    told_length i l = place_room_length (node_at S i) (acted S m (where_is (node_at S i))).0 (block i room) (block_length room i (omega arith))

    audit_block : (i : ℕ) → i < all S → block i (audited S m room).1 ≡ place_told S m room i
    audit_block i l = rw (audit_done h) (block_joined (place_told S m room) (all S) i l told_length (drop (8 * all S) room))

    audit_past : drop (8 * all S) (audited S m room).1 ≡ drop (8 * all S) room
    audit_past =
        rw (audit_done h)
        (drop_at (joined (place_told S m room) (all S)) (drop (8 * all S) room) (8 * all S) (joined_length (place_told S m room) (all S) told_length))

    audit_length : length (audited S m room).1 ≡ length room
    audit_length =
        rw (audit_done h)
        (length-append (joined (place_told S m room) (all S)) (drop (8 * all S) room)
        ∙ omega (arith, joined_length (place_told S m room) (all S) told_length, length-drop (8 * all S) room))

-- ---- nodes by their number, port by port and index by index

-- entry id y is a node's, of number i
pub record Numbered (S : Settings) (y i : ℕ) : Type 0 where
  pub node : is_node S y ≡ true
  pub slot_is : slot S y ≡ i

module _ (S : Settings) (R : Roomy S) where
  pub numbered : (p i : ℕ) → p < S.ports → i < S.nodes → Numbered S (entry_id p i) (p * S.nodes + i)
  unfolding slot
  numbered p i hp hi =
      let o : owner (entry_id p i) ≡ p = row_div 2048 p i (omega (arith, R.few_nodes)) in
      let x : index (entry_id p i) ≡ i = row_mod 2048 p i (omega (arith, R.few_nodes)) in
      record { node = node_is S (entry_id p i) (record { home = rw o hp; low = rw x hi }); slot_is = rw (o, x) }

  pub node_at_lem : (i : ℕ) → i < all S → Numbered S (node_at S i) i
  node_at_lem i h =
      let pos : 0 < S.nodes = omega (arith, R.some_nodes) in
      let p : i / S.nodes < S.ports = (div-lt_iff_lt-mul pos).1 h in
      let n = numbered (i / S.nodes) (i % S.nodes) p (mod-lt i pos) in
      record { node = n.node; slot_is = n.slot_is ∙ div-add-mod' i S.nodes }

-- node number p * nodes + i is node i of port p
node_number : (S : Settings) (p i : ℕ) → i < S.nodes → node_at S (p * S.nodes + i) ≡ entry_id p i
node_number S p i h = rw (row_div S.nodes p i h, row_mod S.nodes p i h)

-- where a node stands, as `where` answers it
pub where_says : (S : Settings) (m : List ℕ) (y : ℕ) → is_node S y ≡ true
    → let l = which y (ledger_in S m).lists in (acted S m (where_is y)).0 ≡ found (place_of S l) (position y (get_or (ledger_in S m).lists l []))
unfolding acted
where_says S m y e = rw e

-- so the block of a node is its place
pub place_told_lem : (S : Settings) (m room : List ℕ) (i : ℕ) → is_node S (node_at S i) ≡ true
    → let y = node_at S i in
    let l = which y (ledger_in S m).lists in
    place_told S m room i ≡ place_bytes y (place_of S l) (position y (get_or (ledger_in S m).lists l []))
unfolding place_told
place_told_lem S m room i e = rw (where_says S m (node_at S i) e)

-- ---- of any memory

module _ (m room : List ℕ) where
  -- where a memory is a state of these settings
  pub audit_on_lem : (S : Settings) → settings_in m ≡ S → StateOf S m → audited S m room ≡ audit_on m room
  unfolding audit_on
  audit_on_lem S e s = go (state_dec m)
    where
      go : (d : Dec (State m)) → audited S m room ≡ audit_tested m d room
      go (yes t) = ap (λ (T : Settings). audited T m room) (sym e)
      go (no n) = absurd (n (subst (λ (T : Settings). StateOf T m) (sym e) s))

  pub audit_off : (State m → ⊥) → audit_on m room ≡ (refused 3, room)
  unfolding audit_on
  audit_off n = go (state_dec m)
    where
      go : (d : Dec (State m)) → audit_tested m d room ≡ (refused 3, room)
      go (yes t) = absurd (n t)
      go (no k) = refl

  -- the reply is the desk's
  pub audit_reply_lem : (audit_on m room).0 ≡ audit_reply (picture m) (length room)
  unfolding audit_on picture audited
  audit_reply_lem = go (state_dec m)
    where
      short : (b : Bool) (full : List ℕ)
          → (guard {X = Reply × List ℕ} (refuse 27 b ∷ []) (λ n. (refused n, room)) (done, full)).0 ≡ guard (refuse 27 b ∷ []) refused done
      short true full = refl
      short false full = refl

      go : (d : Dec (State m)) → (audit_tested m d room).0 ≡ audit_reply (desk_of m d) (length room)
      go (yes s) = short (ltb (length room) (8 * all (settings_in m))) _
      go (no n) = refl

-- a memory that pictures a desk has its settings
pictured_settings : (m : List ℕ) (S : Settings) (L : Ledger) → picture m ≡ has S L → settings_in m ≡ S
pictured_settings m S L e =
    let d = sym (picture_state m (pictured_state m S L e).0) ∙ e in
    cc

-- eight bytes for each node, as `where` answers
pub audit_tells : AuditTells
unfolding AuditTells audit_on picture
audit_tells m room S L p i e = subst Tells e (go (state_dec m))
  where
    Tells : Desk → Type 0
    Tells none = Unit {0}
    Tells (has S L) =
        8 * all S ≤ length room → p < S.ports → i < S.nodes
        → let y = entry_id p i in
        let l = which y L.lists in
        let j = position y (get_or L.lists l []) in
        ((M (act (where_is y)) m).0 ≡ found (place_of S l) j) × (block (p * S.nodes + i) (audit_on m room).1 ≡ place_bytes y (place_of S l) j)

    go : (d : Dec (State m)) → Tells (desk_of m d)
    go (no n) = tt
    go (yes s) = λ h hp hi.
        let T = settings_in m in
        let n = numbered T (roomy T s.sound.rows) p i hp hi in
        let k = p * T.nodes + i in
        let is = node_number T p i hi in
        let low : k < all T = row_lt T.nodes T.ports p i hp hi in (
          ap (λ (out : Reply × List ℕ). out.0) (sym (on_settings T m refl s (where_is (entry_id p i)))) ∙ where_says T m (entry_id p i) n.node,
          ap (λ (out : Reply × List ℕ). block k out.1) (sym (audit_on_lem m room T refl s))
              ∙ audit_block T m room h k low
              ∙ rw (← is) (place_told_lem T m room k (rw is n.node)),
        )

-- ---- what it leaves of the room

module _ (m room : List ℕ) where
  -- of this room an audit of a memory with settings S leaves `out`
  record Kept (S : Settings) (out : Reply × List ℕ) : Type 0 where
    past : drop (8 * all S) out.1 ≡ drop (8 * all S) room
    same_length : length out.1 ≡ length room
    same : is_refused out.0 ≡ true → out.1 ≡ room

  kept : (S : Settings) → Dec (8 * all S ≤ length room) → Kept S (audited S m room)
  kept S (yes h) = record {
    past = audit_past S m room h;
    same_length = audit_length S m room h;
    same = λ e. absurd (true≢false (sym e ∙ ap (λ (out : Reply × List ℕ). is_refused out.0) (audit_done S m room h)));
  }
  kept S (no h) = rw (audit_short S m room (omega arith)) (record { past = refl; same_length = refl; same = λ e. refl })

  -- of a memory that is no state it leaves all
  keeps : Kept (settings_in m) (audit_on m room)
  unfolding audit_on
  keeps = go (state_dec m)
    where
      go : (d : Dec (State m)) → Kept (settings_in m) (audit_tested m d room)
      go (yes s) = kept (settings_in m) (dec_le (8 * all (settings_in m)) (length room))
      go (no n) = record { past = refl; same_length = refl; same = λ e. refl }

  -- "the room past the answer stays"
  pub past_audit_keeps : (S : Settings) (L : Ledger) → picture m ≡ has S L → drop (8 * all S) (audit_on m room).1 ≡ drop (8 * all S) room
  past_audit_keeps S L e = subst (λ (T : Settings). drop (8 * all T) (audit_on m room).1 ≡ drop (8 * all T) room) (pictured_settings m S L e) keeps.past

  pub audit_keeps_length : length (audit_on m room).1 ≡ length room
  audit_keeps_length = keeps.same_length

  -- a refused audit leaves the room as it was
  pub refused_audit_keeps : is_refused (audit_on m room).0 ≡ true → (audit_on m room).1 ≡ room
  refused_audit_keeps = keeps.same
