-- Paper 02, Q-1: a packet that is taken in stands in its node's slot, the rest of that slot and all other slots stay; and no call writes the
-- slot of a node that isn't free, but the arrival that takes it. Assumes nothing.
use mathlib.Core.Path.{◌≡◌, refl, sym, ap, ◌∙◌, subst}
use mathlib.Core.Logic.{◌≢◌, ◌⊎◌, inl, inr}
use mathlib.Core.Bool.{Bool, true, false, cond}
use mathlib.Core.List.{List, ◌++◌, append_assoc}
use Prim.Native.Nat.{ℕ, ◌+◌, ◌-◌, ◌*◌, ◌≤◌}
use native.Mathlib.Decide.{dec_le}
use native.Mathlib.Omega.{arith}
use lib.ListN.{length, take, drop, length-drop, take-append-drop}
use lib.Seq.{length-take-le, take-length, drop_at, take-append_seam, take-append-le, drop-append-le, take-take, drop-drop, take-add, paste}
use lib.Seq.{length-paste, drop-paste}
use lib.Dec.{eqb}
use Rattle.ledger.specs.Settings.{Settings, slot_bytes, packet_room}
use Rattle.ledger.specs.Header.{alone, whole}
use Rattle.ledger.specs.Ledger.{owner, index, is_node, Ledger}
use Rattle.ledger.specs.Calls.{Act, arrive, stitch, prefetch, credit, map_to, turn, ready, where_is, clear, report, bucket, show, Reply, entry, step}
use Rattle.ledger.specs.Desk.{Desk, has, Call, setup, act, desk}
use Rattle.ledger.specs.Sound.{Orderly, Roomy}
use Rattle.ledger.specs.Packets.{slot_at, bytes_at, stored, Memories, Sized, packet, brings, keeps, slot_of, StoredAt, NotFree, SlotsStay}
use Rattle.ledger.proofs.Tests.{eqb_yes, eqb_is}
use Rattle.ledger.proofs.Order.{named_by}
use Rattle.ledger.proofs.Packets.{FromPool, KeptWithin, kept_within}
use Rattle.ledger.proofs.Courses.{Faithful, act_answer, desk_faithful}

-- ---- bytes stored in any list

-- n bytes behind the first m of a part
bytes_behind : (m n : ℕ) (l : List ℕ) → m ≤ length l → drop m (take (m + n) l) ≡ take n (drop m l)
bytes_behind m n l h = ap (drop m) (take-add m n l) ∙ drop_at (take m l) (take n (drop m l)) m (length-take-le m l h)

-- bytes within a list's front go by the front only
bytes_front : (i n at : ℕ) (k r : List ℕ) → i + n ≤ at → at ≤ length k → bytes_at i n (take at k ++ r) ≡ bytes_at i n (take at k)
bytes_front i n at k r h fits =
    let long : length (take at k) ≡ at = length-take-le at k fits in
    ap (take n) (drop-append-le i (take at k) r (omega arith))
    ∙ take-append-le n (drop i (take at k)) r (omega (arith, length-drop i (take at k)))

module _ (at : ℕ) (b k : List ℕ) (fits : at + length b ≤ length k) where
  -- a store is a copy of all its bytes
  pub stored_paste : stored at b k ≡ paste k at b (length b)
  unfolding stored
  stored_paste =
      sym (append_assoc (take at k) b (drop (at + length b) k))
      ∙ ap (λ (l : List ℕ). take at k ++ l ++ drop (at + length b) k) (sym (take-length b))

  pub length_stored : length (stored at b k) ≡ length k
  length_stored = ap length stored_paste ∙ length-paste k at b (length b) fits (omega arith)

  -- from there on: the bytes stored, and behind them what stood there
  pub from_stored : drop at (stored at b k) ≡ b ++ drop (at + length b) k
  unfolding stored
  from_stored = drop_at (take at k) (b ++ drop (at + length b) k) at (length-take-le at k (omega arith))

  pub stored_behind : (i : ℕ) → at + length b ≤ i → drop i (stored at b k) ≡ drop i k
  stored_behind i h =
      let j : ℕ = i - (at + length b) in
      let e : at + length b + j ≡ i = omega arith in
      rw (← e)
      (sym (drop-drop j (at + length b) (stored at b k))
      ∙ ap (λ (l : List ℕ). drop j (drop (at + length b) l)) stored_paste
      ∙ ap (drop j) (drop-paste k at b (length b) (omega arith) (omega arith))
      ∙ drop-drop j (at + length b) k)

  -- the bytes before stay
  pub stored_before : (i n : ℕ) → i + n ≤ at → bytes_at i n (stored at b k) ≡ bytes_at i n k
  unfolding stored
  stored_before i n h =
      bytes_front i n at k (b ++ drop (at + length b) k) h (omega arith)
      ∙ sym (bytes_front i n at k (drop at k) h (omega arith))
      ∙ ap (bytes_at i n) (take-append-drop at k)

  -- n bytes from there on start with those that were stored, and the rest of them stay
  module _ (n : ℕ) (room : length b ≤ n) where
    pub stored_starts : take (length b) (bytes_at at n (stored at b k)) ≡ b
    stored_starts =
        take-take (length b) n (drop at (stored at b k)) room
        ∙ ap (take (length b)) from_stored
        ∙ take-append_seam b (drop (at + length b) k)

    pub stored_rest : drop (length b) (bytes_at at n (stored at b k)) ≡ drop (length b) (bytes_at at n k)
    stored_rest =
        let j : ℕ = n - length b in
        let e : length b + j ≡ n = omega arith in
        rw (← e)
        (bytes_behind (length b) j (drop at (stored at b k)) (omega (arith, length-drop at (stored at b k), length_stored))
        ∙ ap (take j)
        (drop-drop (length b) at (stored at b k) ∙ stored_behind (at + length b) (omega arith) ∙ sym (drop-drop (length b) at k))
        ∙ sym (bytes_behind (length b) j (drop at k) (omega (arith, length-drop at k))))

-- slots of different indexes do not touch
apart : (i j : ℕ) → i ≢ j → (i * slot_bytes + slot_bytes ≤ j * slot_bytes) ⊎ (j * slot_bytes + slot_bytes ≤ i * slot_bytes)
apart i j n = go (dec_le i j)
  where
    go : Dec (i ≤ j) → (i * slot_bytes + slot_bytes ≤ j * slot_bytes) ⊎ (j * slot_bytes + slot_bytes ≤ i * slot_bytes)
    go (yes h) = inl (omega arith)
    go (no h) = inr (omega arith)

pub stored_other : (i j : ℕ) (b k : List ℕ) → i ≢ j → length b ≤ slot_bytes → j * slot_bytes + length b ≤ length k
    → bytes_at (i * slot_bytes) slot_bytes (stored (j * slot_bytes) b k) ≡ bytes_at (i * slot_bytes) slot_bytes k
stored_other i j b k n few fits = go (apart i j n)
  where
    go : (i * slot_bytes + slot_bytes ≤ j * slot_bytes) ⊎ (j * slot_bytes + slot_bytes ≤ i * slot_bytes)
        → bytes_at (i * slot_bytes) slot_bytes (stored (j * slot_bytes) b k) ≡ bytes_at (i * slot_bytes) slot_bytes k
    go (inl h) = stored_before (j * slot_bytes) b k fits (i * slot_bytes) slot_bytes h
    go (inr h) = ap (take slot_bytes) (stored_behind (j * slot_bytes) b k fits (i * slot_bytes) (omega arith))

-- ---- a packet that is taken in

module _ (S : Settings) (L : Ledger) (p n : ℕ) (b : List ℕ) (y : ℕ) (w : KeptWithin S L p n b y) (ks : Memories) (sized : Sized S ks) where
  abbrev kept : Memories
  kept = keeps (packet p b) (entry y) ks

  room : slot_at y + length b ≤ length (ks p)
  room = omega (arith, w.slot, w.short, w.room, sized p w.port)

  -- by whether a memory is the arriving port's
  at_port : (P : ℕ → List ℕ → Type 0) → P p (stored (slot_at y) b (ks p)) → ((o : ℕ) → P o (ks o)) → (o : ℕ) → P o (kept o)
  at_port P here there o = go (eqb o p) refl
    where
      go : (t : Bool) → eqb o p ≡ t → P o (cond t (stored (slot_at y) b (ks o)) (ks o))
      go true e = subst (λ (r : ℕ). P r (stored (slot_at y) b (ks r))) (sym (eqb_yes o p e)) here
      go false e = there o

  -- node y's slot is in that memory
  own_memory : kept (owner y) ≡ stored (slot_at y) b (ks (owner y))
  own_memory = rw (eqb_is (owner y) p w.own)

  room_own : slot_at y + length b ≤ length (ks (owner y))
  room_own = rw w.own room

  pub stored_at : StoredAt S y b ks kept
  stored_at = record {
    same_lengths = at_port (λ o k. length k ≡ length (ks o)) (length_stored (slot_at y) b (ks p) room) (λ o. refl);
    starts = rw own_memory (stored_starts (slot_at y) b (ks (owner y)) room_own slot_bytes (omega (arith, w.short)));
    rest = rw own_memory (stored_rest (slot_at y) b (ks (owner y)) room_own slot_bytes (omega (arith, w.short)));
    others = λ z i d. at_port (λ o k. owner z ≡ o → bytes_at (slot_at z) slot_bytes k ≡ bytes_at (slot_at z) slot_bytes (ks o))
        (λ e. stored_other (index z) (index y) b (ks p) (λ j. d (same_node z (e ∙ sym w.own) j)) (omega (arith, w.short)) room)
        (λ o e. refl)
        (owner z)
        refl;
  }
    where
      same_node : (z : ℕ) → owner z ≡ owner y → index z ≡ index y → z ≡ y
      same_node z e j = omega arith

-- ---- no call writes the slot of a node that isn't free

-- nor takes such a node
pub not_taken : (S : Settings) (L : Ledger) (x y : ℕ) → FromPool S L x → NotFree S L y → y ≢ x
not_taken S L x y f nf i =
    let a : NotFree S L x = subst (NotFree S L) i nf in
    let c = rw f.1 at a in
    c.0 refl

either_way : {A : Type 0} (t : Bool) (a : A) → cond t a a ≡ a
either_way true a = refl
either_way false a = refl

module _ (S : Settings) (ok : Roomy S) (L : Ledger) (s : Orderly S L) (ks : Memories) (sized : Sized S ks) where
  -- after an act port o's memory is as it was, or as a packet that was taken in leaves it
  act_leaves : (o : ℕ) (P : List ℕ → Type 0) → P (ks o)
      → ((p n : ℕ) (b : List ℕ) (x : ℕ) → KeptWithin S L p n b x → P (keeps (packet p b) (entry x) ks o))
      → (a : Act) → P (keeps (brings a) (step S L a).0 ks o)
  act_leaves o P f g (arrive p (alone h)) = f
  act_leaves o P f g (arrive p (whole n b)) =
      let k : List ℕ = ks o in
      let none : P (cond (eqb o p) k k) = rw (either_way (eqb o p) k) f in
      named_by (λ j. P (cond (eqb o p) j k)) k (λ x. stored (slot_at x) b k) (λ c. k) (λ j. k) (step S L (arrive p (whole n b))).0 none
      (λ x e. g p n b x (kept_within S ok L s p n b x e))
      (λ c. none)
      (λ j t e. none)
  act_leaves o P f g (stitch p) = f
  act_leaves o P f g (prefetch p q) = f
  act_leaves o P f g (credit p q n) = f
  act_leaves o P f g (map_to d p) = f
  act_leaves o P f g (turn c p) = f
  act_leaves o P f g (ready p) = f
  act_leaves o P f g (where_is y) = f
  act_leaves o P f g (clear p) = f
  act_leaves o P f g (report p) = f
  act_leaves o P f g (bucket p b) = f
  act_leaves o P f g (show ns p q) = f

  -- its length is as it was
  pub act_sized : (a : Act) → Sized S (keeps (brings a) (step S L a).0 ks)
  act_sized a o h =
      act_leaves o (λ k. length k ≡ packet_room S) (sized o h) (λ p n b x w. (stored_at S L p n b x w ks sized).same_lengths o ∙ sized o h) a

  pub act_stays : (y : ℕ) → is_node S y ≡ true → NotFree S L y → (a : Act) → slot_of (keeps (brings a) (step S L a).0 ks) y ≡ slot_of ks y
  act_stays y node nf =
      act_leaves (owner y) (λ k. bytes_at (slot_at y) slot_bytes k ≡ slot_of ks y) refl
      (λ p n b x w. (stored_at S L p n b x w ks sized).others y node (not_taken S L x y w.was_free nf))

-- on whatever answers and shows as the desk does

module _ {X : Type 0} (call : X → Call → Reply × X) (shows : X → Desk) (long : X → ℕ) (faithful : Faithful call shows long) (S : Settings) (ok : Roomy S)
    (x : X) (L : Ledger) (e : shows x ≡ has S L) (s : Orderly S L) where
  pub taken_in : (p n : ℕ) (b : List ℕ) (y : ℕ) → (call x (act (arrive p (whole n b)))).0 ≡ entry y → KeptWithin S L p n b y
  taken_in p n b y i = kept_within S ok L s p n b y (sym (act_answer call shows long faithful S x L e (arrive p (whole n b))) ∙ i)

  -- an arrival that is answered with node y's entry id stores its packet in y's slot, and nothing else anywhere
  pub arrival_stored : (p n : ℕ) (b : List ℕ) (y : ℕ) → (call x (act (arrive p (whole n b)))).0 ≡ entry y
      → (ks : Memories) → Sized S ks → StoredAt S y b ks (keeps (packet p b) (entry y) ks)
  arrival_stored p n b y i ks sized = stored_at S L p n b y (taken_in p n b y i) ks sized

  pub slots_stay : SlotsStay call S L x
  slots_stay ks sized (setup T) y node nf = refl
  slots_stay ks sized (act a) y node nf =
      subst (λ (r : Reply). slot_of (keeps (brings a) r ks) y ≡ slot_of ks y) (sym (act_answer call shows long faithful S x L e a))
      (act_stays S ok L s ks sized y node nf a)

pub desk_slots_stay : (n : ℕ) (S : Settings) → Roomy S → (L : Ledger) → Orderly S L → SlotsStay (desk n) S L (has S L)
desk_slots_stay n S ok L s = slots_stay (desk n) (λ D. D) (λ D. n) (desk_faithful n) S ok (has S L) L refl s
