-- What the walk of all lists leaves in a room, with no code: the block of a node that is met is its place, another is as it was lent, and
-- rule (c) says that each node is met once. Assumes nothing.
use mathlib.Core.Path.{◌≡◌, refl, sym, ap, ◌∙◌}
use mathlib.Core.Logic.{◌≢◌}
use mathlib.Core.Bool.{true}
use mathlib.Core.List.{List, [], ◌∷◌, ◌++◌, map}
use Prim.Native.Nat.{ℕ, zero, suc, ◌+◌, ◌*◌, ◌≤◌, ◌<◌}
use native.Mathlib.Nat.{not-suc-le-zero, le_of_suc-le-suc}
use native.Mathlib.Decide.{ℕ_discrete}
use native.Mathlib.Omega.{arith}
use lib.ListN.{length, get_or, drop}
use Rattle.ledger.specs.Settings.{Settings}
use Rattle.ledger.specs.Ledger.{is_node, Packet, bare, Place, place_of}
use Rattle.ledger.specs.Ready.{bit}
use Rattle.ledger.specs.Calls.{position, which}
use Rattle.ledger.specs.Sound.{All}
use Rattle.ledger.specs.Audit.{place_bytes, node_at}
use Rattle.ledger.proofs.Find.{stands, position_at}
use Rattle.ledger.proofs.Rows.{roomy}
use Rattle.layout.specs.Tables.{lists, all}
use Rattle.layout.specs.Picture.{slot, nodes_of, node_in, ledger_in, StateOf}
use Rattle.memory.specs.Audit.{block, joined, place_told}
use Rattle.memory.proofs.Chains.{times, bit_same, nodes_length, item_node, length_lists, list_at_lem, list_length, times_le, times_two, slot_lt, slot_inj}
use Rattle.memory.proofs.Chains.{state_tidy, members, once_most}
use Rattle.memory.proofs.Audit.{blocks_are, joined_same, node_at_lem, place_told_lem}
use Rattle.audits.specs.Told.{told_node, told_nodes, told_list, told_lists}
use Rattle.audits.proofs.Rooms.{put_length, put_past, block_same, block_other}

-- a node that stands among some is counted there
times_some : (y : ℕ) (xs : List ℕ) (k : ℕ) → k < length xs → get_or xs k 0 ≡ y → 1 ≤ times y xs
times_some y [] k h e = absurd (not-suc-le-zero h)
times_some y (x ∷ xs) zero h e = omega (arith, bit_same x y e)
times_some y (x ∷ xs) (suc k) h e = omega (arith, times_some y xs k (le_of_suc-le-suc h) e)

-- a node that a list shows
item_at : (S : Settings) (m : List ℕ) (l : ℕ) (xs : List ℕ) (k : ℕ) → k < length xs → (get_or (map (node_in S m l) xs) k (bare 0)).node ≡ get_or xs k 0
item_at S m l [] k h = absurd (not-suc-le-zero h)
item_at S m l (x ∷ xs) zero h = item_node S m l x
item_at S m l (x ∷ xs) (suc k) h = item_at S m l xs k (le_of_suc-le-suc h)

module _ (S : Settings) where
  abbrev Nodes : List ℕ → Type 0
  Nodes xs = All (λ x. is_node S x ≡ true) xs

  -- a room of eight bytes a node
  abbrev Wide : List ℕ → Type 0
  Wide room = 8 * all S ≤ length room

  -- what of a room stays when nodes are told: its length, and what is past the answer
  pub record Kept (room room' : List ℕ) : Type 0 where
    pub long : length room' ≡ length room
    pub past : drop (8 * all S) room' ≡ drop (8 * all S) room

  -- ---- one node

  module _ (v : Place) (i x : ℕ) (node : is_node S x ≡ true) (room : List ℕ) (wide : Wide room) where
    low : 8 * slot S x + 8 ≤ 8 * all S
    low = omega (arith, slot_lt S x node)

    here : 8 * slot S x + 8 ≤ length room
    here = omega (arith, low)

    eight : length (place_bytes x v i) ≡ 8
    unfolding place_bytes
    eight = refl

    pub node_keeps : Kept room (told_node S v i x room)
    node_keeps = record {
      long = put_length (8 * slot S x) (place_bytes x v i) room eight here;
      past = put_past (8 * slot S x) (place_bytes x v i) room eight here (8 * all S) low;
    }

    node_met : block (slot S x) (told_node S v i x room) ≡ place_bytes x v i
    node_met = block_same (slot S x) (place_bytes x v i) room eight here

    node_missed : (y : ℕ) → is_node S y ≡ true → x ≢ y → block (slot S y) (told_node S v i x room) ≡ block (slot S y) room
    node_missed y e n = block_other (slot S x) (place_bytes x v i) room eight here (slot S y) (λ p. n (sym (slot_inj S y x e node p)))

  -- ---- the nodes of a list

  nodes_keep : (v : Place) (i : ℕ) (xs : List ℕ) → Nodes xs → (room : List ℕ) → Wide room → Kept room (told_nodes S v i xs room)
  unfolding told_nodes
  nodes_keep v i [] a room w = record { long = refl; past = refl }
  nodes_keep v i (x ∷ xs) a room w =
      let k = node_keeps v i x a.0 room w in
      let r = nodes_keep v (suc i) xs a.1 (told_node S v i x room) (omega (arith, k.long)) in
      record { long = r.long ∙ k.long; past = r.past ∙ k.past }

  module _ (y : ℕ) (node : is_node S y ≡ true) where
    nodes_miss : (v : Place) (i : ℕ) (xs : List ℕ) → Nodes xs → (room : List ℕ) → Wide room → times y xs ≡ 0
        → block (slot S y) (told_nodes S v i xs room) ≡ block (slot S y) room
    unfolding told_nodes
    nodes_miss v i [] a room w z = refl
    nodes_miss v i (x ∷ xs) a room w z =
        nodes_miss v (suc i) xs a.1 (told_node S v i x room) (omega (arith, (node_keeps v i x a.0 room w).long)) (omega arith)
        ∙ node_missed v i x a.0 room w y node (λ p. omega (arith, bit_same x y p))

    nodes_meet : (v : Place) (i : ℕ) (xs : List ℕ) → Nodes xs → (room : List ℕ) → Wide room → times y xs ≤ 1
        → (k : ℕ) → k < length xs → get_or xs k 0 ≡ y → block (slot S y) (told_nodes S v i xs room) ≡ place_bytes y v (i + k)
    unfolding told_nodes
    nodes_meet v i [] a room w o k h e = absurd (not-suc-le-zero h)
    nodes_meet v i (x ∷ xs) a room w o zero h e =
        let d : i ≡ i + 0 = omega arith in
        nodes_miss v (suc i) xs a.1 (told_node S v i x room) (omega (arith, (node_keeps v i x a.0 room w).long)) (omega (arith, bit_same x y e))
        ∙ rw (← e) (node_met v i x a.0 room w ∙ ap (place_bytes x v) d)
    nodes_meet v i (x ∷ xs) a room w o (suc k) h e =
        let d : suc i + k ≡ i + suc k = omega arith in
        let w' = (node_keeps v i x a.0 room w).long in
        nodes_meet v (suc i) xs a.1 (told_node S v i x room) (omega (arith, w')) (omega arith) k (le_of_suc-le-suc h) e ∙ ap (place_bytes y v) d

  -- ---- all lists of a switch state

  module _ (m : List ℕ) (s : StateOf S m) where
    list_keeps : (l : ℕ) → l < lists S → (room : List ℕ) → Wide room → Kept room (told_list S m l room)
    list_keeps l h room w = nodes_keep (place_of S l) 0 (nodes_of S m l) (members S m (state_tidy S m s) l h) room w

    lists_keep : (l n : ℕ) → l + n ≤ lists S → (room : List ℕ) → Wide room → Kept room (told_lists S m l n room)
    unfolding told_lists
    lists_keep l zero h room w = record { long = refl; past = refl }
    lists_keep l (suc n) h room w =
        let k = list_keeps l (omega arith) room w in
        let r = lists_keep (suc l) n (omega arith) (told_list S m l room) (omega (arith, k.long)) in
        record { long = r.long ∙ k.long; past = r.past ∙ k.past }

    module _ (y : ℕ) (node : is_node S y ≡ true) where
      lists_miss : (l n : ℕ) → l + n ≤ lists S → (room : List ℕ) → Wide room → ((a : ℕ) → l ≤ a → a < lists S → times y (nodes_of S m a) ≡ 0)
          → block (slot S y) (told_lists S m l n room) ≡ block (slot S y) room
      unfolding told_lists
      lists_miss l zero h room w z = refl
      lists_miss l (suc n) h room w z =
          lists_miss (suc l) n (omega arith) (told_list S m l room) (omega (arith, (list_keeps l (omega arith) room w).long))
          (λ a b c. z a (omega arith) c)
          ∙ nodes_miss y node (place_of S l) 0 (nodes_of S m l) (members S m (state_tidy S m s) l (omega arith)) room w (z l (omega arith) (omega arith))

      -- node y stands in list a at position k
      module _ (a k : ℕ) (inside : a < lists S) (short : k < length (nodes_of S m a)) (there : get_or (nodes_of S m a) k 0 ≡ y) where
        most : times y (nodes_of S m a) ≤ 1
        most = omega (arith, times_le S m y a inside, once_most S m (state_tidy S m s) y)

        -- so in no other
        nowhere_else : (b : ℕ) → b ≢ a → b < lists S → times y (nodes_of S m b) ≡ 0
        nowhere_else b n h =
            omega (
              arith,
              times_two S m y a b inside h n,
              once_most S m (state_tidy S m s) y,
              times_some y (nodes_of S m a) k short there,
            )

        lists_meet : (l n : ℕ) → l ≤ a → a < l + n → l + n ≤ lists S → (room : List ℕ) → Wide room
            → block (slot S y) (told_lists S m l n room) ≡ place_bytes y (place_of S a) k
        unfolding told_lists
        lists_meet l zero lo hi h room w = absurd (omega arith)
        lists_meet l (suc n) lo hi h room w = go (ℕ_discrete l a) (lists_meet (suc l) n)
          where
            next : List ℕ
            next = told_list S m l room

            wide : Wide next
            wide = omega (arith, (list_keeps l (omega arith) room w).long)

            go : Dec (l ≡ a)
                → (suc l ≤ a → a < suc l + n → suc l + n ≤ lists S → (room : List ℕ) → Wide room
                → block (slot S y) (told_lists S m (suc l) n room) ≡ place_bytes y (place_of S a) k)
                → block (slot S y) (told_lists S m (suc l) n next) ≡ place_bytes y (place_of S a) k
            go (no d) rec = rec (omega arith) (omega arith) (omega arith) next wide
            go (yes d) rec =
                let e : 0 + k ≡ k = omega arith in
                lists_miss (suc l) n (omega arith) next wide (λ b c f. nowhere_else b (λ p. omega arith) f)
                ∙ rw d (nodes_meet y node (place_of S a) 0 (nodes_of S m a) (members S m (state_tidy S m s) a inside) room w most k short there)
                ∙ ap (place_bytes y (place_of S a)) e

      -- it stands where `where` finds it, so after the walk of all lists its block tells that
      all_meet : (room : List ℕ) → Wide room
          → let l = which y (ledger_in S m).lists in
          block (slot S y) (told_lists S m 0 (lists S) room) ≡ place_bytes y (place_of S l) (position y (get_or (ledger_in S m).lists l []))
      all_meet room w =
          let ls = (ledger_in S m).lists in
          let l = which y ls in
          let k = position y (get_or ls l []) in
          let t = stands y ls (omega (arith, s.sound.orderly.once y, ap bit node)) in
          let inside : l < lists S = rw (length_lists S m) at t.which_lt in
          let short : k < length (nodes_of S m l) = omega (arith, t.there, list_length S m l inside, nodes_length S m l) in
          let there : get_or (nodes_of S m l) k 0 ≡ y =
          sym (item_at S m l (nodes_of S m l) k short)
          ∙ ap (λ (ks : List Packet). (get_or ks k (bare 0)).node) (sym (list_at_lem S m l inside))
          ∙ position_at y (get_or ls l []) t.there in
          lists_meet l k inside short there 0 (lists S) (omega arith) (omega arith) (omega arith) room w

    -- the walk leaves what an audit does
    pub walk_tells : (room : List ℕ) → Wide room → told_lists S m 0 (lists S) room ≡ joined (place_told S m room) (all S) ++ drop (8 * all S) room
    walk_tells room w =
        let told = told_lists S m 0 (lists S) room in
        let past = (lists_keep 0 (lists S) (omega arith) room w).past in
        let places : joined (λ i. block i told) (all S) ≡ joined (place_told S m room) (all S) =
        joined_same (λ i. block i told) (place_told S m room) (all S)
        (λ i h.
        let n = node_at_lem S (roomy S s.sound.rows) i h in
        ap (λ (k : ℕ). block k told) (sym n.slot_is) ∙ all_meet (node_at S i) n.node room w ∙ sym (place_told_lem S m room i n.node)) in
        sym (blocks_are told (all S)) ∙ rw (places, past)
