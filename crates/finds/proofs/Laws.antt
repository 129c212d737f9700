-- What the walks and the search come to, with no code: they find what `where` answers. Assumes nothing.
use mathlib.Core.Path.{◌≡◌, refl, sym, ap, ◌∙◌}
use mathlib.Core.Bool.{Bool, true, false, cond}
use mathlib.Core.List.{List, [], ◌∷◌, map}
use Prim.Native.Nat.{ℕ, zero, suc, ◌+◌, ◌-◌, ◌≤◌, ◌<◌}
use native.Mathlib.Nat.{le_of_suc-le-suc, not-suc-le-zero}
use native.Mathlib.Numerals.{add-one}
use native.Mathlib.Omega.{arith}
use lib.ListN.{length, get_or}
use lib.Dec.{eqb, ltb}
use Rattle.ledger.specs.Settings.{Settings}
use Rattle.ledger.specs.Ledger.{is_node, Packet, place_of}
use Rattle.ledger.specs.Ready.{bit}
use Rattle.ledger.specs.Calls.{refused, found, where_is, position, which}
use Rattle.ledger.specs.Sound.{All}
use Rattle.ledger.proofs.Tests.{ltb_yes, ltb_no, eqb_is, eqb_not}
use Rattle.ledger.proofs.Find.{stands}
use Rattle.layout.specs.declared.Table.TheVariants.{Head, Count, Next}
use Rattle.layout.specs.Tables.{lists, get}
use Rattle.layout.specs.Picture.{slot, chain, nodes_of, node_in, tabulate, ledger_in, StateOf}
use Rattle.memory.specs.Memory.{acted}
use Rattle.memory.proofs.Chains.{shown, item_node, length_lists, members, state_tidy, chain_front}
use Rattle.std.specs.Prelude.{Option, None, Some}
use Rattle.ledger.specs.Sound.{Roomy}
use Rattle.std.proofs.lemmas.Bool.Decides.{nat_tests}
use Rattle.memory.proofs.Chains.{total_bound, slot_lt}
use Rattle.finds.specs.Search.{walked, or_else, searched}

-- a list's positions fit two bytes
pub few : (S : Settings) (m : List ℕ) (l : ℕ) → StateOf S m → Roomy S → l < lists S → get S m Count l ≤ 65536
few S m l s ok h = total_bound S m (state_tidy S m s) ok l h

module _ (S : Settings) (m : List ℕ) (x : ℕ) where
  -- ---- the walk of list l: at node y, of position i, what is found in the whole is what is found in the rest

  pub record Walking (l y i : ℕ) : Type 0 where
    pub low : i ≤ get S m Count l
    pub rest : walked x 0 (nodes_of S m l) ≡ walked x i (chain S m (get S m Count l - i) y)
    pub nodes : All (λ z. is_node S z ≡ true) (chain S m (get S m Count l - i) y)

  pub walk_starts : StateOf S m → (l y : ℕ) → l < lists S → y ≡ get S m Head l → Walking l y 0
  unfolding nodes_of
  walk_starts s l y h first =
      let e : get S m Count l ≡ get S m Count l - 0 = omega arith in
      record {
        low = omega arith;
        rest = rw first (ap (λ (n : ℕ). walked x 0 (chain S m n (get S m Head l))) e);
        nodes = rw (← e, first) (members S m (state_tidy S m s) l h);
      }

  pub walk_ends : (l y i : ℕ) → Walking l y i → get S m Count l ≤ i → None ≡ walked x 0 (nodes_of S m l)
  unfolding chain walked
  walk_ends l y i w h =
      let e : get S m Count l - i ≡ 0 = omega arith in
      sym (w.rest ∙ ap (λ (n : ℕ). walked x i (chain S m n y)) e)

  module _ (l y i : ℕ) (w : Walking l y i) (h : i < get S m Count l) where
    pub walk_node : is_node S y ≡ true
    walk_node = (rw (chain_front S m (get S m Count l) i y h) at w.nodes).0

    pub walk_meets : y ≡ x → Some i ≡ walked x 0 (nodes_of S m l)
    unfolding walked
    walk_meets e = sym (w.rest ∙ rw (chain_front S m (get S m Count l) i y h, eqb_is y x e))

    pub walk_goes : (y' : ℕ) → y' ≡ get S m Next (slot S y) → (y ≡ x → ⊥) → Walking l y' (i + 1)
    unfolding walked
    walk_goes y' next n = record {
      low = omega arith;
      rest = w.rest ∙ rw (next, chain_front S m (get S m Count l) i y h, eqb_not y x n, add-one);
      nodes = rw next (rw (chain_front S m (get S m Count l) i y h) at w.nodes).1;
    }

  -- ---- the search: at list l, what is found in all lists is what is found in the rest

  pub record Searching (l : ℕ) : Type 0 where
    pub low : l ≤ lists S
    pub rest : searched S m x 0 (lists S) ≡ searched S m x l (lists S - l)

  pub search_starts : Searching 0
  search_starts = let e : lists S ≡ lists S - 0 = omega arith in record { low = omega arith; rest = ap (searched S m x 0) e }

  pub search_ends : (l : ℕ) → Searching l → lists S ≤ l → None ≡ searched S m x 0 (lists S)
  unfolding searched
  search_ends l w h = let e : lists S - l ≡ 0 = omega arith in sym (w.rest ∙ ap (searched S m x l) e)

  module _ (l : ℕ) (w : Searching l) (h : l < lists S) where
    next_list : searched S m x 0 (lists S) ≡ or_else l (walked x 0 (nodes_of S m l)) (searched S m x (l + 1) (lists S - (l + 1)))
    unfolding searched
    next_list = let e : lists S - l ≡ suc (lists S - (l + 1)) = omega arith in w.rest ∙ rw (e, add-one)

    pub search_meets : (i : ℕ) → Some i ≡ walked x 0 (nodes_of S m l) → Some (l, i) ≡ searched S m x 0 (lists S)
    search_meets i e = sym (next_list ∙ rw (← e))

    pub search_goes : None ≡ walked x 0 (nodes_of S m l) → Searching (l + 1)
    search_goes e = record { low = omega arith; rest = next_list ∙ rw (← e) }

  -- ---- what the walk and the search find is the ledger's position and list

  module _ (f : ℕ → Packet) (same : (z : ℕ) → (f z).node ≡ z) where
    walk_at : (i : ℕ) (zs : List ℕ) → position x (map f zs) < length (map f zs) → walked x i zs ≡ Some (i + position x (map f zs))
    unfolding walked
    walk_at i [] h = absurd (not-suc-le-zero h)
    walk_at i (z ∷ zs) h = rw (same z) (go (eqb z x) (rw (same z) at h) (walk_at (suc i) zs))
      where
        go : (b : Bool) → cond b 0 (suc (position x (map f zs))) < suc (length (map f zs))
            → (position x (map f zs) < length (map f zs) → walked x (suc i) zs ≡ Some (suc i + position x (map f zs)))
            → cond b (Some i) (walked x (suc i) zs) ≡ Some (i + cond b 0 (suc (position x (map f zs))))
        go true h k = let e : i ≡ i + 0 = omega arith in ap Some e
        go false h k = let e : suc i + position x (map f zs) ≡ i + suc (position x (map f zs)) = omega arith in k (le_of_suc-le-suc h) ∙ ap Some e

    walk_not : (i : ℕ) (zs : List ℕ) → length (map f zs) ≤ position x (map f zs) → walked x i zs ≡ None
    unfolding walked
    walk_not i [] h = refl
    walk_not i (z ∷ zs) h = go (eqb z x) (rw (same z) at h) (walk_not (suc i) zs)
      where
        go : (b : Bool) → suc (length (map f zs)) ≤ cond b 0 (suc (position x (map f zs)))
            → (length (map f zs) ≤ position x (map f zs) → walked x (suc i) zs ≡ None)
            → cond b (Some i) (walked x (suc i) zs) ≡ None
        go true h k = absurd (not-suc-le-zero h)
        go false h k = k (le_of_suc-le-suc h)

  -- list l, and what is found in the lists after it
  search_step : (l n : ℕ) (ls : List (List Packet)) (later : Option (ℕ × ℕ))
      → (which x ls < n → later ≡ Some (suc l + which x ls, position x (get_or ls (which x ls) [])))
      → (b : Bool) → ltb (position x (shown S m l)) (length (shown S m l)) ≡ b → cond b 0 (suc (which x ls)) < suc n
      → or_else l (walked x 0 (nodes_of S m l)) later
      ≡ Some (l + cond b 0 (suc (which x ls)), position x (get_or (shown S m l ∷ ls) (cond b 0 (suc (which x ls))) []))
  search_step l n ls later k true e h =
      let a : 0 + position x (shown S m l) ≡ position x (shown S m l) = omega arith in
      let d : l ≡ l + 0 = omega arith in
      rw (walk_at (node_in S m l) (item_node S m l) 0 (nodes_of S m l) (ltb_yes (position x (shown S m l)) (length (shown S m l)) e)) (cc)
  search_step l n ls later k false e h =
      let d : suc l + which x ls ≡ l + suc (which x ls) = omega arith in
      rw (walk_not (node_in S m l) (item_node S m l) 0 (nodes_of S m l) (ltb_no (position x (shown S m l)) (length (shown S m l)) e))
      (k (le_of_suc-le-suc h) ∙ ap (λ (j : ℕ). Some (j, position x (get_or ls (which x ls) []))) d)

  search_is : (l n : ℕ) → which x (tabulate (shown S m) l n) < n
      → searched S m x l n
      ≡ Some (l + which x (tabulate (shown S m) l n), position x (get_or (tabulate (shown S m) l n) (which x (tabulate (shown S m) l n)) []))
  unfolding searched
  search_is l zero h = absurd (not-suc-le-zero h)
  search_is l (suc n) h = search_step l n (tabulate (shown S m) (suc l) n) (searched S m x (suc l) n) (search_is (suc l) n) _ refl h

  -- ---- where

  pub refuses : is_node S x ≡ false → refused 15 ≡ (acted S m (where_is x)).0
  unfolding acted
  refuses e = rw e

  -- node x stands in list l at position i
  pub record Found (l i : ℕ) : Type 0 where
    pub inside : l < lists S
    pub reply : found (place_of S l) i ≡ (acted S m (where_is x)).0

  module _ (s : StateOf S m) (node : is_node S x ≡ true) where
    which_in : which x (ledger_in S m).lists < lists S
    which_in = rw (length_lists S m) at (stands x (ledger_in S m).lists (omega (arith, s.sound.orderly.once x, ap bit node))).which_lt

    finds : searched S m x 0 (lists S)
        ≡ Some (which x (ledger_in S m).lists, position x (get_or (ledger_in S m).lists (which x (ledger_in S m).lists) []))
    unfolding ledger_in
    finds =
        let e : 0 + which x (ledger_in S m).lists ≡ which x (ledger_in S m).lists = omega arith in
        search_is 0 (lists S) which_in ∙ ap (λ (j : ℕ). Some (j, position x (get_or (ledger_in S m).lists (which x (ledger_in S m).lists) []))) e

    pub stands_at : (v : ℕ × ℕ) → Some v ≡ searched S m x 0 (lists S) → Found v.0 v.1
    unfolding acted
    stands_at (l, i) e =
        let p : ◌≡◌ {A = ℕ × ℕ} (l, i)
        (which x (ledger_in S m).lists, position x (get_or (ledger_in S m).lists (which x (ledger_in S m).lists) [])) = cc finds in
        let dl : l ≡ which x (ledger_in S m).lists = ap (λ (a : ℕ × ℕ). a.0) p in
        let di : i ≡ position x (get_or (ledger_in S m).lists (which x (ledger_in S m).lists) []) = ap (λ (a : ℕ × ℕ). a.1) p in
        record { inside = rw dl which_in; reply = rw (node, dl, di) }

    pub stands_somewhere : None ≡ searched S m x 0 (lists S) → ⊥
    stands_somewhere e = let z : ◌≡◌ {A = ℕ} 0 1 = cc finds in omega arith

-- what the search may use: of a walk, of the search of the lists, and of where
pub ruleset walking = (walk_starts, walk_ends, walk_node, walk_meets, walk_goes, few, slot_lt, nat_tests)

pub ruleset searching = (search_ends, search_meets, search_goes)

pub ruleset standing = (refuses, stands_somewhere, nat_tests)
