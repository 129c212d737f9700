-- The loops: what the whole walk leaves is what the rest of it leaves from here. Assumes nothing.
use mathlib.Core.Path.{◌≡◌, refl, sym, ap, ◌∙◌}
use mathlib.Core.Bool.{true}
use mathlib.Core.List.{List}
use Prim.Native.Nat.{ℕ, suc, ◌+◌, ◌-◌, ◌≤◌, ◌<◌}
use native.Mathlib.Numerals.{add-one}
use native.Mathlib.Omega.{arith}
use lib.ListN.{length}
use Rattle.ledger.specs.Settings.{Settings}
use Rattle.ledger.specs.Ledger.{is_node, place_of}
use Rattle.ledger.specs.Sound.{All, Roomy}
use Rattle.layout.specs.declared.Table.TheVariants.{Head, Count, Next}
use Rattle.layout.specs.Tables.{lists, get}
use Rattle.layout.specs.Picture.{slot, chain, nodes_of, StateOf}
use Rattle.memory.proofs.Chains.{members, state_tidy, chain_front, total_bound}
use Rattle.audits.specs.Told.{told_node, told_nodes, told_list, told_lists}

-- ---- the nodes of list l: at node x, of position i

module _ (S : Settings) (m : List ℕ) (l : ℕ) (room₀ : List ℕ) where
  pub record Telling (room : List ℕ) (x i : ℕ) : Type 0 where
    pub low : i ≤ get S m Count l
    pub same_length : length room ≡ length room₀
    pub rest : told_list S m l room₀ ≡ told_nodes S (place_of S l) i (chain S m (get S m Count l - i) x) room
    pub nodes : All (λ z. is_node S z ≡ true) (chain S m (get S m Count l - i) x)

  pub tell_starts : StateOf S m → l < lists S → Telling room₀ (get S m Head l) 0
  unfolding nodes_of
  tell_starts s h =
      let e : get S m Count l ≡ get S m Count l - 0 = omega arith in
      record {
        low = omega arith;
        same_length = refl;
        rest = ap (λ (n : ℕ). told_nodes S (place_of S l) 0 (chain S m n (get S m Head l)) room₀) e;
        nodes = rw (← e) (members S m (state_tidy S m s) l h);
      }

  module _ {room : List ℕ} {x i : ℕ} (w : Telling room x i) where
    pub tell_ends : get S m Count l ≤ i → room ≡ told_list S m l room₀
    unfolding chain told_nodes
    tell_ends h =
        let e : get S m Count l - i ≡ 0 = omega (arith, w.low) in
        sym (w.rest ∙ ap (λ (n : ℕ). told_nodes S (place_of S l) i (chain S m n x) room) e)

    module _ (h : i < get S m Count l) where
      pub tell_node : is_node S x ≡ true
      tell_node = (rw (chain_front S m (get S m Count l) i x h) at w.nodes).0

      pub tell_goes : (room' : List ℕ) → length room' ≡ length room → room' ≡ told_node S (place_of S l) i x room
          → Telling room' (get S m Next (slot S x)) (i + 1)
      unfolding told_nodes
      tell_goes room' k e = record {
        low = omega arith;
        same_length = k ∙ w.same_length;
        rest = w.rest ∙ rw (chain_front S m (get S m Count l) i x h, e, add-one);
        nodes = (rw (chain_front S m (get S m Count l) i x h) at w.nodes).1;
      }

-- a list's positions fit two bytes
pub few : (S : Settings) (m : List ℕ) (l : ℕ) → StateOf S m → Roomy S → l < lists S → get S m Count l ≤ 65536
few S m l s ok h = total_bound S m (state_tidy S m s) ok l h

-- what the search may use of a list
pub ruleset telling = (tell_starts, tell_node, tell_goes, tell_ends, few)

-- ---- the lists: at list l

module _ (S : Settings) (m room₀ : List ℕ) where
  pub record Passing (room : List ℕ) (l : ℕ) : Type 0 where
    pub low : l ≤ lists S
    pub same_length : length room ≡ length room₀
    pub rest : told_lists S m 0 (lists S) room₀ ≡ told_lists S m l (lists S - l) room

  pub pass_starts : Passing room₀ 0
  pass_starts =
      let e : lists S ≡ lists S - 0 = omega arith in
      record { low = omega arith; same_length = refl; rest = ap (λ (n : ℕ). told_lists S m 0 n room₀) e }

  module _ {room : List ℕ} {l : ℕ} (w : Passing room l) where
    pub pass_ends : lists S ≤ l → room ≡ told_lists S m 0 (lists S) room₀
    unfolding told_lists
    pass_ends h =
        let e : lists S - l ≡ 0 = omega arith in
        sym (w.rest ∙ ap (λ (n : ℕ). told_lists S m l n room) e)

    pub pass_goes : l < lists S → (room' : List ℕ) → length room' ≡ length room → room' ≡ told_list S m l room → Passing room' (l + 1)
    unfolding told_lists
    pass_goes h room' k f =
        let e : lists S - l ≡ suc (lists S - (l + 1)) = omega arith in
        record { low = omega arith; same_length = k ∙ w.same_length; rest = w.rest ∙ rw (e, f, add-one) }

pub ruleset passing = (pass_starts, pass_goes, pass_ends)
