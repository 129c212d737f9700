-- The steps of the walk: what is found in the whole is what is found in what remains. Assumes nothing.
use mathlib.Core.Path.{◌≡◌, refl, sym, ◌∙◌}
use mathlib.Core.Bool.{Bool, true, false, false≢true, cond, ◌&&◌}
use mathlib.Core.List.{List, [], ◌∷◌}
use Prim.Native.Nat.{ℕ, suc, ◌+◌, ◌-◌, ◌*◌, ◌/◌, ◌%◌, ◌^◌, ◌≤◌, ◌<◌}
use native.Mathlib.Omega.{arith}
use lib.Dec.{eqb}
use Rattle.std.specs.Prelude.{None, Some}
use Rattle.ledger.specs.Settings.{Settings, row}
use Rattle.ledger.proofs.Tests.{true≢false, and_left, and_right}
use Rattle.layout.specs.declared.Table.TheVariants.{Head, Tail, Count, Next}
use Rattle.layout.specs.Tables.{lists, get}
use Rattle.layout.specs.Picture.{slot, chain, nodes_of}
use Rattle.ledger.specs.Sound.{Roomy}
use Rattle.layout.proofs.Tables.{get_lt}
use Rattle.layout.proofs.Shapes.{few}
use Rattle.once.specs.Once.{is_new, mark, mark_all, right}
use Rattle.once.proofs.Means.{passed}
use Rattle.memory.proofs.Chains.{chain_more}
use Rattle.once.proofs.Walk.{Walking, walk_stuck, walk_step, walk_end}
use Rattle.fits.specs.declared.NodeRule.{NodeRule}
use Rattle.fits.specs.Fits.{node_test, first_bad, list_found}
use Rattle.paid.specs.Paid.{add_node, add_all, add_list}
use Rattle.paid.specs.Passes.{Sums}
use Rattle.paid.proofs.Adding.{sums_more, add_sums}
use Rattle.nodes.specs.Nodes.{fits_here, add_here}
use Rattle.nodes.proofs.Here.{fits_each, each_fits}
use Rattle.whole.specs.Whole.{ListKept}
use Rattle.whole.specs.Walks.{count_most, ListPassed}

-- ---- prices that are added

module _ (S : Settings) (m : List ℕ) where
  -- those of nodes in column c, in turn
  unfoldable pub add_each : ℕ → List ℕ → List ℕ → List ℕ
  add_each c sums [] = sums
  add_each c sums (x ∷ xs) = add_each c (add_here S m c sums x) xs

  each_is : (b : Bool) (c : ℕ) → eqb c 0 ≡ b → (xs sums : List ℕ) → add_each c sums xs ≡ cond b sums (add_all S m sums xs)
  unfolding add_each add_all add_here
  each_is true c e [] sums = refl
  each_is false c e [] sums = refl
  each_is true c e (x ∷ xs) sums = rw e (each_is true c e xs sums)
  each_is false c e (x ∷ xs) sums = rw e (each_is false c e xs (add_node S m sums x))

  each_list : (sums : List ℕ) (l : ℕ) → add_each (l % row S) sums (nodes_of S m l) ≡ add_list S m sums l
  unfolding add_list
  each_list sums l = each_is (eqb (l % row S) 0) (l % row S) refl (nodes_of S m l) sums

  here_sums : (c : ℕ) (sums : List ℕ) (x b : ℕ) → Sums S sums b → Sums S (add_here S m c sums x) (b + 255)
  unfolding add_here
  here_sums c sums x b s = go (eqb c 0)
    where
      go : (f : Bool) → Sums S (cond f sums (add_node S m sums x)) (b + 255)
      go true = sums_more S sums b (b + 255) (omega arith) s
      go false = add_sums S m sums x b s

-- ---- the nodes of a list

-- where it is not kept, nothing is said of what is given back
pub not_passed : {S : Settings} {m ms sums ms' sums' : List ℕ} {l : ℕ} → (ListKept S m ms l → ⊥) → ListPassed S m l ms sums ms' sums' false
not_passed n = record {
  answer = record { yes = λ e. absurd (false≢true e); no = λ e. n };
  marks = λ e. absurd (false≢true e);
  added = λ e. absurd (false≢true e);
  held = λ e. absurd (false≢true e);
}

-- the walk of list l stands at node x, behind the node `last`, with `left` nodes to go
pub record Passing (S : Settings) (m ms₀ sums₀ : List ℕ) (l : ℕ) (ms sums : List ℕ) (left x last : ℕ) : Type 0 where
  pub walk : Walking S m ms₀ l ms left x last
  pub low : left ≤ get S m Count l
  pub fit : (rule : NodeRule) → list_found rule S m l ≡ first_bad (node_test rule S m l) (chain S m left x)
  pub add : add_list S m sums₀ l ≡ add_each S m (l % row S) sums (chain S m left x)
  pub held : Sums S sums (count_most * l + 255 * (get S m Count l - left))

module _ {S : Settings} {m ms sums : List ℕ} {l : ℕ} where
  pub pass_start : {left : ℕ} → left ≡ get S m Count l → Walking S m ms l ms left (get S m Head l) (get S m Tail l) → Sums S sums (count_most * l)
      → Passing S m ms sums l ms sums left (get S m Head l) (get S m Tail l)
  unfolding nodes_of
  pass_start e w s =
      rw e (record {
        walk = rw e at w;
        low = omega arith;
        fit = λ rule. refl;
        add = sym (each_list S m sums l);
        held = sums_more S sums (count_most * l) _ (omega arith) s;
      })

module _ {S : Settings} {m ms₀ sums₀ : List ℕ} {l : ℕ} {ms sums : List ℕ} {left x last : ℕ}
    (W : Passing S m ms₀ sums₀ l ms sums left x last) where
  -- no sum is large
  pub pass_held : Sums S sums (count_most * (l + 1))
  pass_held = sums_more S sums _ (count_most * (l + 1)) (omega (arith, get_lt S m Count l)) W.held

  pub pass_lent : Roomy S → l < lists S → Sums S sums (2 ^ 63)
  pass_lent R h = sums_more S sums (count_most * (l + 1)) (2 ^ 63) (omega (arith, few S R)) pass_held

  module _ (some : 0 < left) where
    front : (rule : NodeRule) → list_found rule S m l
        ≡ cond (node_test rule S m l x) (first_bad (node_test rule S m l) (chain S m (left - 1) (get S m Next (slot S x)))) (Some x)
    unfolding first_bad
    front rule = W.fit rule ∙ rw (chain_more S m left x some)

    -- where the node does not pass, nor does the list
    pub pass_not : (is_new S ms x && fits_here S m (l / row S) (l % row S) x) ≡ false → ListKept S m ms₀ l → ⊥
    pass_not e k = go (is_new S ms x) refl
      where
        kept : fits_here S m (l / row S) (l % row S) x ≡ true
        kept = each_fits S m (l / row S) (l % row S) x (λ rule. (passed (node_test rule S m l x) _ x (sym (front rule) ∙ k.fits rule)).0)

        go : (b : Bool) → is_new S ms x ≡ b → ⊥
        go true n = true≢false (sym kept ∙ rw n at e)
        go false n = true≢false (sym k.once ∙ walk_stuck W.walk some n)

    step : (is_new S ms x && fits_here S m (l / row S) (l % row S) x) ≡ true
        → Passing S m ms₀ sums₀ l (mark S ms x) (add_here S m (l % row S) sums x) (left - 1) (get S m Next (slot S x)) x
    unfolding add_each
    step e =
        let fits = fits_each S m (l / row S) (l % row S) x (and_right (is_new S ms x) _ e) in
        record {
          walk = walk_step W.walk (omega arith) (and_left (is_new S ms x) _ e);
          low = omega (arith, W.low);
          fit = λ rule. front rule ∙ rw (fits rule);
          add = W.add ∙ rw (chain_more S m left x some);
          held =
              sums_more S _ (count_most * l + 255 * (get S m Count l - left) + 255) _ (omega (arith, W.low))
              (here_sums S m (l % row S) sums x _ W.held);
        }

    -- where it does, the walk goes on, with what was read and written on the way
    pub pass_step : (is_new S ms x && fits_here S m (l / row S) (l % row S) x) ≡ true → {ms' sums' : List ℕ} {next c rest : ℕ} → c ≡ l % row S
        → ms' ≡ mark S ms x → sums' ≡ add_here S m c sums x → next ≡ get S m Next (slot S x) → left ≡ suc rest
        → Passing S m ms₀ sums₀ l ms' sums' rest next x
    pass_step e {rest = rest} column marks added read count =
        let one : left - 1 ≡ rest = omega arith in
        rw (marks, added, column, read) (rw one at (step e))

  pub pass_end : left ≤ 0
      → (right S m ms₀ l ≡ eqb last (get S m Tail l)) × (ms ≡ mark_all S ms₀ (nodes_of S m l)) × (sums ≡ add_list S m sums₀ l)
      × ((rule : NodeRule) → list_found rule S m l ≡ None)
  unfolding add_each first_bad chain
  pass_end h =
      let e : left ≡ 0 = omega arith in
      let w = walk_end W.walk h in
      (w.0, w.1, sym (W.add ∙ rw e), λ rule. W.fit rule ∙ rw e)
