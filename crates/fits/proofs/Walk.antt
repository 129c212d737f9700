-- The walk: what is left of a list says what the whole says, and what is left of the lists. Assumes nothing.
use mathlib.Core.Path.{◌≡◌, refl, sym, ap}
use mathlib.Core.Bool.{Bool, true, false, cond, ◌||◌}
use mathlib.Core.List.{List, [], ◌∷◌}
use Prim.Native.Nat.{ℕ, suc, ◌+◌, ◌-◌, ◌/◌, ◌%◌, ◌^◌, ◌≤◌, ◌<◌}
use native.Mathlib.Numerals.{add-one}
use native.Mathlib.Omega.{arith}
use lib.Dec.{leb, ltb}
use Rattle.std.specs.Prelude.{Option, None, Some}
use Rattle.ledger.specs.Settings.{Settings, row}
use Rattle.ledger.specs.Header.{form, least_length}
use Rattle.ledger.specs.Ledger.{is_node}
use Rattle.ledger.specs.Sound.{All}
use Rattle.ledger.proofs.Tests.{ltb_yes, and_left, and_right}
use Rattle.layout.specs.declared.Table.TheVariants.{Head, Count, Next}
use Rattle.layout.specs.Tables.{lists, get}
use Rattle.layout.specs.Picture.{slot, chain, nodes_of, packet_at}
use Rattle.memory.specs.Ends.{Tidy}
use Rattle.memory.proofs.Chains.{members, chain_more}
use Rattle.fits.specs.declared.NodeRule.{NodeRule}
use Rattle.fits.specs.declared.Note.{Note}
use Rattle.fits.specs.Fits.{spared, range_test, fields_test, proper_test, rule_test, node_test, first_bad, or_else, list_found, fits_from, fits_found}
use Rattle.fits.specs.Walk.{NoteOf}

-- ---- what is read of a record

-- a length in range is short enough to have a price
pub range_len : (S : Settings) (len queue dest poisoned : ℕ) → range_test S len queue dest poisoned ≡ true → len < 2 ^ 13
unfolding range_test
range_len S len queue dest poisoned e = ltb_yes len (2 ^ 13) (and_left (ltb len (2 ^ 13)) _ (and_right (leb (least_length (form S)) len) _ e))

-- what was read of a record is tested as the packet is
pub note_tests : {S : Settings} {m : List ℕ} {n : Note} (x : ℕ) → NoteOf S m (slot S x) n
    → fields_test S n.len n.queue n.dest n.poisoned n.price ≡ proper_test S (packet_at S m x)
unfolding proper_test packet_at
note_tests x w = rw (w.len_is, w.queue_is, w.dest_is, w.poisoned_is, w.price_is)

-- ---- a list of which the rule says nothing

passed : (t : ℕ → Bool) (xs : List ℕ) → ((x : ℕ) → t x ≡ true) → None ≡ first_bad t xs
unfolding first_bad
passed t [] h = refl
passed t (x ∷ xs) h = rw (h x) (passed t xs h)

pub spared_whole : (rule : NodeRule) (S : Settings) (m : List ℕ) (l : ℕ) {r : ℕ} → r ≡ row S → spared rule (l % r) ≡ true
    → None ≡ list_found rule S m l
spared_whole rule S m l is e = passed (node_test rule S m l) (nodes_of S m l) (λ x. rw (← is, e))

-- ---- a list: n nodes from x on are left

pub record Left (t : ℕ → Bool) (S : Settings) (m : List ℕ) (whole : Option ℕ) (n x : ℕ) : Type 0 where
  pub rest : first_bad t (chain S m n x) ≡ whole
  pub nodes : All (λ y. is_node S y ≡ true) (chain S m n x)

-- at its head, where the rule speaks of the list
pub left_start : (rule : NodeRule) (S : Settings) (m : List ℕ) (l : ℕ) {r n : ℕ} → r ≡ row S → Tidy S m → l < lists S → spared rule (l % r) ≡ false
    → n ≡ get S m Count l → Left (λ y. rule_test rule S (l / r) (l % r) (packet_at S m y)) S m (list_found rule S m l) n (get S m Head l)
unfolding nodes_of
left_start rule S m l is tidy h e count = rw count (record {
  rest =
      rw is (ap (λ (b : Bool). first_bad (λ y. b || rule_test rule S (l / row S) (l % row S) (packet_at S m y)) (nodes_of S m l)) (sym (rw is at e)));
  nodes = members S m tidy l h;
})

module _ {t : ℕ → Bool} {S : Settings} {m : List ℕ} {whole : Option ℕ} {n x : ℕ} (left : Left t S m whole n x) where
  pub left_none : n ≤ 0 → None ≡ whole
  unfolding first_bad chain
  left_none h = let e : n ≡ 0 = omega arith in rw e at left.rest

  module _ (some : 0 < n) where
    pub left_node : is_node S x ≡ true
    left_node = (rw (chain_more S m n x some) at left.nodes).0

    front : cond (t x) (first_bad t (chain S m (n - 1) (get S m Next (slot S x)))) (Some x) ≡ whole
    unfolding first_bad
    front = rw (chain_more S m n x some) at left.rest

    pub left_bad : t x ≡ false → Some x ≡ whole
    left_bad e = rw e at front

    pub left_next : {k : ℕ} → k + 1 ≡ n → t x ≡ true → Left t S m whole k (get S m Next (slot S x))
    left_next {k} h e =
        let one : n - 1 ≡ k = omega arith in
        rw (← one) (record { rest = rw e at front; nodes = (rw (chain_more S m n x some) at left.nodes).1 })

-- ---- the lists

module _ (rule : NodeRule) (S : Settings) (m : List ℕ) where
  pub fits_start : fits_from rule S m 0 (lists S - 0) ≡ fits_found rule S m
  unfolding fits_found
  fits_start = let e : lists S - 0 ≡ lists S = omega arith in rw e

  pub fits_end : (l n : ℕ) → n ≤ 0 → fits_from rule S m l n ≡ None
  unfolding fits_from
  fits_end l n h = let e : n ≡ 0 = omega arith in rw e

  module _ (l : ℕ) (some : l < lists S) where
    front_list : fits_from rule S m l (lists S - l) ≡ or_else (list_found rule S m l) (fits_from rule S m (l + 1) (lists S - (l + 1)))
    unfolding fits_from
    front_list = let e : lists S - l ≡ suc (lists S - (l + 1)) = omega arith in rw (e, add-one)

    pub fits_stop : (x : ℕ) → list_found rule S m l ≡ Some x → fits_from rule S m l (lists S - l) ≡ Some x
    fits_stop x e = rw e at front_list

    pub fits_next : list_found rule S m l ≡ None → fits_from rule S m l (lists S - l) ≡ fits_from rule S m (l + 1) (lists S - (l + 1))
    fits_next e = rw e at front_list
