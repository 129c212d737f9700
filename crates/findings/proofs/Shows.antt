-- An item that is not right shows its rule broken: each item is a part of what the rule says. Assumes nothing.
use mathlib.Core.Path.{◌≡◌, refl, sym, ap, subst, ◌∙◌}
use mathlib.Core.Bool.{true}
use mathlib.Core.List.{List, [], ◌∷◌}
use Prim.Native.Nat.{ℕ, zero, suc, ◌+◌, ◌-◌, ◌*◌, ◌/◌, ◌%◌, ◌≤◌, ◌<◌, zero-le}
use native.Mathlib.Nat.{div-lt_iff_lt-mul, mod-lt}
use native.Mathlib.Omega.{arith}
use lib.ListN.{take}
use Rattle.std.specs.Prelude.{Option, None, Some}
use Rattle.ledger.specs.declared.Rule.{Rule}
use Rattle.ledger.specs.declared.Rule.TheVariants.{A, B, C, D, E, F, G, I}
use Rattle.ledger.specs.Settings.{Settings, setting_count, in_row, in_rows, ids}
use Rattle.ledger.specs.Ledger.{Packet, last, mapped, Ledger}
use Rattle.ledger.specs.Ready.{bit}
use Rattle.ledger.specs.Sound.{All, Everywhere, weigh, InRange, one, Once, Roomy}
use Rattle.ledger.specs.Audit.{node_at}
use Rattle.ledger.proofs.Tests.{eqb_yes}
use Rattle.ledger.proofs.Rows.{rows_out, roomy}
use Rattle.layout.specs.Tables.{lists, all}
use Rattle.layout.specs.Picture.{settings_in, opens, ledger_in, Hangs}
use Rattle.memory.proofs.Picture.{opens_means}
use Rattle.ranges.specs.First.{first}
use Rattle.ranges.proofs.First.{first_all}
use Rattle.ranges.proofs.FirstItem.{first_wrong, found_or, first_out_lem}
use Rattle.memory.proofs.Audit.{node_at_lem}
use Rattle.ledger.specs.Letters.{letter#}
use Rattle.findings.specs.Findings.{ledger_of, Holds, FirstItem}
use Rattle.findings.specs.Findings.{SettingRight, RangeRight, ListRight, CellRight, FirstNode, Settled}
use Rattle.findings.proofs.Items.{All-middle}

-- ---- (a)

each_row : (S : Settings) → in_rows S ≡ true → (k : ℕ) → k < setting_count → in_row S k ≡ true
each_row S r = go (first (in_row S) setting_count) refl
  where
    go : (f : Option ℕ) → first (in_row S) setting_count ≡ f → (k : ℕ) → k < setting_count → in_row S k ≡ true
    go None e = (first_all (in_row S) setting_count).0 e
    go (Some x) e =
        let w = first_wrong (in_row S) (λ k. in_row S k ≡ true) setting_count (λ k h. (λ t. t, λ t. t)) x e in
        let n : found_or setting_count (first (in_row S) setting_count) ≡ setting_count = sym (first_out_lem S) ∙ eqb_yes _ _ (sym (rows_out S) ∙ r) in
        let z : x ≡ setting_count = sym (ap (found_or setting_count) e) ∙ n in
        absurd (omega (arith, w.0))

setting_right : (m : List ℕ) → opens m ≡ true → (i : ℕ) → SettingRight m i
setting_right m o i = record {
  is_in_row = λ h there. each_row (settings_in m) ((opens_means m).0 o).0 i h;
  long = λ e. ((opens_means m).0 o).1;
}

-- ---- (b), (c), (d), (e), (f) and (g)

-- the first lists weigh no more than all
weigh_take : (f : ℕ → Packet → ℕ) (k : ℕ) (ls : List (List Packet)) → weigh f (take k ls) ≤ weigh f ls
weigh_take f zero ls = zero-le
weigh_take f (suc k) [] = zero-le
weigh_take f (suc k) (l ∷ ls) = omega (arith, weigh_take (λ i. f (suc i)) k ls)

no_node : {P : ℕ → Packet → Type 0} {ls : List (List Packet)} {i : ℕ} → FirstNode P ls i → Everywhere P ls → ⊥
no_node {P} f e = f.wrong (All-middle (P f.list) f.front f.packet f.rest (subst (All (P f.list)) f.here (e.holds f.list f.inside)))

module _ (S : Settings) (R : Roomy S) where
  range_right : (L : Ledger) → InRange S L → (i : ℕ) → i < S.ports + ids + S.ports * S.queues → RangeRight S L i
  range_right L r i h = record {
    last_served = λ l. r.numbers_in last i l;
    entry = λ d l e. r.numbers_in mapped d l;
    slots = λ j e.
        let some : 0 < S.queues = omega (arith, R.some_queues) in
        let low : j < S.ports * S.queues = omega arith in
        r.slots_in (j / S.queues) (j % S.queues) ((div-lt_iff_lt-mul some).1 low) (mod-lt j some);
  }

  list_right : (m : List ℕ) → ((l : ℕ) → l < lists S → Hangs S m l) → Once S (ledger_in S m).lists → (i : ℕ) → i < lists S + all S → ListRight S m i
  list_right m hangs once i h = record {
    hangs = hangs i;
    once = λ l y. omega (arith, once y, weigh_take (one y) (suc i) (ledger_in S m).lists);
    met = λ j e. let low : j < all S = omega arith in omega (arith, once (node_at S j), ap bit (node_at_lem S R j low).node);
  }

  cell_right : (L : Ledger) → ((p q : ℕ) → p < S.ports → 0 < q → q < S.queues → Settled S L p q) → (i : ℕ) → i < S.ports * (S.queues - 1) → CellRight S L i
  cell_right L paid i h =
      let wide : 0 < S.queues - 1 = omega (arith, R.some_queues) in
      let low : i % (S.queues - 1) < S.queues - 1 = mod-lt i wide in
      paid (i / (S.queues - 1)) (suc (i % (S.queues - 1))) ((div-lt_iff_lt-mul wide).1 h) (omega arith) (omega arith)

-- ---- the first item of a rule shows it broken, where the rules before it hold

-- what (a) gives to the rules after it
pub room : (m : List ℕ) → opens m ≡ true → Roomy (settings_in m)
room m o = roomy (settings_in m) ((opens_means m).0 o).0

pub item_shows : (m : List ℕ) (r : Rule) (i : ℕ) → ((q : Rule) → letter# q < letter# r → Holds q m) → FirstItem r m i → Holds r m → ⊥
item_shows m A i b f h = f.wrong (setting_right m h i)
item_shows m B i b f h = f.wrong (range_right (settings_in m) (room m (b A (omega arith))) (ledger_of m) h i f.inside)
item_shows m C i b f h = f.wrong (list_right (settings_in m) (room m (b A (omega arith))) m h.0 h.1 i f.inside)
item_shows m D i b f h = no_node f h
item_shows m E i b f h = no_node f h
item_shows m F i b f h = no_node f h
item_shows m G i b f h = f.wrong (cell_right (settings_in m) (room m (b A (omega arith))) (ledger_of m) h i f.inside)
item_shows m I i b f h = f.wrong (h i f.inside)
