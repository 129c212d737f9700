-- What is found of a rule is its first item, in the words of the definition; and a rule has one first item. Assumes nothing.
use mathlib.Core.Path.{◌≡◌, refl, sym, ap, subst, ◌∙◌}
use mathlib.Core.Logic.{◌↔◌, ◌⊎◌, inl, inr}
use mathlib.Core.Bool.{Bool, true, false, cond}
use mathlib.Core.List.{List, [], ◌∷◌, ◌++◌, map, map-append}
use Prim.Native.Nat.{ℕ, zero, suc, ◌+◌, ◌-◌, ◌*◌, ◌≤◌, ◌<◌}
use native.Mathlib.Decide.{dec_lt}
use native.Mathlib.Omega.{arith}
use lib.ListN.{length, get_or}
use lib.Dec.{ltb}
use Rattle.numbers.specs.Bytes.{number}
use Rattle.std.specs.Prelude.{Option, None, Some}
use Rattle.ledger.specs.Settings.{Settings, setting_count, in_row, in_rows, first_out, ids, size}
use Rattle.ledger.specs.Ledger.{Packet, place_of}
use Rattle.ledger.specs.Halt.{is_mark}
use Rattle.ledger.specs.Sound.{All, weigh, one, Roomy}
use Rattle.ledger.specs.Audit.{node_at}
use Rattle.ledger.proofs.Tests.{true≢false, ltb_yes, ltb_no, eqb_is}
use Rattle.ledger.proofs.Rows.{rows_out}
use Rattle.layout.specs.declared.Table.TheVariants.{Halted}
use Rattle.layout.specs.Tables.{cells, lists, all, get}
use Rattle.layout.specs.Picture.{settings_in, opens, node_in, ledger_in}
use Rattle.memory.proofs.Chains.{item_node, length_lists, list_at_lem}
use Rattle.memory.proofs.Picture.{opens_means}
use Rattle.parts.proofs.Laws.{mark_is}
use Rattle.ranges.specs.First.{first}
use Rattle.ranges.specs.Opening.{out_at}
use Rattle.ranges.specs.Ranges.{items, fits_at, ranges_found}
use Rattle.ranges.proofs.First.{first_all}
use Rattle.ranges.proofs.FirstItem.{first_wrong, found_or, first_out_lem, last_means, entry_means, slots_mean}
use Rattle.once.specs.Once.{once_found}
use Rattle.once.proofs.FirstItem.{once_first}
use Rattle.fits.specs.declared.NodeRule.{NodeRule}
use Rattle.fits.specs.Fits.{fits_found}
use Rattle.fits.proofs.Means.{NodeHolds}
use Rattle.fits.proofs.FirstItem.{fits_first}
use Rattle.paid.specs.Paid.{sums_of, settled_at, due_found, paid_found}
use Rattle.paid.specs.Passes.{Payable}
use Rattle.paid.proofs.Owing.{cell_means}
use Rattle.halts.specs.Marks.{marks_found}
use Rattle.findings.specs.Findings.{SettingRight, RangeRight, ListRight, CellRight, MarkRight, FirstOf, FirstNode}

-- ---- (a)

-- setting i is the number in bytes 2 * i and 2 * i + 1: whether it is in its row, these tell, and for ports, queues and packets the edition
pub setting_by_its_bytes : (m m' : List ℕ) (i : ℕ) → i < setting_count → number 2 m (2 * i) ≡ number 2 m' (2 * i)
    → ((i < 2) ⊎ (i ≡ 7) → number 2 m 12 ≡ number 2 m' 12) → in_row (settings_in m) i ≡ in_row (settings_in m') i
unfolding settings_in
setting_by_its_bytes m m' zero h e by = rw (e, by (inl (omega arith)))
setting_by_its_bytes m m' (suc zero) h e by = rw (e, by (inl (omega arith)))
setting_by_its_bytes m m' (suc (suc zero)) h e by = rw e
setting_by_its_bytes m m' (suc (suc (suc zero))) h e by = rw e
setting_by_its_bytes m m' (suc (suc (suc (suc zero)))) h e by = rw e
setting_by_its_bytes m m' (suc (suc (suc (suc (suc zero))))) h e by = rw e
setting_by_its_bytes m m' (suc (suc (suc (suc (suc (suc zero)))))) h e by = rw e
setting_by_its_bytes m m' (suc (suc (suc (suc (suc (suc (suc zero))))))) h e by = rw (e, by (inr refl))
setting_by_its_bytes m m' (suc (suc (suc (suc (suc (suc (suc (suc i)))))))) h e by = absurd (omega arith)

size_most : (S : Settings) → 2 * setting_count ≤ size S
unfolding size
size_most S = omega arith

module _ (m : List ℕ) (shut : opens m ≡ false) where
  -- settings that are all in their rows do not have their state in this memory
  too_short : first_out (settings_in m) ≡ setting_count → size (settings_in m) ≤ length m → ⊥
  too_short e h =
      let r : in_rows (settings_in m) ≡ true = rows_out (settings_in m) ∙ eqb_is _ _ e in
      true≢false (sym ((opens_means m).1 (r, h)) ∙ shut)

  pub setting_first : FirstOf (SettingRight m) (1 + setting_count) (out_at m)
  unfolding out_at
  setting_first = go (ltb (length m) (2 * setting_count)) refl
    where
      short : length m < 2 * setting_count → FirstOf (SettingRight m) (1 + setting_count) setting_count
      short h = record {
        inside = omega arith;
        wrong = λ r. omega (arith, r.long refl, size_most (settings_in m));
        before = λ k l. record { is_in_row = λ i there. absurd (omega arith); long = λ e. absurd (omega arith) };
      }

      row_means : 2 * setting_count ≤ length m → (k : ℕ) → k < setting_count → (in_row (settings_in m) k ≡ true) ↔ SettingRight m k
      row_means there k h = (λ t. record { is_in_row = λ i l. t; long = λ e. absurd (omega arith) }, λ r. r.is_in_row h there)

      out : 2 * setting_count ≤ length m → (f : Option ℕ) → first (in_row (settings_in m)) setting_count ≡ f
          → FirstOf (SettingRight m) (1 + setting_count) (found_or setting_count f)
      out there None e = record {
        inside = omega arith;
        wrong = λ r. too_short (first_out_lem (settings_in m) ∙ ap (found_or setting_count) e) (r.long refl);
        before = λ k l. (row_means there k l).0 ((first_all (in_row (settings_in m)) setting_count).0 e k l);
      }
      out there (Some x) e =
          let f = first_wrong (in_row (settings_in m)) (SettingRight m) setting_count (row_means there) x e in
          record { inside = omega (arith, f.0); wrong = f.1; before = f.2 }

      go : (b : Bool) → ltb (length m) (2 * setting_count) ≡ b → FirstOf (SettingRight m) (1 + setting_count) (cond b setting_count (first_out (settings_in m)))
      go true t = short (ltb_yes (length m) (2 * setting_count) t)
      go false t =
          subst (FirstOf (SettingRight m) (1 + setting_count)) (sym (first_out_lem (settings_in m)))
          (out (ltb_no (length m) (2 * setting_count) t) (first (in_row (settings_in m)) setting_count) refl)

module _ (S : Settings) (m : List ℕ) where
  -- ---- (b)

  range_means : 0 < S.queues → (k : ℕ) → k < items S → (fits_at S m k ≡ true) ↔ RangeRight S (ledger_in S m) k
  range_means some k h = (
    λ t. record {
      last_served = λ l. (last_means S m k l).0 t;
      entry = λ d l e. (entry_means S m d l).0 (ap (fits_at S m) (sym e) ∙ t);
      slots = λ j e. (slots_mean S m j some (omega arith)).0 (ap (fits_at S m) (sym e) ∙ t);
    },
    λ r. by r (dec_lt k S.ports) (dec_lt k (S.ports + ids)),
  )
    where
      by : RangeRight S (ledger_in S m) k → Dec (k < S.ports) → Dec (k < S.ports + ids) → fits_at S m k ≡ true
      by r (yes l) d = (last_means S m k l).1 (r.last_served l)
      by r (no n) (yes l) =
          let d : ℕ = k - S.ports in
          let low : d < ids = omega arith in
          let e : k ≡ S.ports + d = omega arith in
          ap (fits_at S m) e ∙ (entry_means S m d low).1 (r.entry d low e)
      by r (no n) (no l) =
          let j : ℕ = k - (S.ports + ids) in
          let e : k ≡ S.ports + ids + j = omega arith in
          ap (fits_at S m) e ∙ (slots_mean S m j some (omega arith)).1 (r.slots j e)

  pub range_first : Roomy S → (i : ℕ) → ranges_found S m ≡ Some i → FirstOf (RangeRight S (ledger_in S m)) (S.ports + ids + S.ports * S.queues) i
  unfolding ranges_found
  range_first R i e =
      let f = first_wrong (fits_at S m) (RangeRight S (ledger_in S m)) (items S) (range_means (omega (arith, R.some_queues))) i e in
      record { inside = omega (arith, f.0); wrong = f.1; before = f.2 }

  -- ---- (c)

  pub list_first : Roomy S → (i : ℕ) → once_found S m ≡ Some i → FirstOf (ListRight S m) (lists S + all S) i
  list_first R i e =
      let f = once_first S m R (ListRight S m)
      (λ l h. (λ r. (r.hangs h, r.once h), λ t. record { hangs = λ k. t.0; once = λ k. t.1; met = λ j n. absurd (omega arith) }))
      (λ j h. (
        λ r. r.met j refl,
        λ t. record {
          hangs = λ k. absurd (omega arith);
          once = λ k. absurd (omega arith);
          met = λ n p. let q : j ≡ n = omega arith in subst (λ (z : ℕ). 1 ≤ weigh (one (node_at S z)) (ledger_in S m).lists) q t;
        },
      ))
      i e in
      record { inside = f.0; wrong = f.1; before = f.2 }

  -- ---- (d), (e) and (f)

  pub node_first : (rule : NodeRule) (i : ℕ) → fits_found rule S m ≡ Some i → FirstNode (λ l k. NodeHolds rule S (place_of S l) k) (ledger_in S m).lists i
  node_first rule i e =
      let b = fits_first rule S m i e in
      record {
        list = b.list;
        front = map (node_in S m b.list) b.front;
        packet = node_in S m b.list i;
        rest = map (node_in S m b.list) b.rest;
        inside = rw (length_lists S m) b.inside;
        here = list_at_lem S m b.list b.inside ∙ ap (map (node_in S m b.list)) b.here ∙ map-append (node_in S m b.list) b.front (i ∷ b.rest);
        named = item_node S m b.list i;
        wrong = b.wrong;
        before = b.before;
        earlier = λ k h. let low : k < lists S = omega (arith, b.inside) in rw (list_at_lem S m k low) (b.earlier k h);
      }

  -- ---- (g)

  pub cell_first : Roomy S → Payable S m → (i : ℕ) → paid_found S m ≡ Some i → FirstOf (CellRight S (ledger_in S m)) (cells S) i
  unfolding due_found
  cell_first R P i e =
      let f = first_wrong (settled_at S m (sums_of S m)) (CellRight S (ledger_in S m)) (cells S) (cell_means S m R P) i e in
      record { inside = f.0; wrong = f.1; before = f.2 }

  -- ---- (i)

  pub mark_first : (i : ℕ) → marks_found S m ≡ Some i → FirstOf (MarkRight (ledger_in S m)) S.ports i
  unfolding marks_found
  mark_first i e =
      let f = first_wrong (λ p. is_mark (get S m Halted p)) (MarkRight (ledger_in S m)) S.ports
      (λ p h. (λ t. ap is_mark (mark_is S m p h) ∙ t, λ t. ap is_mark (sym (mark_is S m p h)) ∙ t)) i e in
      record { inside = f.0; wrong = f.1; before = f.2 }

-- ---- there is one first item

pub first_one : {Right : ℕ → Type 0} {n i j : ℕ} → FirstOf Right n i → FirstOf Right n j → i ≡ j
first_one {Right} {n} {i} {j} f g = go (dec_lt i j) (dec_lt j i)
  where
    go : Dec (i < j) → Dec (j < i) → i ≡ j
    go (yes h) d = absurd (f.wrong (g.before i h))
    go (no h) (yes k) = absurd (g.wrong (f.before j k))
    go (no h) (no k) = omega arith

pub All-middle : (P : Packet → Type 0) (xs : List Packet) (k : Packet) (ys : List Packet) → All P (xs ++ (k ∷ ys)) → P k
All-middle P [] k ys a = a.0
All-middle P (x ∷ xs) k ys a = All-middle P xs k ys a.1

-- the first of a list that is not so
split_one : (P : Packet → Type 0) (xs us : List Packet) (k l : Packet) (ys vs : List Packet) → xs ++ (k ∷ ys) ≡ us ++ (l ∷ vs)
    → All P xs → All P us → (P k → ⊥) → (P l → ⊥) → k ≡ l
split_one P [] [] k l ys vs e a b f g = cc
split_one P [] (u ∷ us) k l ys vs e a b f g = let p : u ≡ k = cc in absurd (f (subst P p b.0))
split_one P (x ∷ xs) [] k l ys vs e a b f g = let p : x ≡ l = cc in absurd (g (subst P p a.0))
split_one P (x ∷ xs) (u ∷ us) k l ys vs e a b f g =
    let p : xs ++ (k ∷ ys) ≡ us ++ (l ∷ vs) = cc in
    split_one P xs us k l ys vs p a.1 b.1 f g

module _ (P : ℕ → Packet → Type 0) (ls : List (List Packet)) where
  -- one does not stand in a list before the other's
  no_earlier : {i j : ℕ} (f : FirstNode P ls i) (g : FirstNode P ls j) → f.list < g.list → ⊥
  no_earlier f g h = f.wrong (All-middle (P f.list) f.front f.packet f.rest (subst (All (P f.list)) f.here (g.earlier f.list h)))

  pub node_one : {i j : ℕ} → FirstNode P ls i → FirstNode P ls j → i ≡ j
  node_one {i} {j} f g = go (dec_lt f.list g.list) (dec_lt g.list f.list)
    where
      same : g.list ≡ f.list → f.packet ≡ g.packet
      same e =
          split_one (P f.list) f.front g.front f.packet g.packet f.rest g.rest
          (sym f.here ∙ ap (λ (l : ℕ). get_or ls l []) (sym e) ∙ g.here)
          f.before (subst (λ (l : ℕ). All (P l) g.front) e g.before) f.wrong (λ h. g.wrong (subst (λ (l : ℕ). P l g.packet) (sym e) h))

      go : Dec (f.list < g.list) → Dec (g.list < f.list) → i ≡ j
      go (yes h) d = absurd (no_earlier f g h)
      go (no h) (yes k) = absurd (no_earlier g f k)
      go (no h) (no k) =
          let e : g.list ≡ f.list = omega arith in
          sym f.named ∙ ap (λ (p : Packet). p.node) (same e) ∙ g.named
