-- What a repair leaves: a switch state of the settings that the memory had, with the starting ledger but for the map; that it refuses
-- exactly where rule (a) is broken; what it does not touch; and that a second repair changes nothing. Assumes nothing.
use mathlib.Core.Path.{◌≡◌, refl, sym, ap, ap₂, ◌∙◌, subst}
use mathlib.Core.Logic.{◌≢◌}
use mathlib.Core.Bool.{Bool, true, false, ◌&&◌}
use mathlib.Core.List.{List, ◌∷◌, ◌++◌, map}
use Prim.Native.Nat.{ℕ, zero, suc, ◌^◌, ◌≤◌, ◌<◌}
use native.Mathlib.Decide.{ℕ_discrete}
use native.Mathlib.Omega.{arith}
use lib.ListN.{length, drop}
use lib.Dec.{leb}
use Rattle.ledger.specs.Settings.{Settings, in_rows, size, ids}
use Rattle.ledger.specs.Ledger.{Column, column#, mapped, tall, change, Ledger}
use Rattle.ledger.specs.Sound.{Roomy}
use Rattle.ledger.specs.Calls.{Reply, refused, done}
use Rattle.ledger.specs.Desk.{has}
use Rattle.ledger.specs.Repair.{mended, restart, Restarted}
use Rattle.ledger.proofs.Tests.{is_false}
use Rattle.ledger.proofs.Columns.{column_inj, change_other}
use Rattle.ledger.proofs.Rows.{roomy}
use Rattle.ledger.proofs.Repair.{mended_le, mended_twice, restarted, restart_map, restart_sound}
use Rattle.layout.specs.declared.Table.{Table}
use Rattle.layout.specs.declared.Table.TheVariants.{Mapped}
use Rattle.layout.specs.Tables.{width, get, put, table_of}
use Rattle.layout.specs.Picture.{settings_in, opens, tabulate, ledger_in, StateOf, State}
use Rattle.layout.proofs.Tables.{get_lt}
use Rattle.memory.specs.Ends.{Tidy}
use Rattle.memory.specs.Image.{fill, image, setup_mem}
use Rattle.memory.specs.Memory.{picture}
use Rattle.memory.specs.Repair.{repair_mem, repaired, Unmoved}
use Rattle.memory.proofs.Chains.{table_ext, length_tabulate, state_tidy}
use Rattle.memory.proofs.Paint.{Kept, kept_then, column_kept, column_paint}
use Rattle.memory.proofs.Fill.{fill_get}
use Rattle.memory.proofs.Picture.{picture_is, opens_means}
use Rattle.memory.proofs.Image.{setup_past, setup_length, setup_settings, setup_ledger, setup_state}

-- ---- a column written anew, from its first number on

change_lists : (c : Column) (f : List ℕ → List ℕ) (L : Ledger) → (change c f L).lists ≡ L.lists
unfolding change
change_lists c f L = refl

-- what else is there is as it was
record Rewritten (S : Settings) (c : Column) (m m' : List ℕ) : Type 0 where
  kept : Kept S m m'
  same_lists : (ledger_in S m').lists ≡ (ledger_in S m).lists
  others : (d : Column) → c ≢ d → (ledger_in S m').numbers d ≡ (ledger_in S m).numbers d

module _ (S : Settings) (ok : Roomy S) (c : Column) (f : ℕ → ℕ) (small : (i : ℕ) → f i < 256 ^ width (table_of c)) (m : List ℕ) (t : Tidy S m) where
  rewrite_column : (n : ℕ) → n ≤ tall S c → Rewritten S c m (fill S (table_of c) (λ i. i) f n m)
  unfolding fill
  rewrite_column zero h = record {
    kept = record { settings = refl; same_length = refl; past = refl; tidy = t };
    same_lists = refl;
    others = λ d n. refl;
  }
  rewrite_column (suc n) h =
      let w = rewrite_column n (omega arith) in
      let x : List ℕ = fill S (table_of c) (λ i. i) f n m in
      let shown = column_paint S ok x w.kept.tidy c n (f n) h (small n) in
      record {
        kept = kept_then S m x _ w.kept (column_kept S ok x w.kept.tidy c n (f n) h);
        same_lists = ap (λ (L : Ledger). L.lists) shown ∙ change_lists c _ (ledger_in S x) ∙ w.same_lists;
        others = λ d k. ap (λ (L : Ledger). L.numbers d) shown ∙ change_other c _ (ledger_in S x) d k ∙ w.others d k;
      }

-- a fill goes by its values at the places that it fills
pub fill_ext : (S : Settings) (t : Table) (g f f' : ℕ → ℕ) (n : ℕ) (m : List ℕ) → ((i : ℕ) → i < n → f i ≡ f' i)
    → fill S t g f n m ≡ fill S t g f' n m
unfolding fill
fill_ext S t g f f' zero m same = refl
fill_ext S t g f f' (suc n) m same =
    ap₂ (λ (v : ℕ) (x : List ℕ). put S t (g n) v x) (same n (omega arith)) (fill_ext S t g f f' n m (λ i h. same i (omega arith)))

map_tabulate : (g f : ℕ → ℕ) (a n : ℕ) → map g (tabulate f a n) ≡ tabulate (λ i. g (f i)) a n
map_tabulate g f a zero = refl
map_tabulate g f a (suc n) = ap (λ (xs : List ℕ). g (f a) ∷ xs) (map_tabulate g f (suc a) n)

-- ---- of settings that are in their rows

module _ (S : Settings) (h : in_rows S ≡ true) (m : List ℕ) where
  abbrev entry : ℕ → ℕ
  entry i = mended S (get S m Mapped i)

  entry_small : (i : ℕ) → entry i < 256
  entry_small i = omega (arith, mended_le S (get S m Mapped i), get_lt S m Mapped i)

  abbrev old : List ℕ
  old = (ledger_in S m).numbers mapped

  repair_rewrites : Rewritten S mapped (setup_mem S m) (repair_mem S m)
  unfolding repair_mem
  repair_rewrites = rewrite_column S (roomy S h) mapped entry entry_small (setup_mem S m) (state_tidy S (setup_mem S m) (setup_state S h m)) ids (omega arith)

  repair_settings : settings_in (repair_mem S m) ≡ S
  repair_settings = repair_rewrites.kept.settings ∙ setup_settings S (roomy S h) m

  -- bytes from the size on are as they were
  repair_drop : drop (size S) (repair_mem S m) ≡ drop (size S) m
  repair_drop = repair_rewrites.kept.past ∙ setup_past S m

  repair_long : size S ≤ length m → length (repair_mem S m) ≡ length m
  repair_long long = repair_rewrites.kept.same_length ∙ setup_length S m long

  repair_entry : (i : ℕ) → i < ids → get S (repair_mem S m) Mapped i ≡ entry i
  unfolding repair_mem
  repair_entry i k =
      fill_get S Mapped (λ i. i) entry ids (setup_mem S m) i (record { in_table = λ i h. h; apart = λ i j h k e. e; small = λ i h. entry_small i })
      (setup_state S h m).long k

  old_long : length old ≡ ids
  unfolding ledger_in
  old_long = length_tabulate (get S m Mapped) 0 ids

  new_map : (ledger_in S (repair_mem S m)).numbers mapped ≡ map (mended S) old
  unfolding ledger_in
  new_map =
      table_ext (get S (repair_mem S m) Mapped) entry ids repair_entry ∙ sym (map_tabulate (mended S) (get S m Mapped) 0 ids)

  repair_ledger : ledger_in S (repair_mem S m) ≡ restart S old
  repair_ledger = λ k. record { lists = same_lists k; numbers = λ c. number c (ℕ_discrete (column# c) (column# mapped)) k }
    where
      words : Restarted S old (restart S old)
      words = restarted S old

      same_lists : (ledger_in S (repair_mem S m)).lists ≡ (restart S old).lists
      same_lists = repair_rewrites.same_lists ∙ ap (λ (L : Ledger). L.lists) (setup_ledger S (roomy S h) m) ∙ sym words.same_lists

      number : (c : Column) → Dec (column# c ≡ column# mapped) → (ledger_in S (repair_mem S m)).numbers c ≡ (restart S old).numbers c
      number c (yes e) =
          subst (λ (d : Column). (ledger_in S (repair_mem S m)).numbers d ≡ (restart S old).numbers d) (sym (column_inj c mapped e))
          (new_map ∙ sym (restart_map S old))
      number c (no n) =
          repair_rewrites.others c (λ e. n (ap column# (sym e)))
          ∙ ap (λ (L : Ledger). L.numbers c) (setup_ledger S (roomy S h) m)
          ∙ sym (words.same_numbers c (λ e. n (ap column# e)))

  repair_state : StateOf S (repair_mem S m)
  repair_state = record {
    long = repair_rewrites.kept.tidy.long;
    hangs = repair_rewrites.kept.tidy.hangs;
    sound = rw repair_ledger (restart_sound S old old_long h);
  }

  repair_shows : picture (repair_mem S m) ≡ has S (restart S old)
  repair_shows = picture_is S (repair_mem S m) (restart S old) repair_settings repair_state repair_ledger

  -- what a repair left is repaired already
  repair_again : repair_mem S (repair_mem S m) ≡ repair_mem S m
  unfolding repair_mem
  repair_again =
      fill_ext S Mapped (λ i. i) (λ i. mended S (get S (repair_mem S m) Mapped i)) entry ids (setup_mem S (repair_mem S m))
      (λ i k. ap (mended S) (repair_entry i k) ∙ mended_twice S (omega (arith, (roomy S h).some_ports)) (get S m Mapped i))
      ∙ ap (fill S Mapped (λ i. i) entry ids) (unfold setup_mem in (ap (λ (xs : List ℕ). image S ++ xs) repair_drop))

-- ---- of any memory

module _ (m : List ℕ) where
  abbrev S : Settings
  S = settings_in m

  pub repair_refused : opens m ≡ false → repaired m ≡ (refused 3, m)
  unfolding repaired
  repair_refused e = rw e

  pub repair_done : opens m ≡ true → repaired m ≡ (done, repair_mem S m)
  unfolding repaired
  repair_done e = rw e

  -- it is refused exactly where rule (a) is broken
  pub repair_refused_only : (repaired m).0 ≡ refused 3 → opens m ≡ false
  repair_refused_only r = is_false (opens m) (λ e. let d = repair_done e in let z : ◌≡◌ {A = ℕ} 0 1 = cc in omega arith)

  module _ (e : opens m ≡ true) where
    rows : in_rows S ≡ true
    rows = ((opens_means m).0 e).0

    long : size S ≤ length m
    long = ((opens_means m).0 e).1

    pub repair_picture : picture (repaired m).1 ≡ has S (restart S ((ledger_in S m).numbers mapped))
    repair_picture = rw (repair_done e) (repair_shows S rows m)

    pub repair_is_state : State (repaired m).1
    repair_is_state = rw (repair_done e) (subst (λ (T : Settings). StateOf T (repair_mem S m)) (sym (repair_settings S rows m)) (repair_state S rows m))

    -- and that ledger in words
    pub repair_restarts : Restarted S ((ledger_in S m).numbers mapped) (ledger_in S (repaired m).1)
    repair_restarts = rw (repair_done e, repair_ledger S rows m) (restarted S ((ledger_in S m).numbers mapped))

by_opening : (m : List ℕ) (P : Reply × List ℕ → Type 0) → (opens m ≡ true → P (done, repair_mem (settings_in m) m))
    → (opens m ≡ false → P (refused 3, m)) → P (repaired m)
by_opening m P fine wrong = go (opens m) refl
  where
    go : (b : Bool) → opens m ≡ b → P (repaired m)
    go true e = rw (repair_done m e) (fine e)
    go false e = rw (repair_refused m e) (wrong e)

pub repair_unmoved : (m : List ℕ) → Unmoved m (repaired m).1
repair_unmoved m =
    by_opening m (λ out. Unmoved m out.1)
    (λ e.
    let S = settings_in m in
    record {
      settings = repair_settings S (rows m e) m;
      same_length = repair_long S (rows m e) m (long m e);
      past = repair_drop S (rows m e) m;
    })
    (λ e. record { settings = refl; same_length = refl; past = refl })

-- a second repair changes nothing, and answers the same
pub repair_twice : (m : List ℕ) → repaired (repaired m).1 ≡ repaired m
repair_twice m = by_opening m (λ out. repaired out.1 ≡ out) again (repair_refused m)
  where
    again : opens m ≡ true → repaired (repair_mem (settings_in m) m) ≡ (done, repair_mem (settings_in m) m)
    again e =
        let S = settings_in m in
        let n : List ℕ = repair_mem S m in
        let same = repair_settings S (rows m e) m in
        let opens_again : opens n ≡ true =
        ap₂ (λ (T : Settings) (k : ℕ). in_rows T && leb (size T) k) same (repair_long S (rows m e) m (long m e)) ∙ e in
        repair_done n opens_again
        ∙ ap (λ (x : List ℕ). (done, x)) (ap (λ (T : Settings). repair_mem T n) same ∙ repair_again S (rows m e) m)
