-- The ledger that a repair leaves: what each of its numbers is, and that it is sound. Assumes nothing.
use mathlib.Core.Path.{◌≡◌, refl, sym, ap, ◌∙◌}
use mathlib.Core.Logic.{◌≢◌}
use mathlib.Core.Bool.{true}
use mathlib.Core.List.{List, map}
use Prim.Native.Nat.{ℕ, ◌≤◌, ◌<◌}
use native.Mathlib.Decide.{dec_lt}
use native.Mathlib.Omega.{arith}
use lib.ListN.{length, get_or, length-map, get_or-map}
use Rattle.ledger.specs.Settings.{Settings, in_rows, ids}
use Rattle.ledger.specs.Ledger.{mapped, halted, map_of, change, start}
use Rattle.ledger.specs.Sound.{Orderly, Sound, Roomy}
use Rattle.ledger.specs.Repair.{mended, restart, Restarted}
use Rattle.ledger.proofs.Tests.{ltb_is, ltb_not}
use Rattle.ledger.proofs.Rows.{roomy}
use Rattle.ledger.proofs.Columns.{change_here, change_other}
use Rattle.ledger.proofs.Keep.{keep_changed}
use Rattle.ledger.proofs.Start.{start_orderly, start_marked}

-- ---- an entry

module _ (S : Settings) where
  pub mended_port : (p : ℕ) → p < S.ports → mended S p ≡ p
  mended_port p h = rw (ltb_is p S.ports h)

  pub mended_none : (p : ℕ) → S.ports ≤ p → mended S p ≡ 0
  mended_none p h = rw (ltb_not p S.ports h)

  -- no entry grows
  pub mended_le : (p : ℕ) → mended S p ≤ p
  mended_le p = go (dec_lt p S.ports)
    where
      go : Dec (p < S.ports) → mended S p ≤ p
      go (yes h) = omega (arith, mended_port p h)
      go (no h) = omega (arith, mended_none p (omega arith))

  pub mended_in : 1 ≤ S.ports → (p : ℕ) → mended S p < S.ports
  mended_in some p = go (dec_lt p S.ports)
    where
      go : Dec (p < S.ports) → mended S p < S.ports
      go (yes h) = omega (arith, mended_port p h)
      go (no h) = omega (arith, mended_none p (omega arith))

  pub mended_twice : 1 ≤ S.ports → (p : ℕ) → mended S (mended S p) ≡ mended S p
  mended_twice some p = mended_port (mended S p) (mended_in some p)

-- ---- all of them

module _ (S : Settings) (ports : List ℕ) where
  entry_is : (d : ℕ) → get_or (map (mended S) ports) d 0 ≡ mended S (get_or ports d 0)
  entry_is d =
      let none : mended S 0 ≡ 0 = omega (arith, mended_le S 0) in
      ap (get_or (map (mended S) ports) d) (sym none) ∙ get_or-map (mended S) ports d 0

  pub restart_map : (restart S ports).numbers mapped ≡ map (mended S) ports
  unfolding restart
  restart_map = change_here mapped (λ xs. map (mended S) ports) (start S)

  map_is : (d : ℕ) → map_of (restart S ports) d ≡ mended S (get_or ports d 0)
  map_is d = rw restart_map (entry_is d)

  pub restarted : Restarted S ports (restart S ports)
  unfolding restart
  restarted = record {
    same_lists = unfold change in refl;
    same_numbers = λ c n. change_other mapped (λ xs. map (mended S) ports) (start S) c (λ e. n (sym e));
    kept = λ d k. map_is d ∙ mended_port S (get_or ports d 0) k;
    cleared = λ d k. map_is d ∙ mended_none S (get_or ports d 0) k;
  }

  module _ (long : length ports ≡ ids) where
    restart_orderly : Roomy S → Orderly S (restart S ports)
    unfolding restart
    restart_orderly r =
        let o = start_orderly S r in
        keep_changed S r (start S) o mapped (λ e. let z : ◌≡◌ {A = ℕ} 0 1 = cc in omega arith) (λ xs. map (mended S) ports)
        (length-map ports (mended S) ∙ long ∙ sym (o.shaped.numbers_long mapped))
        (λ d h. rw (entry_is d) (mended_in S (omega (arith, r.some_ports)) (get_or ports d 0)))

    pub restart_sound : in_rows S ≡ true → Sound S (restart S ports)
    restart_sound e = record {
      rows = e;
      orderly = restart_orderly (roomy S e);
      marked = λ p h. unfold restart in (rw (change_other mapped (λ xs. map (mended S) ports) (start S) halted apart) (start_marked S p h));
    }
      where
        apart : mapped ≢ halted
        apart e = let z : ◌≡◌ {A = ℕ} 0 1 = cc in omega arith
