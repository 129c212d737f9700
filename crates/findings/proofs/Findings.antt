-- What a finding says is so, and no other finding's words are. Assumes nothing.
use mathlib.Core.Path.{◌≡◌, refl, sym, ap, subst, ◌∙◌}
use mathlib.Core.Logic.{◌↔◌}
use mathlib.Core.Bool.{Bool, true, false, cond}
use mathlib.Core.List.{List, [], ◌∷◌}
use Prim.Native.Nat.{ℕ, suc, ◌≤◌, ◌<◌}
use native.Mathlib.Decide.{dec_lt, ℕ_discrete}
use native.Mathlib.Omega.{arith}
use lib.ListN.{get_or}
use Rattle.std.specs.Prelude.{Option, None, Some}
use Rattle.ledger.specs.declared.Broken.{Broken}
use Rattle.ledger.specs.declared.Rule.{Rule}
use Rattle.ledger.specs.declared.Rule.TheVariants.{A, B, C, D, E, F, G, I}
use Rattle.ledger.proofs.Tests.{true≢false}
use Rattle.layout.specs.Picture.{settings_in, opens, State}
use Rattle.memory.proofs.Picture.{opens_means}
use Rattle.ranges.specs.Opening.{out_at}
use Rattle.ranges.specs.Ranges.{ranges_found}
use Rattle.ranges.proofs.Items.{ranges_means}
use Rattle.once.specs.Once.{once_found}
use Rattle.once.proofs.Means.{found_whole}
use Rattle.fits.specs.declared.NodeRule.TheVariants.{OwnPort, OwnQueue, Record}
use Rattle.fits.specs.Fits.{fits_found}
use Rattle.fits.proofs.Means.{fits_means}
use Rattle.paid.specs.Paid.{paid_found}
use Rattle.paid.specs.Passes.{Payable}
use Rattle.paid.proofs.Owing.{paid_means}
use Rattle.halts.specs.Marks.{marks_found}
use Rattle.halts.proofs.Laws.{marks_mean}
use Rattle.sound.specs.Sound.{breaks, or_next, marks_broken, nodes_broken, open_broken, broken_in}
use Rattle.sound.proofs.Means.{shaped}
use Rattle.ledger.specs.Letters.{letter#}
use Rattle.findings.specs.Findings.{Holds, FirstItem, Finds, Means}
use Rattle.findings.proofs.Items.{setting_first, range_first, list_first, node_first, cell_first, mark_first, first_one, node_one}
use Rattle.findings.proofs.Shows.{room, item_shows}

-- ---- letters and their numbers

letter_at : ℕ → Rule
letter_at n = get_or (A ∷ A ∷ B ∷ C ∷ D ∷ E ∷ F ∷ G ∷ A ∷ I ∷ []) n A

pub record Numbered (r : Rule) : Type 0 where
  pub low : 1 ≤ letter# r
  high : letter# r ≤ 9
  back : letter_at (letter# r) ≡ r

pub numbered : (r : Rule) → Numbered r
unfolding letter_at
numbered A = record { low = omega arith; high = omega arith; back = refl }
numbered B = record { low = omega arith; high = omega arith; back = refl }
numbered C = record { low = omega arith; high = omega arith; back = refl }
numbered D = record { low = omega arith; high = omega arith; back = refl }
numbered E = record { low = omega arith; high = omega arith; back = refl }
numbered F = record { low = omega arith; high = omega arith; back = refl }
numbered G = record { low = omega arith; high = omega arith; back = refl }
numbered I = record { low = omega arith; high = omega arith; back = refl }

pub letter_one : (q r : Rule) → letter# q ≡ letter# r → q ≡ r
letter_one q r e = sym (numbered q).back ∙ ap letter_at e ∙ (numbered r).back

module _ (m : List ℕ) where
  -- ---- the rules up to one

  abbrev Before : ℕ → Type 0
  Before n = (q : Rule) → letter# q < n → Holds q m

  none_before : Before 1
  none_before q h = absurd (omega (arith, (numbered q).low))

  is_one_more : (r : Rule) → Before (letter# r) → Holds r m → Before (suc (letter# r))
  is_one_more r b h q l = go (ℕ_discrete (letter# q) (letter# r))
    where
      go : Dec (letter# q ≡ letter# r) → Holds q m
      go (yes e) = subst (λ (s : Rule). Holds s m) (sym (letter_one q r e)) h
      go (no n) = b q (omega arith)

  -- ---- a switch state is a memory of which every rule holds

  holds_state : ((r : Rule) → Holds r m) → State m
  holds_state h = record {
    long = ((opens_means m).0 (h A)).1;
    hangs = (h C).0;
    sound = record {
      rows = ((opens_means m).0 (h A)).0;
      orderly = record {
        shaped = shaped (settings_in m) m;
        ranges = h B;
        once = (h C).1;
        owned = h D;
        queued = h E;
        proper = h F;
        paid = h G;
      };
      marked = h I;
    };
  }

  state_holds : State m → (r : Rule) → Holds r m
  state_holds s A = (opens_means m).1 (s.sound.rows, s.long)
  state_holds s B = s.sound.orderly.ranges
  state_holds s C = (s.hangs, s.sound.orderly.once)
  state_holds s D = s.sound.orderly.owned
  state_holds s E = s.sound.orderly.queued
  state_holds s F = s.sound.orderly.proper
  state_holds s G = s.sound.orderly.paid
  state_holds s I = s.sound.marked

  pub all_hold : ((r : Rule) → Holds r m) ↔ State m
  all_hold = (holds_state, state_holds)

  -- ---- the first rule that is broken

  -- a rule is broken where something is found, and the next are asked where nothing is
  ask : (r : Rule) (f : Option ℕ) (next : Option Broken) → Before (letter# r) → (f ≡ None → Holds r m) → ((i : ℕ) → f ≡ Some i → FirstItem r m i)
      → (Before (suc (letter# r)) → Means next m) → Means (or_next f r next) m
  ask r None next b means item rest = rest (is_one_more r b (means refl))
  ask r (Some i) next b means item rest = record { before = b; broken = item_shows m r i b (item i refl); first = item i refl }

  -- (h) is not asked yet
  none_between : (q : Rule) → letter# q < 9 → letter# q < 8
  none_between A l = omega arith
  none_between B l = omega arith
  none_between C l = omega arith
  none_between D l = omega arith
  none_between E l = omega arith
  none_between F l = omega arith
  none_between G l = omega arith
  none_between I l = absurd (omega arith)

  module _ (o : opens m ≡ true) where
    payable : Before 7 → Payable (settings_in m) m
    payable b =
        let c = b C (omega arith) in
        record {
          tidy = record { long = ((opens_means m).0 o).1; hangs = c.0; once = λ y. omega (arith, c.1 y) };
          proper = b F (omega arith);
        }

    from_i : Before 9 → Means (marks_broken (settings_in m) m) m
    from_i b =
        let S = settings_in m in
        ask I (marks_found S m) None b (marks_mean S m).0 (mark_first S m) (λ h. holds_state (λ q. h q (omega (arith, (numbered q).high))))

    from_g : Before 7 → Means (or_next (paid_found (settings_in m) m) G (marks_broken (settings_in m) m)) m
    from_g b =
        let S = settings_in m in
        ask G (paid_found S m) _ b (paid_means S m (room m o) (payable b)).0 (cell_first S m (room m o) (payable b))
        (λ h. from_i (λ q l. h q (none_between q l)))

    from_d : Before 4 → Means (nodes_broken (settings_in m) m) m
    unfolding nodes_broken
    from_d b =
        let S = settings_in m in
        ask D (fits_found OwnPort S m) _ b (fits_means OwnPort S m).0 (node_first S m OwnPort)
        (λ b. ask E (fits_found OwnQueue S m) _ b (fits_means OwnQueue S m).0 (node_first S m OwnQueue)
        (λ b. ask F (fits_found Record S m) _ b (fits_means Record S m).0 (node_first S m Record) from_g))

    from_b : Before 2 → Means (open_broken (settings_in m) m) m
    unfolding open_broken
    from_b b =
        let S = settings_in m in
        ask B (ranges_found S m) _ b (ranges_means S m (room m o)).0 (range_first S m (room m o))
        (λ b. ask C (once_found S m) _ b (found_whole S m) (list_first S m (room m o)) from_d)

  -- ---- what is found means what the definition says

  -- (a) is found where the memory does not open
  a_first : opens m ≡ false → Finds A (out_at m) m
  a_first e = record { before = none_before; broken = λ h. true≢false (sym h ∙ e); first = setting_first m e }

  pub finding_means : Means (broken_in m) m
  unfolding broken_in
  finding_means = go (opens m) refl
    where
      go : (b : Bool) → opens m ≡ b → Means (cond b (open_broken (settings_in m) m) (Some (breaks A (out_at m)))) m
      go true e = from_b e (is_one_more A none_before e)
      go false e = a_first e

  -- ---- and the words leave no choice

  item_one : (r : Rule) (i j : ℕ) → FirstItem r m i → FirstItem r m j → i ≡ j
  item_one A i j f g = first_one f g
  item_one B i j f g = first_one f g
  item_one C i j f g = first_one f g
  item_one D i j f g = node_one _ _ f g
  item_one E i j f g = node_one _ _ f g
  item_one F i j f g = node_one _ _ f g
  item_one G i j f g = first_one f g
  item_one I i j f g = first_one f g

  one_letter : (q r : Rule) (i j : ℕ) → Finds q i m → Finds r j m → q ≡ r
  one_letter q r i j f g = go (dec_lt (letter# q) (letter# r)) (dec_lt (letter# r) (letter# q))
    where
      go : Dec (letter# q < letter# r) → Dec (letter# r < letter# q) → q ≡ r
      go (yes h) d = absurd (f.broken (g.before q h))
      go (no h) (yes k) = absurd (g.broken (f.before r k))
      go (no h) (no k) = letter_one q r (omega arith)

  pub means_one : (b c : Option Broken) → Means b m → Means c m → b ≡ c
  means_one None None v w = refl
  means_one None (Some c) v w = absurd (w.broken (state_holds v c.rule))
  means_one (Some b) None v w = absurd (v.broken (state_holds w b.rule))
  means_one (Some b) (Some c) v w =
      let p : b.rule ≡ c.rule = one_letter b.rule c.rule b.item c.item v w in
      let q : b.item ≡ c.item = item_one b.rule b.item c.item v.first (subst (λ (r : Rule). FirstItem r m c.item) (sym p) w.first) in
      λ k. Some (breaks (p k) (q k))

  pub finding_only : (b : Option Broken) → Means b m → b ≡ broken_in m
  finding_only b w = means_one b (broken_in m) w finding_means

  pub finding_a : opens m ≡ false → broken_in m ≡ Some (breaks A (out_at m))
  finding_a e = sym (finding_only (Some (breaks A (out_at m))) (a_first e))

  pub finding_none : (broken_in m ≡ None) ↔ State m
  finding_none = (λ e. subst (λ (b : Option Broken). Means b m) e finding_means, λ s. sym (finding_only None s))
