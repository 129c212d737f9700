-- Every rule finds nothing exactly where the memory is a switch state, and the test says so. Assumes nothing.
use mathlib.Core.Path.{◌≡◌, refl, ap, subst}
use mathlib.Core.List.{List}
use Prim.Native.Nat.{ℕ}
use native.Mathlib.Omega.{arith}
use Rattle.std.specs.Prelude.{None, Some, Result, Ok, Err}
use Rattle.ledger.specs.declared.Rule.TheVariants.{B, G}
use Rattle.ledger.specs.declared.Refusal.{Refusal}
use Rattle.ledger.specs.declared.Refusal.TheVariants.{NoState}
use Rattle.ledger.specs.Settings.{Settings}
use Rattle.ledger.specs.Sound.{Shaped}
use Rattle.ledger.proofs.Rows.{roomy}
use Rattle.layout.specs.declared.shape.Shape.{Shape}
use Rattle.layout.specs.Tables.{get, table_of}
use Rattle.layout.specs.Shapes.{settings_of}
use Rattle.layout.specs.Picture as picture
use Rattle.layout.specs.Picture.{settings_in, ledger_in, StateOf}
use Rattle.memory.specs.Ends.{Tidy}
use Rattle.memory.specs.Memory.{state_dec}
use Rattle.memory.specs.Judged.{Works}
use Rattle.memory.proofs.Chains.{length_tabulate, length_lists, state_tidy}
use Rattle.ranges.specs.Opening.{opened, Open}
use Rattle.ranges.specs.Ranges.{ranges_found}
use Rattle.ranges.proofs.Opening.{shape_same, opened_is, opened_fine}
use Rattle.ranges.proofs.Items.{ranges_means}
use Rattle.once.specs.Once.{once_found}
use Rattle.once.proofs.Means.{found_whole, found_tidy, whole_found}
use Rattle.fits.specs.declared.NodeRule.{NodeRule}
use Rattle.fits.specs.declared.NodeRule.TheVariants.{OwnPort, OwnQueue, Record}
use Rattle.fits.specs.Fits.{fits_found}
use Rattle.fits.proofs.Means.{fits_means}
use Rattle.paid.specs.Paid.{paid_found}
use Rattle.paid.proofs.Owing.{paid_means}
use Rattle.whole.specs.Whole.{Listed}
use Rattle.halts.proofs.Laws.{marks_mean}
use Rattle.sound.specs.Sound.{breaks, Clean, marks_broken, nodes_broken, open_broken, tested_by, tested_in}
use Rattle.ledger.specs.Ledger.{tall}

-- ---- what the rules say together

pub shaped : (S : Settings) (m : List ℕ) → Shaped S (ledger_in S m)
unfolding ledger_in
shaped S m = record {
  lists_long = length_lists S m;
  numbers_long = λ c. length_tabulate (get S m (table_of c)) 0 (tall S c);
}

-- the three rules that are asked of nodes
pub by_rule : (S : Settings) (m : List ℕ) → fits_found OwnPort S m ≡ None → fits_found OwnQueue S m ≡ None → fits_found Record S m ≡ None
    → (rule : NodeRule) → fits_found rule S m ≡ None
by_rule S m d e f OwnPort = d
by_rule S m d e f OwnQueue = e
by_rule S m d e f Record = f

module _ (S : Settings) (m : List ℕ) where
  -- the rules before (i) are kept
  pub marks_left : ranges_found S m ≡ None → Listed S m → paid_found S m ≡ None → open_broken S m ≡ marks_broken S m
  unfolding open_broken nodes_broken
  marks_left b k e = rw (b, k.once, k.fits OwnPort, k.fits OwnQueue, k.fits Record, e)

  -- (g) alone is broken
  pub due_broken : (c : ℕ) → ranges_found S m ≡ None → Listed S m → paid_found S m ≡ Some c → open_broken S m ≡ Some (breaks G c)
  unfolding open_broken nodes_broken
  due_broken c b k e = rw (b, k.once, k.fits OwnPort, k.fits OwnQueue, k.fits Record, e)

  -- (b) is broken
  pub range_broken : (i : ℕ) → ranges_found S m ≡ Some i → open_broken S m ≡ Some (breaks B i)
  unfolding open_broken
  range_broken i e = rw e

module _ (m : List ℕ) (s : Shape) where
  module _ (o : Open m s) where
    pub passed_once : once_found (settings_of s) m ≡ None → Tidy (settings_of s) m
    passed_once e = found_tidy (settings_of s) m (rw o.settings_are o.long) e

    clean_state : Clean (settings_of s) m → StateOf (settings_of s) m
    clean_state k =
        let S : Settings = settings_of s in
        let w = found_whole S m k.once in
        let proper = (fits_means Record S m).0 (k.fits Record) in
        let tidy = passed_once k.once in
        record {
          long = tidy.long;
          hangs = w.0;
          sound = record {
            rows = rw o.settings_are o.rows;
            orderly = record {
              shaped = shaped S m;
              ranges = (ranges_means S m s.laid.roomy).0 k.ranges;
              once = w.1;
              owned = (fits_means OwnPort S m).0 (k.fits OwnPort);
              queued = (fits_means OwnQueue S m).0 (k.fits OwnQueue);
              proper = proper;
              paid = (paid_means S m s.laid.roomy (record { tidy = tidy; proper = proper })).0 k.paid;
            };
            marked = (marks_mean S m).0 k.marked;
          };
        }

state_clean : (S : Settings) (m : List ℕ) → StateOf S m → Clean S m
state_clean S m t =
    let R = roomy S t.sound.rows in
    let o = t.sound.orderly in
    record {
      ranges = (ranges_means S m R).1 o.ranges;
      once = whole_found S m R (t.hangs, o.once);
      fits = by_rule S m ((fits_means OwnPort S m).1 o.owned) ((fits_means OwnQueue S m).1 o.queued) ((fits_means Record S m).1 o.proper);
      paid = (paid_means S m R (record { tidy = state_tidy S m t; proper = o.proper })).1 o.paid;
      marked = (marks_mean S m).1 t.sound.marked;
    }

-- ---- what is told of a memory

ok_same : {s r : Shape} → ◌≡◌ {A = Result Shape Refusal} (Ok s) (Ok r) → s ≡ r
ok_same e = cc

module _ (m : List ℕ) where
  works_state : (s : Shape) → Works s m → picture.State m
  works_state s w = subst (λ (S : Settings). StateOf S m) w.settings_are w.state

  tested_is : (s : Shape) → Works s m → Ok s ≡ tested_in m
  unfolding tested_in
  tested_is s w = go (state_dec m)
    where
      go : (d : Dec (picture.State m)) → Ok s ≡ tested_by m d
      go (yes t) = ap Ok (shape_same s _ w.settings_are)
      go (no n) = absurd (n (works_state s w))

  -- the one walk decides: where the memory opens, by whether it is clean; and where it does not
  pub clean_tested : (s : Shape) → Open m s → Clean (settings_of s) m → Ok s ≡ tested_in m
  clean_tested s o k = tested_is s (record { settings_are = o.settings_are; state = clean_state m s o k })

  tested_not : (picture.State m → ⊥) → Err NoState ≡ tested_in m
  unfolding tested_in
  tested_not n = go (state_dec m)
    where
      go : (d : Dec (picture.State m)) → Err NoState ≡ tested_by m d
      go (yes t) = absurd (n t)
      go (no k) = refl

  pub unclean_tested : (s : Shape) → Open m s → (Clean (settings_of s) m → ⊥) → Err NoState ≡ tested_in m
  unclean_tested s o n = tested_not (λ t. n (rw o.settings_are (state_clean (settings_in m) m t)))

  pub unopened_tested : (i : ℕ) → opened m ≡ Err i → Err NoState ≡ tested_in m
  unopened_tested i e = tested_not (λ t. let p = opened_is m t.sound.rows t.long in let z : ◌≡◌ {A = ℕ} 0 1 = cc in omega arith)

  pub tested_state : (s : Shape) → tested_in m ≡ Ok s → Works s m
  unfolding tested_in
  tested_state s = go (state_dec m)
    where
      go : (d : Dec (picture.State m)) → tested_by m d ≡ Ok s → Works s m
      go (yes t) e = subst (λ (r : Shape). Works r m) (ok_same e) (record { settings_are = refl; state = t })
      go (no n) e = absurd (let z : ◌≡◌ {A = ℕ} 0 1 = cc in omega arith)

  pub tested_none : tested_in m ≡ Err NoState → picture.State m → ⊥
  unfolding tested_in
  tested_none e t = go (state_dec m) e
    where
      go : (d : Dec (picture.State m)) → tested_by m d ≡ Err NoState → ⊥
      go (yes t) e = let z : ◌≡◌ {A = ℕ} 0 1 = cc in omega arith
      go (no n) e = n t

-- what the test of a memory comes to, in each case
pub ruleset testing = (opened_fine, clean_tested, unclean_tested, unopened_tested)
