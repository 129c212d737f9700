-- What opening a memory comes to in each case, and what it means. Assumes nothing.
use mathlib.Core.Path.{◌≡◌, refl, sym, ap, subst, ◌∙◌}
use mathlib.Core.HLevel.{is_prop→PathP}
use Rattle.std.proofs.Props.{props}
use Rattle.settings.specs.Told.{one_out}
use Rattle.settings.proofs.Rows.{one_some, one_none}
use Rattle.layout.specs.Held.{Lays}
use mathlib.Core.Bool.{Bool, true, false, true≢false, ◌&&◌}
use mathlib.Core.List.{List}
use Prim.Native.Nat.{ℕ, ◌≤◌, ◌<◌}
use native.Mathlib.Omega.{arith}
use lib.ListN.{length}
use Rattle.ledger.specs.Settings.{Settings, setting_count, in_rows, first_out, size}
use Rattle.ledger.specs.Sound.{Roomy}
use Rattle.ledger.proofs.Tests.{leb_not, ltb_is, ltb_not, eqb_yes, eqb_not}
use Rattle.ledger.proofs.Rows.{roomy, rows_out}
use Rattle.layout.specs.declared.shape.Shape.{Shape}
use Rattle.layout.specs.Shapes.{settings_of}
use Rattle.layout.specs.Picture.{settings_in, opens}
use Rattle.memory.proofs.Picture.{opens_means}
use Rattle.std.specs.Prelude.{None, Some, Result, Ok, Err}
use Rattle.ranges.specs.Opening.{shape_for, settings_bytes, out_at, opened_by, opened, Open}
use Rattle.ranges.specs.Ranges.{Held}

-- ---- shapes

lays_prop : {S : Settings} {a b c d e f g h i : ℕ} → IsProp (Lays S a b c d e f g h i)
lays_prop = Prim.hlevel props

roomy_prop : {S : Settings} → IsProp (Roomy S)
roomy_prop = Prim.hlevel props

-- a shape is what its settings make it
shape_is : (s : Shape) → s ≡ shape_for (settings_of s) s.laid.roomy
shape_is s =
    let l = s.laid in
    λ i. record {
      ports = s.ports;
      queues = s.queues;
      nodes = s.nodes;
      beat = s.beat;
      slots = s.slots;
      credit = s.credit;
      edition = s.edition;
      packets = s.packets;
      row = l.row_is i;
      cells = l.cells_are i;
      lists = l.lists_are i;
      all = l.all_are i;
      arrival = l.arrival_at i;
      head = l.head_at i;
      next = l.next_at i;
      least = l.least_is i;
      dests = l.dests_are i;
      laid = is_prop→PathP
          (λ j. Lays (settings_of s) (l.row_is j) (l.cells_are j) (l.lists_are j) (l.all_are j)
          (l.arrival_at j) (l.head_at j) (l.next_at j) (l.least_is j) (l.dests_are j))
          (λ j. lays_prop) l (shape_for (settings_of s) l.roomy).laid i;
    }

-- two of the same settings are the same
pub shape_same : (s r : Shape) → settings_of s ≡ settings_of r → s ≡ r
shape_same s r e = shape_is s ∙ at (settings_of r) e s.laid.roomy r.laid.roomy ∙ sym (shape_is r)
  where
    at : (S : Settings) → settings_of s ≡ S → (Q : Roomy (settings_of s)) (R : Roomy S) → shape_for (settings_of s) Q ≡ shape_for S R
    at S e Q R = λ i. shape_for (e i) (is_prop→PathP (λ j. Roomy (e j)) (λ j. roomy_prop) Q R i)

-- ---- opening

and_false : (a : Bool) → (a && false) ≡ false
and_false true = refl
and_false false = refl

ok_same : {s r : Shape} → ◌≡◌ {A = Result Shape ℕ} (Ok s) (Ok r) → s ≡ r
ok_same e = cc

module _ (m : List ℕ) where
  -- rule (a) is broken, and what shows it
  shut : opens m ≡ false → opened m ≡ Err (out_at m)
  unfolding opened
  shut e = go (opens m) refl e
    where
      go : (b : Bool) (t : opens m ≡ b) → b ≡ false → opened_by m b t ≡ Err (out_at m)
      go true t e = absurd (true≢false e)
      go false t e = refl

  pub opened_outside : {i : ℕ} → settings_bytes ≤ length m → one_out (settings_in m) ≡ Some i → opened m ≡ Err i
  unfolding out_at
  opened_outside h out =
      let is = one_some (settings_in m) out in
      let rows : in_rows (settings_in m) ≡ false = rows_out (settings_in m) ∙ eqb_not (first_out (settings_in m)) setting_count is.1 in
      rw (ltb_not (length m) settings_bytes h, is.0) at (shut (rw rows))

  short : length m < size (settings_in m) → opens m ≡ false
  short h = rw (leb_not (size (settings_in m)) (length m) h, and_false)

  pub opened_short : settings_bytes ≤ length m → one_out (settings_in m) ≡ None → length m < size (settings_in m) → opened m ≡ Err setting_count
  unfolding out_at
  opened_short t e h =
      let all : first_out (settings_in m) ≡ setting_count = eqb_yes _ _ (sym (rows_out (settings_in m)) ∙ one_none (settings_in m) e) in
      rw (ltb_not (length m) settings_bytes t, all) at (shut (short h))

  -- too short for the settings themselves
  pub opened_tiny : length m < settings_bytes → opened m ≡ Err setting_count
  unfolding out_at size
  opened_tiny h = rw (ltb_is (length m) settings_bytes h) at (shut (short (omega arith)))

  -- it holds: a shape of the settings is what the memory is opened as
  pub opened_as : (s : Shape) → settings_of s ≡ settings_in m → in_rows (settings_in m) ≡ true → size (settings_in m) ≤ length m → opened m ≡ Ok s
  unfolding opened
  opened_as s are e h = go (opens m) refl ((opens_means m).1 (e, h))
    where
      go : (b : Bool) (t : opens m ≡ b) → b ≡ true → opened_by m b t ≡ Ok s
      go true t e = ap Ok (shape_same _ s (sym are))
      go false t e = absurd (true≢false (sym e))

  pub opened_is : (e : in_rows (settings_in m) ≡ true) → size (settings_in m) ≤ length m → opened m ≡ Ok (shape_for (settings_in m) (roomy (settings_in m) e))
  opened_is e h = opened_as (shape_for (settings_in m) (roomy (settings_in m) e)) refl e h

  pub opened_fine : (s : Shape) → opened m ≡ Ok s → Open m s
  unfolding opened
  opened_fine s = go (opens m) refl
    where
      go : (b : Bool) (t : opens m ≡ b) → opened_by m b t ≡ Ok s → Open m s
      go true t e =
          let r = (opens_means m).0 t in
          subst (Open m) (ok_same e) (record { settings_are = refl; rows = r.0; long = r.1 })
      go false t e = absurd (let z : ◌≡◌ {A = ℕ} 0 1 = cc in omega arith)

  pub opened_wrong : (i : ℕ) → opened m ≡ Err i → (opens m ≡ false) × (out_at m ≡ i)
  unfolding opened
  opened_wrong i = go (opens m) refl
    where
      go : (b : Bool) (t : opens m ≡ b) → opened_by m b t ≡ Err i → (opens m ≡ false) × (out_at m ≡ i)
      go true t e = absurd (let z : ◌≡◌ {A = ℕ} 0 1 = cc in omega arith)
      go false t e = let p : out_at m ≡ i = cc in (t, p)

pub open_opens : {m : List ℕ} {s : Shape} → Open m s → opens m ≡ true
open_opens {m} o = (opens_means m).1 (o.rows, o.long)

-- what the other rules ask
pub open_held : {m : List ℕ} {s : Shape} → Open m s → Held s m
open_held o = record { long = rw o.settings_are o.long }
