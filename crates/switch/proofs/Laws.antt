-- The test for a state decides between an act and refusal 3. Assumes nothing.
use mathlib.Core.Path.{◌≡◌, refl, sym, ap, ◌∙◌}
use mathlib.Core.Bool.{true, false}
use mathlib.Core.List.{List}
use Prim.Native.Nat.{ℕ, ◌<◌}
use native.Mathlib.Omega.{arith}
use Rattle.ledger.specs.Settings.{Settings, in_rows}
use Rattle.ledger.specs.Ledger.{owner, is_node}
use Rattle.ledger.specs.Calls.{Act, refused, where_is}
use Rattle.ledger.specs.Desk.{act}
use Rattle.ledger.proofs.Tests.{ltb_not}
use Rattle.ledger.proofs.Rows.{roomy}
use Rattle.layout.specs.declared.shape.Shape.{Shape}
use Rattle.layout.specs.Shapes.{settings_of}
use Rattle.memory.specs.Memory.{state_dec, M}
use Rattle.memory.specs.Rounds.{rounded, round_on}
use Rattle.memory.specs.Runs.{refused_run, ran, run_on}
use Rattle.memory.specs.Audit.{audited, audit_on}
use Rattle.memory.specs.Judged.{Works, judged}
use Rattle.memory.proofs.Judged.{acted_bad}
use Rattle.memory.proofs.Demands.{on_works}
use Rattle.memory.proofs.Demands as demands
use Rattle.memory.proofs.Rounds.{round_on_lem, round_off}
use Rattle.memory.proofs.Runs.{run_on_lem, run_off}
use Rattle.memory.proofs.Audit.{audit_on_lem, audit_off}
use Rattle.std.specs.Prelude.{Err}
use Rattle.ledger.specs.Answers.{number_of}
use Rattle.ledger.specs.declared.Refusal.{Refusal}
use Rattle.ledger.specs.declared.Refusal.TheVariants.{NoState}
use Rattle.layout.specs.Picture.{State}
use Rattle.sound.specs.Sound.{tested_by, tested_in}
use Rattle.sound.proofs.Means.{tested_none}

-- where it says none, it says refusal 3, and the call is refused so and changes nothing
none_is : (m : List ℕ) (n : Refusal) → tested_in m ≡ Err n → n ≡ NoState
unfolding tested_in
none_is m n = go (state_dec m)
  where
    go : (d : Dec (State m)) → tested_by m d ≡ Err n → n ≡ NoState
    go (yes t) e = cc
    go (no k) e = cc

pub off_state : (m : List ℕ) (n : Refusal) → tested_in m ≡ Err n → (a : Act) → M (act a) m ≡ (refused (number_of n), m)
off_state m n e a = let i = none_is m n e in rw i (demands.off_state m (tested_none m (e ∙ ap Err i)) a)

-- a number above every entry id is no node's, so where is refused: 15, but 3 first
pub no_node : (S : Settings) → in_rows S ≡ true → (y : ℕ) → 65535 < y → is_node S y ≡ false
unfolding is_node
no_node S h y k = rw (ltb_not (owner y) S.ports (omega (arith, (roomy S h).few_ports)))

pub past_state : (s : Shape) (m : List ℕ) → Works s m → (y : ℕ) → 65535 < y → M (act (where_is y)) m ≡ (refused 15, m)
past_state s m w y k =
    sym (on_works s m w (where_is y))
    ∙ acted_bad (settings_of s) m (where_is y) refl 15 (unfold judged in rw (no_node (settings_of s) w.state.sound.rows y k))

-- ---- the run, the round and the audit: on a state theirs, and where the test says none, they too are refused and change nothing

module _ (m fields room : List ℕ) where
  pub run_works : (s : Shape) → Works s m → ran (settings_of s) m fields room ≡ run_on m fields room
  run_works s w = run_on_lem m fields room (settings_of s) (sym w.settings_are) w.state

  pub run_off_state : (n : Refusal) → tested_in m ≡ Err n → run_on m fields room ≡ (refused_run (number_of n), m, room)
  run_off_state n e = let i = none_is m n e in rw i (run_off m fields room (tested_none m (e ∙ ap Err i)))

module _ (m room : List ℕ) where
  pub round_works : (s : Shape) → Works s m → rounded (settings_of s) m room ≡ round_on m room
  round_works s w = round_on_lem m room (settings_of s) (sym w.settings_are) w.state

  pub round_off_state : (n : Refusal) → tested_in m ≡ Err n → round_on m room ≡ (refused (number_of n), m, room)
  round_off_state n e = let i = none_is m n e in rw i (round_off m room (tested_none m (e ∙ ap Err i)))

  pub audit_works : (s : Shape) → Works s m → audited (settings_of s) m room ≡ audit_on m room
  audit_works s w = audit_on_lem m room (settings_of s) (sym w.settings_are) w.state

  pub audit_off_state : (n : Refusal) → tested_in m ≡ Err n → audit_on m room ≡ (refused (number_of n), room)
  audit_off_state n e = let i = none_is m n e in rw i (audit_off m room (tested_none m (e ∙ ap Err i)))

-- what a call comes to, by what the test says
pub ruleset calling = (on_works, off_state, past_state, run_works, run_off_state, round_works, round_off_state, audit_works, audit_off_state)
