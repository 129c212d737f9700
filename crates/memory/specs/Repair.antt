-- A repair of memory: repaired, the function that its contract names. It is no call of the desk: a memory that is no switch state shows no
-- settings there, and a repair reads them off the bytes. Assumes nothing.
use Rattle.std.specs.Prelude.{◌≡◌, cond, List, ℕ, length, drop}
use Rattle.ledger.specs.Settings.{Settings, size, ids}
use Rattle.ledger.specs.Calls.{Reply, refused, done}
use Rattle.ledger.specs.Repair.{mended}
use Rattle.layout.specs.declared.Table.TheVariants.{Mapped}
use Rattle.layout.specs.Tables.{get}
use Rattle.layout.specs.Picture.{settings_in, opens}
use Rattle.memory.specs.Image.{fill, setup_mem}

-- setup's bytes, and over them the map as it was, mended
unfoldable pub repair_mem : Settings → List ℕ → List ℕ
repair_mem S m = fill S Mapped (λ i. i) (λ i. mended S (get S m Mapped i)) ids (setup_mem S m)

-- on any memory: refusal 3 exactly where rule (a) is broken
unfoldable pub repaired : List ℕ → Reply × List ℕ
repaired m = cond (opens m) (done, repair_mem (settings_in m) m) (refused 3, m)

-- what stays, done or refused: the settings, the memory's length, the bytes past the state
pub record Unmoved (m m' : List ℕ) : Type 0 where
  pub settings : settings_in m' ≡ settings_in m
  pub same_length : length m' ≡ length m
  pub past : drop (size (settings_in m)) m' ≡ drop (size (settings_in m)) m
