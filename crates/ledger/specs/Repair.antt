-- Paper 02, Q-11: what a repair leaves, "the starting ledger for those settings with the map kept". Assumes nothing.
use Rattle.std.specs.Prelude.{◌≡◌, ◌≢◌, cond, List, map, ℕ, ◌≤◌, ◌<◌, get_or, ltb}
use Rattle.ledger.specs.Settings.{Settings}
use Rattle.ledger.specs.Ledger.{Column, Ledger, mapped, map_of, change, start}

-- "entries above the last port set to 0"
abbrev pub mended : Settings → ℕ → ℕ
mended S p = cond (ltb p S.ports) p 0

-- of these map entries
unfoldable pub restart : Settings → List ℕ → Ledger
restart S ports = change mapped (λ xs. map (mended S) ports) (start S)

-- the same in words: every list and every number as in the starting ledger but the map's, of which an entry that is a port is as it was, and
-- any other is 0
pub record Restarted (S : Settings) (ports : List ℕ) (L : Ledger) : Type 0 where
  pub same_lists : L.lists ≡ (start S).lists
  pub same_numbers : (c : Column) → c ≢ mapped → L.numbers c ≡ (start S).numbers c
  pub kept : (d : ℕ) → get_or ports d 0 < S.ports → map_of L d ≡ get_or ports d 0
  pub cleared : (d : ℕ) → S.ports ≤ get_or ports d 0 → map_of L d ≡ 0
