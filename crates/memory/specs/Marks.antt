-- Paper 02, Q-9, of bytes: "that mark is the only change, amending demand 1". Assumes nothing.
use Rattle.std.specs.Prelude.{◌≡◌, true, false, List, ℕ, ◌+◌, set}
use Rattle.ledger.specs.Settings.{Settings}
use Rattle.ledger.specs.Halt.{marks}
use Rattle.layout.specs.declared.Table.TheVariants.{Halted}
use Rattle.layout.specs.Tables.{start_of, get}

-- where port p's mark stands, a byte
abbrev pub mark_byte : Settings → ℕ → ℕ
mark_byte S p = start_of S Halted + p

-- what refusal n of an arrival at port p leaves of memory m: every byte as it was, or all but that one, which is n
pub data ButTheMark (S : Settings) (p n : ℕ) (m : List ℕ) : List ℕ → Type 0 where
  as_it_was : marks S p (get S m Halted p) n ≡ false → ButTheMark S p n m m
  marked : marks S p (get S m Halted p) n ≡ true → ButTheMark S p n m (set m (mark_byte S p) n)
