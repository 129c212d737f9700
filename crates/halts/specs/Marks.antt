-- Rule (i), port by port. Assumes nothing.
use Rattle.std.specs.Prelude.{List, ℕ, Option}
use Rattle.ledger.specs.Settings.{Settings}
use Rattle.ledger.specs.Halt.{is_mark}
use Rattle.layout.specs.declared.Table.TheVariants.{Halted}
use Rattle.layout.specs.Tables.{get}
use Rattle.ranges.specs.First.{first}

-- the first port whose mark is none
unfoldable pub marks_found : Settings → List ℕ → Option ℕ
marks_found S m = first (λ p. is_mark (get S m Halted p)) S.ports
