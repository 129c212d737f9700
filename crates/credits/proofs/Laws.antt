-- What the act of credit comes to, with no code. Assumes nothing.
use mathlib.Core.Path.{◌≡◌, sym}
use mathlib.Core.List.{List}
use Prim.Native.Nat.{ℕ, ◌+◌, ◌≤◌, ◌<◌}
use lib.Dec.{eqb, leb}
use Rattle.ledger.specs.Settings.{Settings}
use Rattle.ledger.specs.Ledger.{outward_of}
use Rattle.ledger.specs.Calls.{done, credit}
use Rattle.ledger.proofs.Tests.{leb_no, ltb_no, or_left}
use Rattle.layout.specs.declared.Table.TheVariants.{Outward}
use Rattle.layout.specs.Picture.{ledger_in}
use Rattle.memory.specs.Writes.{credit_mem}
use Rattle.memory.specs.Judged.{good, judged}
use Rattle.memory.specs.Memory.{acted}
use Rattle.memory.proofs.Judged.{judged_clear, acted_good}

-- what is known once the judge let a credit go
pub record Goes (S : Settings) (m : List ℕ) (p q n : ℕ) : Type 0 where
  pub port : p < S.ports
  pub queue : q < S.queues
  pub sum_in : outward_of S (ledger_in S m) p q + n ≤ 65535
  pub outcome : acted S m (credit p q n) ≡ (done, credit_mem S Outward p q (outward_of S (ledger_in S m) p q + n) m)

pub gone_on : (S : Settings) (m : List ℕ) (p q n : ℕ) → good ≡ judged S (ledger_in S m) (credit p q n) → Goes S m p q n
gone_on S m p q n e =
    let c = judged_clear S (ledger_in S m) (credit p q n) (sym e) in
    record {
      port = leb_no S.ports p c.0;
      queue = leb_no S.queues q (or_left (leb S.queues q) (eqb q 0) c.1.0);
      sum_in = ltb_no 65535 (outward_of S (ledger_in S m) p q + n) c.1.1.0;
      outcome = acted_good S m (credit p q n) (sym e);
    }
