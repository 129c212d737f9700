-- What the act of map comes to, with no code. Assumes nothing.
use mathlib.Core.Path.{◌≡◌, sym}
use mathlib.Core.List.{List}
use Prim.Native.Nat.{ℕ, ◌<◌}
use Rattle.ledger.specs.Settings.{Settings, ids}
use Rattle.ledger.specs.Calls.{done, map_to}
use Rattle.ledger.proofs.Tests.{leb_no}
use Rattle.layout.specs.declared.Table.TheVariants.{Mapped}
use Rattle.layout.specs.Tables.{put}
use Rattle.layout.specs.Picture.{ledger_in}
use Rattle.memory.specs.Judged.{good, judged}
use Rattle.memory.specs.Memory.{acted}
use Rattle.memory.proofs.Judged.{judged_clear, acted_good}

-- what is known once the judge let a map go
pub record Maps (S : Settings) (m : List ℕ) (d p : ℕ) : Type 0 where
  pub id : d < ids
  pub port : p < S.ports
  pub outcome : acted S m (map_to d p) ≡ (done, put S Mapped d p m)

pub mapped_on : (S : Settings) (m : List ℕ) (d p : ℕ) → good ≡ judged S (ledger_in S m) (map_to d p) → Maps S m d p
mapped_on S m d p e =
    let c = judged_clear S (ledger_in S m) (map_to d p) (sym e) in
    record {
      id = leb_no ids d c.0;
      port = leb_no S.ports p c.1.0;
      outcome = acted_good S m (map_to d p) (sym e);
    }
