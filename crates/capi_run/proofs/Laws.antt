-- A refused run leaves every room. Assumes nothing.
use mathlib.Core.Path.{◌≡◌, ap}
use mathlib.Core.List.{List}
use Prim.Native.Nat.{ℕ}
use native.Mathlib.Omega.{arith}
use Rattle.layout.specs.Picture.{State}
use Rattle.memory.specs.Memory.{state_dec}
use Rattle.memory.specs.Runs.{refused_run, ran, run_tested, run_on}
use Rattle.capi_run.specs.Told.{told_run}

-- a run that is refused leaves the memory, the answers, count and why as they were lent
pub refused_run_keeps : (m fields room : List ℕ) (count why n : ℕ) → (run_on m fields room).0 ≡ refused_run n
    → ◌≡◌ {A = ℕ × List ℕ × List ℕ × ℕ × ℕ} (told_run count why (run_on m fields room)) (n, m, room, count, why)
unfolding run_on ran
refused_run_keeps m fields room count why n = go (state_dec m)
  where
    go : (d : Dec (State m)) → (run_tested m d fields room).0 ≡ refused_run n
        → ◌≡◌ {A = ℕ × List ℕ × List ℕ × ℕ × ℕ} (told_run count why (run_tested m d fields room)) (n, m, room, count, why)
    go (yes t) e = absurd (let z : ◌≡◌ {A = ℕ} 0 1 = cc in omega arith)
    go (no k) e = let i : 3 ≡ n = cc in ap (λ (x : ℕ). (x, m, room, count, why)) i
