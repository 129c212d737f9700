-- Sums by their cells, and how large all sums become. Assumes nothing.
use mathlib.Core.Path.{◌≡◌}
use mathlib.Core.List.{List}
use Prim.Native.Nat.{ℕ, zero, suc, ◌+◌, ◌-◌, ◌*◌, ◌≤◌, ◌<◌}
use native.Mathlib.Numerals.{add-one}
use native.Mathlib.Omega.{arith}
use lib.ListN.{length, get_or, replicate}
use Rattle.ledger.specs.Settings.{Settings}
use Rattle.ledger.specs.Ledger.{cell, credit_at}
use Rattle.ledger.specs.Sound.{Roomy}
use Rattle.ledger.proofs.Places.{cell_lt}
use Rattle.layout.specs.Tables.{cells, lists}
use Rattle.memory.proofs.Chains.{total_bound}
use Rattle.paid.specs.Paid.{add_list, add_from, sums_of}
use Rattle.paid.specs.Passes.{Payable, Sums, list_most}
use Rattle.paid.proofs.Adding.{sums_more, zero_sums, list_sums}

-- ---- sums and cells

module _ (S : Settings) where
  pub sum_at : (sums : List ℕ) (p q b : ℕ) → Sums S sums b → 0 < q → get_or sums (cell S p (q - 1)) 0 ≤ b
  unfolding credit_at
  sum_at sums p zero b s h = absurd (omega arith)
  sum_at sums p (suc r) b s h = let e : suc r - 1 ≡ r = omega arith in rw e (s.low p (suc r))

  -- the sum of cell c stands in the first port's row, as one far out
  pub sum_of : (sums : List ℕ) (c b : ℕ) → Sums S sums b → get_or sums c 0 ≤ b
  unfolding credit_at cell
  sum_of sums c b s =
      let e : 0 * (S.queues - 1) + c ≡ c = omega arith in
      rw e at (s.low 0 (suc c))

  pub cell_in : (sums : List ℕ) (p q b : ℕ) → Sums S sums b → p < S.ports → 0 < q → q < S.queues → cell S p (q - 1) < length sums
  cell_in sums p q b s hp some hq = omega (arith, s.many, cell_lt S p (q - 1) hp (omega arith))

-- ---- all sums

module _ (S : Settings) (m : List ℕ) where
  -- they start at nothing
  pub none_added : (sums : List ℕ) → sums ≡ replicate (cells S) 0 → add_from S m sums 0 (lists S - 0) ≡ sums_of S m
  unfolding sums_of
  none_added sums e = let k : lists S - 0 ≡ lists S = omega arith in rw (e, k)

  from_sums : Payable S m → Roomy S → (n l : ℕ) (sums : List ℕ) → l + n ≤ lists S → Sums S sums (list_most * l)
      → Sums S (add_from S m sums l n) (list_most * (l + n))
  unfolding add_from
  from_sums P R zero l sums h s = sums_more S sums (list_most * l) (list_most * (l + 0)) (omega arith) s
  from_sums P R (suc n) l sums h s =
      let k : list_most * (suc l + n) ≤ list_most * (l + suc n) = omega arith in
      sums_more S _ _ _ k
      (from_sums P R n (suc l) (add_list S m sums l) (omega arith) (rw add-one at (list_sums S m sums l (total_bound S m P.tidy R l (omega arith)) s)))

  pub sums_held : Payable S m → Roomy S → Sums S (sums_of S m) (list_most * lists S)
  unfolding sums_of
  sums_held P R =
      sums_more S _ (list_most * (0 + lists S)) _ (omega arith)
      (from_sums P R (lists S) 0 (replicate (cells S) 0) (omega arith) (sums_more S (replicate (cells S) 0) 0 (list_most * 0) (omega arith) (zero_sums S)))
