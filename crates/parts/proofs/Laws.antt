-- Which elements the parts of a state are, and what they show. Assumes nothing.
use mathlib.Core.Path.{◌≡◌, sym, ap, ◌∙◌}
use mathlib.Core.List.{List}
use Prim.Native.Nat.{ℕ, suc, ◌-◌, ◌*◌, ◌<◌}
use native.Mathlib.Omega.{arith}
use lib.ListN.{get_or}
use Rattle.ledger.specs.Settings.{Settings, ids, bucket_count}
use Rattle.ledger.specs.Ledger.{cell, credit_at, buckets, tall, last_of, map_of, mark_of, bucket_at}
use Rattle.ledger.specs.Buckets.{bucket#}
use Rattle.ledger.proofs.Places.{cell_lt}
use Rattle.ledger.proofs.Buckets.{bucket_lt}
use Rattle.layout.specs.declared.shape.Shape.{Shape}
use Rattle.layout.specs.declared.Table.{Table}
use Rattle.layout.specs.declared.Table.TheVariants.{Mapped, Last, Halted, Buckets}
use Rattle.layout.specs.Tables.{cells, get, put}
use Rattle.layout.specs.Shapes.{settings_of}
use Rattle.layout.specs.Picture.{tabulate, ledger_in}
use Rattle.memory.specs.Writes.{credit_mem}
use Rattle.memory.proofs.Chains.{get_d_table}
use Rattle.parts.specs.Parts.{InCredits}

-- ---- credits: queue q's cell is that of q - 1, and queue 0 has none

paid : (q : ℕ) → 0 < q → suc (q - 1) ≡ q
paid q h = omega arith

credit_paid : (S : Settings) (xs : List ℕ) (p q : ℕ) → 0 < q → credit_at S xs p q ≡ get_or xs (cell S p (q - 1)) 0
unfolding credit_at
credit_paid S xs p q h = ap (credit_at S xs p) (sym (paid q h))

pub put_free : (S : Settings) (t : Table) (p q v : ℕ) (m : List ℕ) → q ≡ 0 → credit_mem S t p q v m ≡ m
unfolding credit_mem
put_free S t p q v m e = rw e

pub put_paid : (S : Settings) (t : Table) (p q v : ℕ) (m : List ℕ) → 0 < q → credit_mem S t p q v m ≡ put S t (cell S p (q - 1)) v m
unfolding credit_mem
put_paid S t p q v m h = ap (λ (n : ℕ). credit_mem S t p n v m) (sym (paid q h))

module _ {s : Shape} {t : Table} {p q : ℕ} {m : List ℕ} (h : InCredits s t p q m) (some : 0 < q) where
  pub cell_in : cell (settings_of s) p (q - 1) < cells (settings_of s)
  cell_in = cell_lt (settings_of s) p (q - 1) h.cell.port (omega (arith, h.cell.queue))

  pub credit_is : credit_at (settings_of s) (tabulate (get (settings_of s) m t) 0 (cells (settings_of s))) p q
      ≡ get (settings_of s) m t (cell (settings_of s) p (q - 1))
  credit_is = credit_paid _ _ p q some ∙ get_d_table (get (settings_of s) m t) (cells (settings_of s)) _ 0 cell_in

-- ---- what a port has one of, and the map

module _ (S : Settings) (m : List ℕ) where
  pub last_is : (p : ℕ) → p < S.ports → last_of (ledger_in S m) p ≡ get S m Last p
  unfolding ledger_in
  last_is p h = get_d_table (get S m Last) S.ports p 0 h

  pub mark_is : (p : ℕ) → p < S.ports → mark_of (ledger_in S m) p ≡ get S m Halted p
  unfolding ledger_in
  mark_is p h = get_d_table (get S m Halted) S.ports p 0 h

  pub mapped_is : (d : ℕ) → d < ids → map_of (ledger_in S m) d ≡ get S m Mapped d
  unfolding ledger_in
  mapped_is d h = get_d_table (get S m Mapped) ids d 0 h

  pub bucket_is : (p b : ℕ) → p < S.ports → b < bucket_count → bucket_at (ledger_in S m) p b ≡ get S m Buckets (bucket# p b)
  unfolding ledger_in
  bucket_is p b h k = get_d_table (get S m Buckets) (tall S buckets) (bucket# p b) 0 (bucket_lt S p b h k)

pub bucket_in : (n p b : ℕ) → p < n → b < bucket_count → bucket# p b < n * bucket_count
unfolding bucket#
bucket_in n p b h k = omega arith
