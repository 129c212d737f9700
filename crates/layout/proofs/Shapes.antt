-- What a shape's numbers come to, and what the reads and writes of the code are. Assumes nothing.
use mathlib.Core.Path.{◌≡◌, sym, ap, ◌∙◌}
use mathlib.Core.List.{List}
use Prim.Native.Nat.{ℕ, ◌+◌, ◌-◌, ◌*◌, ◌%◌, ◌^◌, ◌≤◌, ◌<◌}
use native.Mathlib.Nat.{mul-le-mul, mod-eq_of_lt, one-mul}
use native.Mathlib.Omega.{arith}
use lib.Pow.{pow-lt}
use lib.ListN.{length}
use Rattle.numbers.specs.Bytes.{number, store}
use Rattle.ledger.specs.Settings.{Settings, row}
use Rattle.ledger.specs.Sound.{Roomy}
use Rattle.layout.specs.declared.shape.Shape.{Shape}
use Rattle.layout.specs.declared.Table.{Table}
use Rattle.layout.specs.Tables.{cells, lists, all, start_of, get, put}
use Rattle.layout.specs.Held.{Lays}
use Rattle.layout.specs.Shapes.{settings_of}
use Rattle.layout.specs.Access.{Reads}
use Rattle.layout.proofs.Tables.{within}

-- ---- no number of a shape is large

-- how many cells, lists and nodes there are at most
pub record Few (S : Settings) : Type 0 where
  pub few_cells : cells S ≤ 2016
  pub few_lists : lists S ≤ 4160
  pub few_all : all S ≤ 65536

pub few : (S : Settings) → Roomy S → Few S
unfolding row
few S r =
    let queues : S.queues - 1 ≤ 63 = omega arith in
    let lists : row S ≤ 130 = omega arith in
    record {
      few_cells = mul-le-mul r.few_ports queues;
      few_lists = mul-le-mul r.few_ports lists;
      few_all = mul-le-mul r.few_ports r.few_nodes;
    }

-- the bytes of a state, as a shape's numbers give them, are few
pub small : {S : Settings} {r c l a at head next least dests : ℕ} → Lays S r c l a at head next least dests → next + 13 * a ≤ 1114112
unfolding start_of
small {S} k = let f = few S k.roomy in omega arith

-- a one shifted by fewer places than its type has bits
pub one_shifted : (w k : ℕ) → w < k → 1 * 2 ^ w % 2 ^ k ≡ 2 ^ w
one_shifted w k h = mod-eq_of_lt (let small : 1 * 2 ^ w < 2 ^ k = omega (arith, pow-lt h) in small) ∙ one-mul (2 ^ w)

-- a node id of two bytes has one of 32 ports
pub owner_row : (S : Settings) (p : ℕ) → Roomy S → p ≤ 31 → p * S.nodes ≤ 63488
owner_row S p r h = mul-le-mul h r.few_nodes

-- ---- an element of k bytes

module _ {k i : ℕ} {s : Shape} {t : Table} {m : List ℕ} (h : Reads k s t i m) where
  -- it lies in the memory
  pub reach : start_of (settings_of s) t + i * k + k ≤ length m
  reach = omega (arith, rw h.wide at (within (settings_of s) t i h.inside))

  -- reading and writing k bytes there is reading and writing the element
  pub read_is : number k m (start_of (settings_of s) t + i * k) ≡ get (settings_of s) m t i
  unfolding get
  read_is = ap (λ (w : ℕ). number w m (start_of (settings_of s) t + i * w)) (sym h.wide)

  pub write_is : (v : ℕ) → store k m (start_of (settings_of s) t + i * k) v ≡ put (settings_of s) t i v m
  unfolding put
  write_is v = ap (λ (w : ℕ). store w m (start_of (settings_of s) t + i * w) v) (sym h.wide)
