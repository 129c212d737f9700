-- The place of a list's number, by its port and its column. Assumes nothing.
use mathlib.Core.Path.{◌≡◌, sym, ap, ◌∙◌}
use Prim.Native.Nat.{ℕ, suc, ◌+◌, ◌-◌, ◌*◌, ◌/◌, ◌%◌, ◌≤◌, ◌<◌}
use native.Mathlib.Nat.{mod-lt, div-lt_iff_lt-mul}
use native.Mathlib.Omega.{arith}
use Rattle.ledger.specs.Settings.{Settings, row}
use Rattle.ledger.specs.Ledger.{Place, free, ingress, egress, prefetched, place#, place_in, place_of}
use Rattle.ledger.specs.Buckets.{bucket#}
use Rattle.ledger.proofs.Tests.{ltb_is, ltb_not}
use Rattle.layout.specs.Tables.{lists}

-- list l, where a port has r lists
module _ (S : Settings) (l : ℕ) {r : ℕ} (is : r ≡ row S) where
  there : {v : Place} → v ≡ place_in S (l / r) (l % r) → v ≡ place_of S l
  unfolding place_of
  there e = rw (← is) e

  pub some : 0 < r
  unfolding row
  some = omega arith

  pub port_in : l < lists S → l / r < S.ports
  port_in h = (div-lt_iff_lt-mul some).1 (rw (← is) at h)

  pub column_in_lem : l % r < 2 + 2 * S.queues
  unfolding row
  column_in_lem = omega (arith, mod-lt l some)

  pub free_kind : l % r ≡ 0 → free (l / r) ≡ place_of S l
  free_kind e = there (rw e)

  pub ingress_kind : l % r ≡ 1 → ingress (l / r) ≡ place_of S l
  ingress_kind e = there (rw e)

  module _ (used : l % r ≡ 0 → ⊥) (left : l % r ≡ 1 → ⊥) where
    second : l % r ≡ suc (suc (l % r - 2))
    second = omega arith

    pub egress_kind : l % r - 2 < S.queues → egress (l / r) (l % r - 2) ≡ place_of S l
    egress_kind h = there (sym (ap (place_in S (l / r)) second ∙ rw (ltb_is (l % r - 2) S.queues h)))

    pub prefetch_kind : S.queues ≤ l % r - 2 → prefetched (l / r) (l % r - 2 - S.queues) ≡ place_of S l
    prefetch_kind h = there (sym (ap (place_in S (l / r)) second ∙ rw (ltb_not (l % r - 2) S.queues h)))

-- what a list's kind comes to, in each case
pub ruleset kinds = (free_kind, ingress_kind, egress_kind, column_in_lem)

-- the number of each list of port p, and of each of its buckets
module _ (S : Settings) (p : ℕ) where
  pub free_place : place# S (free p) ≡ p * row S + 0
  unfolding place#
  free_place = omega arith

  pub ingress_place : place# S (ingress p) ≡ p * row S + 1
  unfolding place#
  ingress_place = omega arith

  pub egress_place : (q : ℕ) → place# S (egress p q) ≡ p * row S + (2 + q)
  unfolding place#
  egress_place q = omega arith

  pub prefetch_place : (q : ℕ) → place# S (prefetched p q) ≡ p * row S + (2 + (S.queues + q))
  unfolding place#
  prefetch_place q = omega arith

pub bucket_place : (p b : ℕ) → bucket# p b ≡ p * 33 + b
unfolding bucket#
bucket_place p b = omega arith
