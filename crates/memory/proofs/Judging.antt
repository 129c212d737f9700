-- What a judge's tests come to, for the search: a judge whose contract is `judged`, which the search has to see through, is proved by these.
-- Assumes nothing.
use Rattle.std.proofs.Common.{◌≡◌, true, ◌<◌, ℕ, List, arith}
use Rattle.std.proofs.lemmas.Bool.Decides.{nat_tests}
use Rattle.ledger.specs.Settings.{Settings}
use Rattle.ledger.specs.Ledger.{is_node, ingress, egress, prefetched, place#}
use Rattle.ledger.specs.Sound.{Roomy}
use Rattle.ledger.proofs.Places.{place#_lt}
use Rattle.layout.specs.Tables.{lists, get}
use Rattle.layout.specs.declared.Table.TheVariants.{Head, Count}
use Rattle.layout.specs.Picture.{StateOf}
use Rattle.memory.proofs.Chains.{list_length, head_is_node, state_tidy}
use Rattle.memory.proofs.Paint.{empty_is, some_is}

-- the lists of a port and of its queues are among the lists
pub ingress_in : (S : Settings) (p : ℕ) → Roomy S → p < S.ports → place# S (ingress p) < lists S
ingress_in S p ok hp = place#_lt S (ingress p) (hp, omega (arith, ok.some_queues))

pub egress_in : (S : Settings) (p q : ℕ) → p < S.ports → q < S.queues → place# S (egress p q) < lists S
egress_in S p q hp hq = place#_lt S (egress p q) (hp, hq)

pub prefetch_in : (S : Settings) (p q : ℕ) → p < S.ports → q < S.queues → place# S (prefetched p q) < lists S
prefetch_in S p q hp hq = place#_lt S (prefetched p q) (hp, hq)

-- the first node of a list that has one
pub first_is_node : (S : Settings) (m : List ℕ) (l : ℕ) → StateOf S m → l < lists S → (get S m Count l ≡ 0 → ⊥) → is_node S (get S m Head l) ≡ true
first_is_node S m l s h some = head_is_node S m (state_tidy S m s) l h (omega arith)

pub ruleset judging = (first_is_node, nat_tests, ingress_in, egress_in, prefetch_in, list_length, empty_is, some_is)
