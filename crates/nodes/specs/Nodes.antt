-- What is asked of a node where it stands, and what is added for it. Assumes nothing.
use Rattle.std.specs.Prelude.{Bool, cond, ◌&&◌, ◌||◌, List, ℕ, eqb, ltb}
use Rattle.ledger.specs.Settings.{Settings}
use Rattle.layout.specs.declared.Table.TheVariants.{Queue}
use Rattle.layout.specs.Tables.{get}
use Rattle.layout.specs.Picture.{slot, packet_at}
use Rattle.fits.specs.declared.NodeRule.{NodeRule}
use Rattle.fits.specs.declared.NodeRule.TheVariants.{OwnPort, OwnQueue, Record}
use Rattle.fits.specs.Fits.{spared, queue_at, proper_test, rule_test}
use Rattle.paid.specs.Paid.{add_node}

-- ---- a node x in port p's column c

-- what a rule asks, where it speaks of the list
abbrev pub asks : NodeRule → Settings → List ℕ → ℕ → ℕ → ℕ → Bool
asks rule S m p c x = spared rule c || rule_test rule S p c (packet_at S m x)

-- (d), (e) and (f)
unfoldable pub fits_here : Settings → List ℕ → ℕ → ℕ → ℕ → Bool
fits_here S m p c x = asks OwnPort S m p c x && (asks OwnQueue S m p c x && asks Record S m p c x)

-- (e) and (f), where it is not free
unfoldable pub packet_fits : Settings → List ℕ → ℕ → ℕ → Bool
packet_fits S m c x = (ltb c 2 || eqb (get S m Queue (slot S x)) (queue_at S c)) && proper_test S (packet_at S m x)

-- the sums with its price, unless it is free
unfoldable pub add_here : Settings → List ℕ → ℕ → List ℕ → ℕ → List ℕ
add_here S m c sums x = cond (eqb c 0) sums (add_node S m sums x)
