-- Rules (d), (e) and (f) as tests of a memory: a test of each node of each list, and the first node that fails. Assumes nothing.
use Rattle.std.specs.Prelude.{Bool, cond, ◌&&◌, ◌||◌, List, [], ◌∷◌, ℕ, zero, suc, ◌-◌, ◌/◌, ◌%◌, ◌^◌, eqb, ltb, leb, Option, None, Some}
use Rattle.ledger.specs.Settings.{Settings, row}
use Rattle.ledger.specs.Header.{form, least_length, price}
use Rattle.ledger.specs.Ledger.{owner, Packet}
use Rattle.layout.specs.Tables.{lists}
use Rattle.layout.specs.Picture.{nodes_of, packet_at}
use Rattle.fits.specs.declared.NodeRule.{NodeRule}
use Rattle.fits.specs.declared.NodeRule.TheVariants.{OwnPort, OwnQueue, Record}

-- ---- a node in a list, which is port p's column c

-- the lists of which a rule says nothing: (d) speaks of the free and the ingress list, columns 0 and 1, (e) of the egress and the prefetch
-- lists, and (f) of all but the free list
abbrev pub spared : NodeRule → ℕ → Bool
spared OwnPort c = leb 2 c
spared OwnQueue c = ltb c 2
spared Record c = eqb c 0

-- the queue of an egress or a prefetch list, the columns from 2
abbrev pub queue_at : Settings → ℕ → ℕ
queue_at S c = cond (ltb (c - 2) S.queues) (c - 2) (c - 2 - S.queues)

-- the fields that can be out of range in the bytes that hold them
unfoldable pub range_test : Settings → ℕ → ℕ → ℕ → ℕ → Bool
range_test S len queue dest poisoned =
    leb (least_length (form S)) len && (ltb len (2 ^ 13) && (ltb queue S.queues && (ltb dest (2 ^ (form S).port_bits) && ltb poisoned 2)))

-- and the price is that of the queue and the length
unfoldable pub fields_test : Settings → ℕ → ℕ → ℕ → ℕ → ℕ → Bool
fields_test S len queue dest poisoned paid = range_test S len queue dest poisoned && eqb paid (price S.beat queue len)

unfoldable pub proper_test : Settings → Packet → Bool
proper_test S k = fields_test S k.len k.queue k.dest k.poisoned k.price

-- what a rule asks in the other lists
unfoldable pub rule_test : NodeRule → Settings → ℕ → ℕ → Packet → Bool
rule_test OwnPort S p c k = eqb (owner k.node) p
rule_test OwnQueue S p c k = eqb k.queue (queue_at S c)
rule_test Record S p c k = proper_test S k

-- does node x of list l pass
abbrev pub node_test : NodeRule → Settings → List ℕ → ℕ → ℕ → Bool
node_test rule S m l x = spared rule (l % row S) || rule_test rule S (l / row S) (l % row S) (packet_at S m x)

-- ---- the first that fails

unfoldable pub first_bad : (ℕ → Bool) → List ℕ → Option ℕ
first_bad t [] = None
first_bad t (x ∷ xs) = cond (t x) (first_bad t xs) (Some x)

abbrev pub or_else : Option ℕ → Option ℕ → Option ℕ
or_else None g = g
or_else (Some x) g = Some x

-- in list l
abbrev pub list_found : NodeRule → Settings → List ℕ → ℕ → Option ℕ
list_found rule S m l = first_bad (node_test rule S m l) (nodes_of S m l)

-- in the n lists from l on, and in all
unfoldable pub fits_from : NodeRule → Settings → List ℕ → ℕ → ℕ → Option ℕ
fits_from rule S m l zero = None
fits_from rule S m l (suc n) = or_else (list_found rule S m l) (fits_from rule S m (suc l) n)

unfoldable pub fits_found : NodeRule → Settings → List ℕ → Option ℕ
fits_found rule S m = fits_from rule S m 0 (lists S)
