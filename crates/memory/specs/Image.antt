-- What setup writes: every byte below the size, over anything; so memory after it is one image of its settings. Assumes nothing.
use Rattle.std.specs.Prelude.{List, ◌++◌, ℕ, zero, suc, ◌+◌, ◌-◌, ◌*◌, drop, replicate}
use Rattle.ledger.specs.Settings.{Settings, setting_count, size, row}
use Rattle.ledger.specs.Ledger.{entry_id}
use Rattle.layout.specs.declared.Table.{Table}
use Rattle.layout.specs.declared.Table.TheVariants.{Setting, Last, Arrival, Head, Tail, Count, Next}
use Rattle.layout.specs.Tables.{cells, put}

-- element g i of a table becomes f i, for each i below n, lowest first
unfoldable pub fill : Settings → Table → (ℕ → ℕ) → (ℕ → ℕ) → ℕ → List ℕ → List ℕ
fill S t g f zero m = m
fill S t g f (suc n) m = put S t (g n) (f n) (fill S t g f n m)

-- the settings, in their order
abbrev pub setting_at : Settings → ℕ → ℕ
setting_at S zero = S.ports
setting_at S (suc zero) = S.queues
setting_at S (suc (suc zero)) = S.nodes
setting_at S (suc (suc (suc zero))) = S.beat
setting_at S (suc (suc (suc (suc zero)))) = S.slots
setting_at S (suc (suc (suc (suc (suc zero))))) = S.credit
setting_at S (suc (suc (suc (suc (suc (suc zero)))))) = S.edition
setting_at S (suc (suc (suc (suc (suc (suc (suc i))))))) = S.packets

-- the links of port p's nodes, each to the next; the last has none
abbrev pub linked : Settings → ℕ → List ℕ → List ℕ
linked S p m = fill S Next (λ i. p * S.nodes + i) (λ i. entry_id p (suc i)) (S.nodes - 1) m

unfoldable pub all_linked : Settings → ℕ → List ℕ → List ℕ
all_linked S zero m = m
all_linked S (suc n) m = linked S n (all_linked S n m)

-- over zero bytes: the settings, the last served queues, the arrival credits, and of each port the free list with all its nodes
unfoldable pub written : Settings → List ℕ → List ℕ
written S m =
    all_linked S S.ports
    (fill S Count (λ p. p * row S) (λ p. S.nodes) S.ports
    (fill S Tail (λ p. p * row S) (λ p. entry_id p (S.nodes - 1)) S.ports
    (fill S Head (λ p. p * row S) (λ p. entry_id p 0) S.ports
    (fill S Arrival (λ c. c) (λ c. S.credit) (cells S)
    (fill S Last (λ p. p) (λ p. S.queues - 1) S.ports
    (fill S Setting (λ i. i) (setting_at S) setting_count m))))))

-- the bytes of a new state, and memory with them in front
unfoldable pub image : Settings → List ℕ
image S = written S (replicate (size S) 0)

unfoldable pub setup_mem : Settings → List ℕ → List ℕ
setup_mem S m = image S ++ drop (size S) m
