-- What the parts of setup ask of their arguments, and what they leave beyond one fill. Assumes nothing.
use Rattle.std.specs.Prelude.{◌≡◌, List, ℕ, ◌-◌, ◌*◌, ◌≤◌, ◌<◌, length}
use Rattle.ledger.specs.Settings.{Settings, setting_count, row, size}
use Rattle.ledger.specs.Ledger.{entry_id}
use Rattle.layout.specs.declared.shape.Shape.{Shape}
use Rattle.layout.specs.declared.Table.TheVariants.{Setting, Last, Arrival, Head, Tail, Count}
use Rattle.layout.specs.Tables.{cells}
use Rattle.layout.specs.Shapes.{settings_of}
use Rattle.memory.specs.Image.{fill, setting_at, all_linked}

-- memory with room for a state of shape s
pub record Room (s : Shape) (m : List ℕ) : Type 0 where
  pub long : size (settings_of s) ≤ length m

-- what stands in R to a number below n is the number that f gives it, by the value of what stands there
abbrev pub Gives : {N : Type 0} → (N → ℕ) → (ℕ → N → Type 0) → ℕ → (ℕ → ℕ) → Type 0
Gives {N} value R n f = (i : ℕ) (r : N) → i < n → R i r → value r ≡ f i

-- the settings, the queue that each port served last, the credits: the first part of what setup writes
abbrev pub filled : Settings → List ℕ → List ℕ
filled S m =
    fill S Arrival (λ c. c) (λ c. S.credit) (cells S)
    (fill S Last (λ p. p) (λ p. S.queues - 1) S.ports
    (fill S Setting (λ i. i) (setting_at S) setting_count m))

-- of each port the free list with all its nodes: the last part of what setup writes
abbrev pub freed : Settings → List ℕ → List ℕ
freed S m =
    all_linked S S.ports
    (fill S Count (λ p. p * row S) (λ p. S.nodes) S.ports
    (fill S Tail (λ p. p * row S) (λ p. entry_id p (S.nodes - 1)) S.ports
    (fill S Head (λ p. p * row S) (λ p. entry_id p 0) S.ports m)))
