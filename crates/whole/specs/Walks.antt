-- What the functions of the walk ask and give. Assumes nothing.
use Rattle.std.specs.Prelude.{◌≡◌, Bool, true, List, [], ◌∷◌, ℕ, ◌+◌, ◌-◌, ◌*◌, ◌/◌, ◌%◌, ◌≤◌, ◌<◌, length, replicate, ltb, Option, MatchOption}
use Rattle.ledger.specs.Settings.{Settings, row, size}
use Rattle.ledger.specs.Ready.{bit}
use Rattle.numbers.specs.Bytes.{number}
use Rattle.layout.specs.declared.shape.Shape.{Shape}
use Rattle.layout.specs.declared.Table.TheVariants.{Count}
use Rattle.layout.specs.Tables.{cells, lists, get}
use Rattle.layout.specs.Shapes.{settings_of}
use Rattle.layout.specs.Picture.{nodes_of}
use Rattle.once.specs.Bits.{marks_in}
use Rattle.once.specs.Once.{mark_all}
use Rattle.once.specs.Walks.{Marks, Blank, Scanning}
use Rattle.fits.specs.declared.NodeRule.{NodeRule}
use Rattle.fits.specs.Fits.{fits_from, fits_found}
use Rattle.paid.specs.Paid.{add_list, add_from, sums_of}
use Rattle.paid.specs.Passes.{Sums}
use Rattle.nodes.specs.Passes.{Lent}
use Rattle.ranges.specs.Ranges.{few_in}
use Rattle.whole.specs.Whole.{Says, ListKept, Listed}

-- what the nodes of a list may add, before it is known that none stands twice: 2^32 prices of a byte
abbrev pub count_most : ℕ
count_most = 1095216660480

-- ---- what is lent

-- to list l of n nodes, which is port p's column c
pub record ListLent (s : Shape) (m bs sums : List ℕ) (l n p c : ℕ) : Type 0 where
  pub lent : Lent s m bs sums (count_most * l)
  pub inside : l < lists (settings_of s)
  pub count_is : n ≡ get (settings_of s) m Count l
  pub port_is : p ≡ l / row (settings_of s)
  pub column_is : c ≡ l % row (settings_of s)

-- how many marks are set
unfoldable pub set_marks : List ℕ → ℕ
set_marks [] = 0
set_marks (k ∷ ks) = bit (ltb 0 k) + set_marks ks

-- the walk stands at list l and has met n nodes: what is found in all lists is what is found from there on
pub record AtList (S : Settings) (m ms sums : List ℕ) (l n : ℕ) : Type 0 where
  pub scan : Scanning S m ms l
  pub met : set_marks ms ≡ n
  pub slots : (i : ℕ) → i < l → few_in S m i ≡ true
  pub fits : (rule : NodeRule) → fits_from rule S m l (lists S - l) ≡ fits_found rule S m
  pub add : add_from S m sums l (lists S - l) ≡ sums_of S m
  pub held : Sums S sums (count_most * l)

-- to port p, at its first list
pub record PortLent (s : Shape) (m bs sums : List ℕ) (p n : ℕ) : Type 0 where
  pub marks : Marks s bs
  pub long : size (settings_of s) ≤ length m
  pub inside : p < s.ports
  pub stands : AtList (settings_of s) m (marks_in (settings_of s) bs) sums (p * row (settings_of s)) n

-- and at first: no mark is set, and all sums are 0
pub record AllLent (s : Shape) (m bs sums : List ℕ) : Type 0 where
  pub blank : Blank s m bs
  pub zeros : sums ≡ replicate (cells (settings_of s)) 0

-- ---- what is given back, where the answer is yes

pub record ListPassed (S : Settings) (m : List ℕ) (l : ℕ) (ms sums ms' sums' : List ℕ) (r : Bool) : Type 0 where
  pub answer : Says (ListKept S m ms l) r
  pub marks : r ≡ true → ms' ≡ mark_all S ms (nodes_of S m l)
  pub added : r ≡ true → sums' ≡ add_list S m sums l
  pub held : r ≡ true → Sums S sums' (count_most * (l + 1))

-- of the counts from place a on, those from the c-th up to the d-th are 0
abbrev pub Empty : List ℕ → ℕ → ℕ → ℕ → Type 0
Empty m a c d = (k : ℕ) → c ≤ k → k < d → number 4 m (a + k * 4) ≡ 0

-- the first of n counts, from the c-th on, that is not
abbrev pub NextFilled : List ℕ → ℕ → ℕ → ℕ → Option ℕ → Type 0
NextFilled m a n c r = MatchOption r (Empty m a c n) (λ d. (c ≤ d) × (d < n) × (1 ≤ number 4 m (a + d * 4)) × Empty m a c d)

-- after port p the walk stands at the first list of the next, and has met n nodes; or some rule is broken
abbrev pub PortPassed : Settings → List ℕ → ℕ → List ℕ → List ℕ → Option ℕ → Type 0
PortPassed S m p ms sums r = MatchOption r (Listed S m → ⊥) (λ n. AtList S m ms sums ((p + 1) * row S) n)
