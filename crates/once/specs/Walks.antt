-- What the walks ask and give. Assumes nothing.
use Rattle.std.specs.Prelude.{◌≡◌, Bool, true, List, ℕ, ◌-◌, ◌*◌, ◌≤◌, ◌<◌, length, replicate, eqb}
use Rattle.ledger.specs.Settings.{Settings, size}
use Rattle.layout.specs.declared.shape.Shape.{Shape}
use Rattle.layout.specs.Tables.{lists, all}
use Rattle.layout.specs.Shapes.{settings_of}
use Rattle.layout.specs.Picture.{nodes_of}
use Rattle.once.specs.Bits.{mark_at, set_mark, marks_in}
use Rattle.once.specs.Once.{is_new, mark, mark_all, right, scan, once_found}

-- ---- of marks, their bytes

-- there is one for each node
pub record Marks (s : Shape) (bs : List ℕ) : Type 0 where
  pub room : all (settings_of s) ≤ 8 * length bs

-- and the memory is long enough, and has a list l
pub record Walkable (s : Shape) (m bs : List ℕ) (l : ℕ) : Type 0 where
  pub marks : Marks s bs
  pub long : size (settings_of s) ≤ length m
  pub here : l < lists (settings_of s)

-- the memory is long enough, and no mark is set
pub record Blank (s : Shape) (m bs : List ℕ) : Type 0 where
  pub marks : Marks s bs
  pub long : size (settings_of s) ≤ length m
  pub clear : marks_in (settings_of s) bs ≡ replicate (all (settings_of s)) 0

-- whether the mark of element i was clear, and the bytes where that is so
pub record Fresh (bs : List ℕ) (i : ℕ) (bs' : List ℕ) (r : Bool) : Type 0 where
  pub answer : r ≡ eqb (mark_at bs i) 0
  pub after : r ≡ true → bs' ≡ set_mark bs i

-- ---- of marks, what they say

-- the walk stands at list l: what is found in all lists is what is found from there on
pub record Scanning (S : Settings) (m ms : List ℕ) (l : ℕ) : Type 0 where
  pub most : l ≤ lists S
  pub fits : length ms ≡ all S
  pub answer : once_found S m ≡ scan S m ms l (lists S - l)

-- whether a node was new, and a list right; and the marks where that is so
pub record Met (s : Shape) (ms : List ℕ) (x : ℕ) (ms' : List ℕ) (r : Bool) : Type 0 where
  pub answer : r ≡ is_new (settings_of s) ms x
  pub after : r ≡ true → ms' ≡ mark (settings_of s) ms x

pub record Walked (s : Shape) (m ms : List ℕ) (l : ℕ) (ms' : List ℕ) (r : Bool) : Type 0 where
  pub answer : r ≡ right (settings_of s) m ms l
  pub after : r ≡ true → ms' ≡ mark_all (settings_of s) ms (nodes_of (settings_of s) m l)
