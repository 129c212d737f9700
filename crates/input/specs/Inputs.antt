-- What is read of the input and not used yet. Assumes nothing.
use Rattle.std.specs.Prelude.{◌≡◌, ◌⊎◌, List, ℕ, ◌+◌, ◌-◌, ◌≤◌, take, drop}
use Rattle.std.specs.declared.option.Option.{Option}
use Rattle.std.specs.Io.KnownBytes.{Keeps, prepend_known}

-- the bytes from place `from` up to place `to`
abbrev pub unread : List ℕ → ℕ → ℕ → List ℕ
unread bytes from to = take (to - from) (drop from bytes)

-- they stand where they stood, and nothing was read; or they stand in front, and those up to `to'` that come after them were read
pub record Kept (bytes : List ℕ) (from to : ℕ) (bytes' : List ℕ) (from' to' : ℕ) : Type 0 where
  pub place : ((from' ≡ from) × (to' ≡ to)) ⊎ (from' ≡ 0)
  pub more : from' + (to - from) ≤ to'
  pub front : take (to - from) (drop from' bytes') ≡ unread bytes from to

-- the bytes not used yet, and then those that the reader has left, are as they were, where those are known
abbrev pub IsNoneLost : List ℕ → Option (List ℕ) → List ℕ → Option (List ℕ) → Type 0
IsNoneLost bytes left bytes' left' = Keeps (prepend_known bytes left) (prepend_known bytes' left')
