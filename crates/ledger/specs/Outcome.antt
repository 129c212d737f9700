-- What it is for a contract to leave no choice. Assumes nothing.
use Rattle.std.specs.Prelude.{◌≡◌}
use contract.Lifetimes.{Lfts}
use denote.Triple.Entry.{Args, Res}
use denote.Triple.Clauses.{Ended, Lasts, AtExit, at_exit}

-- which answers, and which values of its parameters at exit, a contract allows a function at its arguments
abbrev pub Contract : Ended → Type 1
Contract T = (κs : Lfts T.signature.lifetimes) → Args T.signature κs → Res T.signature κs → AtExit T κs → Type 0

-- any two outcomes that it allows are identical: the answers, and what is left in each thing that was lent for writing, the memory and the rooms
abbrev pub OneOutcome : (T : Ended) → Contract T → Type 0
OneOutcome T Allows =
    (κs : Lfts T.signature.lifetimes) (a : Args T.signature κs) (r r₂ : Res T.signature κs) (left left₂ : Lasts T κs a)
    → Allows κs a r (at_exit T κs a left)
    → Allows κs a r₂ (at_exit T κs a left₂)
    → (r ≡ r₂) × (left ≡ left₂)
