-- What is asked of the number of bytes that arrive, alone or as a packet. Assumes nothing.
use Rattle.std.specs.Prelude.{Bool, false, not, ℕ, eqb, ltb}
use Rattle.ledger.specs.declared.Load.{Load}
use Rattle.ledger.specs.declared.Load.TheVariants.{Header, Packet}

-- n bytes don't fit where a header has `size`: `missized`, by the code's load
abbrev pub misfit : Load → ℕ → ℕ → Bool
misfit Header n size = not (eqb n size)
misfit (Packet room) n size = ltb n size

-- n bytes aren't those that the length counts: `miscounted`
abbrev pub other : Load → ℕ → ℕ → Bool
other Header n len = false
other (Packet room) n len = not (eqb n len)
