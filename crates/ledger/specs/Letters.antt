-- The rules of soundness by their letters, as a finding tells them. Assumes nothing.
use Rattle.std.specs.Prelude.{ℕ}
use Rattle.ledger.specs.declared.Rule.{Rule}
use Rattle.ledger.specs.declared.Rule.TheVariants.{A, B, C, D, E, F, G, I}

-- (h) comes with a later request, and keeps its number
abbrev pub letter# : Rule → ℕ
letter# A = 1
letter# B = 2
letter# C = 3
letter# D = 4
letter# E = 5
letter# F = 6
letter# G = 7
letter# I = 9
