-- The number by which the test is told to C. Assumes nothing.
use Rattle.std.specs.Prelude.{ℕ, Result, Ok, Err}
use Rattle.ledger.specs.declared.Refusal.{Refusal}
use Rattle.ledger.specs.Answers.{number_of}
use Rattle.layout.specs.declared.shape.Shape.{Shape}

abbrev pub test_number : Result Shape Refusal → ℕ
test_number (Ok s) = 0
test_number (Err r) = number_of r
