-- What waits in an output. Assumes nothing.
use Rattle.std.specs.Prelude.{List, ℕ, take}
use Rattle.output.specs.declared.Output.{Output}

-- the bytes that wait to be written
abbrev pub waiting_bytes : {W : Type 0} → Output W → List ℕ
waiting_bytes o = take o.waiting o.bytes
