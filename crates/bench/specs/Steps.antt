-- What one step of the run leaves. Assumes nothing.
use Rattle.std.specs.Prelude.{◌≡◌, Bool, true, false, List, ℕ, take}
use Rattle.memory.specs.Memory.{M}
use Rattle.output.specs.Buffer.{queued}
use Rattle.fields.specs.Calls.{order_at}
use Rattle.fields.specs.declared.Read.{Read}
use Rattle.fields.specs.declared.Read.TheVariants.{Call, Bad, End}
use Rattle.input.specs.Inputs.{Kept}
use Rattle.fields.specs.Orders.{header_in, call_in}
use Rattle.orders.specs.Orders.{carried}
use Rattle.bench.specs.Lines.{line_text, last_text}
use Rattle.input.specs.declared.Input.{Input}

-- after what was read at place `from` of the bytes s: the memory and the bytes that wait, which were m and w; whether the run goes on; and where
abbrev pub answered : List ℕ → ℕ → ℕ → List ℕ → List ℕ → Read → List ℕ × List ℕ × Bool × ℕ
answered s from n m w (Call order next) =
    let out = carried (M (call_in order (header_in s order)) m) in
    (out.1, queued w (line_text n out.0), true, next)
answered s from n m w Bad = (m, queued w (last_text n Bad), false, from)
answered s from n m w End = (m, queued w (last_text n End), false, from)

-- a step by line n, on a memory m, an input i and the bytes w that wait: those of the input that were not used stay at the front, at place
-- `from`, and the field there is answered; then the run goes on or not
pub record Stepped {R : Type 0} (n : ℕ) (m : List ℕ) (i : Input R) (w : List ℕ) (going : Bool) (m' : List ℕ) (i' : Input R) (w' : List ℕ) : Type 0 where
  pub from : ℕ
  pub kept : Kept i.bytes i.from i.to i'.bytes from i'.to
  pub left : (m', w', going, i'.from) ≡ answered (take i'.to i'.bytes) from n m w (order_at (take i'.to i'.bytes) from)
