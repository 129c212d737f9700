-- What a field's line says and leaves; with no code. Assumes nothing.
use mathlib.Core.Path.{◌≡◌, refl, ap}
use mathlib.Core.Bool.{true, false}
use mathlib.Core.List.{List}
use Prim.Native.Nat.{ℕ}
use Rattle.memory.specs.Memory.{M}
use Rattle.output.specs.Buffer.{queued}
use Rattle.fields.specs.declared.Order.{Order}
use Rattle.fields.specs.declared.Read.{Read}
use Rattle.fields.specs.declared.Read.TheVariants as reads
use Rattle.fields.specs.Orders.{header_in, call_in}
use Rattle.orders.specs.Orders.{carried}
use Rattle.bench.specs.Lines.{line_text, last_text}
use Rattle.bench.specs.Steps.{answered}
use Rattle.orders.specs.declared.Said.{Said}

-- what is no call ends the run
abbrev pub NoCall : Read → Type 0
NoCall read = (order : Order) (next : ℕ) → read ≡ reads.Call order next → ⊥

pub ends :
    (s : List ℕ) (from n : ℕ) (m w : List ℕ) {read found : Read} {w' : List ℕ}
    → read ≡ found → w' ≡ queued w (last_text n read) → NoCall read → (m, w', false, from) ≡ answered s from n m w found
ends s from n m w {read} e line none = rw (line, ← e) (go read none)
  where
    go : (read : Read) → NoCall read → (m, queued w (last_text n read), false, from) ≡ answered s from n m w read
    go (reads.Call order next) none = absurd (none order next refl)
    go reads.Bad none = refl
    go reads.End none = refl

-- a call is carried out, and the run goes on after its field
pub goes :
    (s : List ℕ) (from n : ℕ) (m w : List ℕ) {read : Read} {order : Order} {next : ℕ} {h m' w' : List ℕ} {said : Said}
    → read ≡ reads.Call order next → h ≡ header_in s order → (said, m') ≡ carried (M (call_in order h) m) → w' ≡ queued w (line_text n said)
    → (m', w', true, next) ≡ answered s from n m w read
goes s from n m w {next = next} e header call line =
    rw (e, line) (ap (λ (out : Said × List ℕ). (out.1, queued w (line_text n out.0), true, next)) (rw header at call))

-- what is no bad field has no last line
pub no_line : (w : List ℕ) (n : ℕ) (read : Read) → (read ≡ reads.Bad → ⊥) → w ≡ queued w (last_text n read)
no_line w n (reads.Call order next) other = refl
no_line w n reads.Bad other = absurd (other refl)
no_line w n reads.End other = refl
