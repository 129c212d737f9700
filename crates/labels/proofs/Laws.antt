-- What the writer's answer leaves in a room. Assumes nothing.
use mathlib.Core.Path.{◌≡◌, refl}
use mathlib.Core.List.{List}
use Prim.Native.Nat.{ℕ}
use Rattle.std.specs.Prelude.{Result, Ok, Err}
use lib.ListN.{length, take}
use lib.Seq.{take_at}
use Rattle.ledger.specs.declared.Refusal.{Refusal}
use Rattle.codec.specs.Label.{Label, Answer, refused, gives}
use Rattle.codec.specs.Writer.{writes, padded, Answers}
use Rattle.codec.specs.declared.written.Written.{Written}
use Rattle.labels.specs.Labels.{header_room, written_room}

-- what the code leaves by it is what the answer says
pub answers_room : (w : Result Written Refusal) (a : Answer (List ℕ)) (old : List ℕ) (size : ℕ) → Answers w a
    → written_room w old size ≡ header_room a old size
answers_room (Ok w) (gives b) old size k = let front : take (length b) (padded b) ≡ b = take_at b _ (length b) refl in rw (k.size, k.bytes, front)
answers_room (Ok w) (refused n) old size k = absurd k
answers_room (Err r) (gives b) old size k = absurd k
answers_room (Err r) (refused n) old size k = rw k

module _ (e p q : ℕ) (v : Label) (w : Result Written Refusal) (k : Answers w (writes e p q v)) where
  pub writes_room : (old : List ℕ) (size : ℕ) → written_room w old size ≡ header_room (writes e p q v) old size
  writes_room old size = answers_room w (writes e p q v) old size k
