-- A line, byte for byte.
use Rattle.std.proofs.Common.{◌≡◌, refl, [], ◌∷◌}
use Rattle.output.specs.Buffer.{decimal}
use Rattle.bench.specs.Lines.{answer_text, line_text}
use Rattle.orders.specs.declared.Said.TheVariants.{Node}

-- `10 0 6149` and a line feed
pub line_card : line_text 10 (Node 6149) ≡ 49 ∷ 48 ∷ 32 ∷ 48 ∷ 32 ∷ 54 ∷ 49 ∷ 52 ∷ 57 ∷ 10 ∷ []
unfolding line_text answer_text decimal
line_card = refl
