-- The text of a line, byte for byte. Assumes nothing.
use Rattle.std.specs.Prelude.{List, [], ◌∷◌, ◌++◌, ℕ}
use Rattle.output.specs.Buffer.{decimal}
use Rattle.fields.specs.declared.Read.{Read}
use Rattle.fields.specs.declared.Read.TheVariants as read
use Rattle.orders.specs.declared.Said.{Said}
use Rattle.orders.specs.declared.Said.TheVariants.{Done, Node, Idle, No, Bad}

-- what stands after a line's number: `0`, `0 ` and an entry id, `0 idle`, a refusal's number, `bad`
unfoldable pub answer_text : Said → List ℕ
answer_text Done = 48 ∷ []
answer_text (Node x) = 48 ∷ 32 ∷ decimal x
answer_text Idle = 48 ∷ 32 ∷ 105 ∷ 100 ∷ 108 ∷ 101 ∷ []
answer_text (No n) = decimal n
answer_text Bad = 98 ∷ 97 ∷ 100 ∷ []

-- a line: its number, a space, the answer, and a line feed
unfoldable pub line_text : ℕ → Said → List ℕ
line_text n said = decimal n ++ (32 ∷ answer_text said) ++ (10 ∷ [])

-- what is no call: a bad field has a line, and the end has none
abbrev pub last_text : ℕ → Read → List ℕ
last_text n (read.Call order next) = []
last_text n read.Bad = line_text n Bad
last_text n read.End = []
