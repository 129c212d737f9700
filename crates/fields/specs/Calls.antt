-- The call that the field at a place tells. Assumes nothing.
use Rattle.std.specs.Prelude.{cond, List, [], ◌∷◌, Option, Some, None, ℕ, zero, suc, ◌+◌, ◌≡◌, eqb, get_or}
use Rattle.numbers.specs.Bytes.{number}
use Rattle.fields.specs.Field.{field_at}
use Rattle.fields.specs.declared.Field.{Field}
use Rattle.fields.specs.declared.Field.TheVariants as field
use Rattle.fields.specs.declared.Order.{Order}
use Rattle.fields.specs.declared.Order.TheVariants.{Setup, Arrive, Stitch, Prefetch, Turn, Credit, Map}
use Rattle.fields.specs.declared.Read.{Read}
use Rattle.fields.specs.declared.Read.TheVariants.{Call, Bad, End}
use Rattle.fields.specs.declared.Tag.{Tag}
use Rattle.fields.specs.declared.Tag.TheVariants as tags

-- a tag's number
abbrev pub tag# : Tag → ℕ
tag# tags.Setup = 1
tag# tags.Arrive = 2
tag# tags.Stitch = 3
tag# tags.Prefetch = 4
tag# tags.Turn = 5
tag# tags.Credit = 6
tag# tags.Map = 7

-- a number is none of 1 to k, in the form that a match leaves
abbrev pub NoneTo : ℕ → ℕ → Type 0
NoneTo zero n = Unit
NoneTo (suc k) n = NoneTo k n × (n ≡ suc k → ⊥)

-- the tag that a number is; none, where it is no tag's
abbrev pub Tells : ℕ → Option Tag → Type 0
Tells n (Some t) = n ≡ tag# t
Tells n None = NoneTo 7 n

-- a setup and a credit, from the value at v
abbrev pub setup_at : List ℕ → ℕ → Order
setup_at s v = Setup (number 2 s v) (number 2 s (v + 2)) (number 1 s (v + 4)) (number 2 s (v + 5))

abbrev pub credit_at : List ℕ → ℕ → Order
credit_at s v = Credit (number 1 s v) (number 1 s (v + 1)) (number 2 s (v + 2))

-- how many bytes the value of each tag has, from tag 1 on
abbrev pub sizes : List ℕ
sizes = 7 ∷ 11 ∷ 1 ∷ 2 ∷ 1 ∷ 4 ∷ 2 ∷ []

-- for another tag the number decides nothing
unfoldable pub size_of : ℕ → ℕ
size_of tag = get_or (0 ∷ sizes) tag 0

-- the call of each tag, from tag 1 on: its value starts at v, and its field ends before next
abbrev pub calls : List ℕ → ℕ → ℕ → List Read
calls s v next =
    Call (setup_at s v) next
    ∷ Call (Arrive (number 1 s v) (v + 1)) next
    ∷ Call (Stitch (number 1 s v)) next
    ∷ Call (Prefetch (number 1 s v) (number 1 s (v + 1))) next
    ∷ Call (Turn (number 1 s v)) next
    ∷ Call (credit_at s v) next
    ∷ Call (Map (number 1 s v) (number 1 s (v + 1))) next
    ∷ []

-- another tag is bad
unfoldable pub call_of : List ℕ → ℕ → ℕ → ℕ → Read
call_of s tag v next = get_or (Bad ∷ calls s v next) tag Bad

-- a whole field tells its tag's call if its value has the right length
abbrev pub whole_told : List ℕ → ℕ → ℕ → ℕ → ℕ → Read
whole_told s tag v len next = cond (eqb len (size_of tag)) (call_of s tag v next) Bad

abbrev pub told_by : List ℕ → Field → Read
told_by s (field.Whole tag v len next) = whole_told s tag v len next
told_by s field.Cut = Bad
told_by s field.End = End

abbrev pub order_at : List ℕ → ℕ → Read
order_at s at = told_by s (field_at s at)
