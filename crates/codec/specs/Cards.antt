-- Headers of known bytes with their labels: a single table. The claim that they hold is that of proofs/Cards.antt. Assumes nothing.
use Rattle.std.specs.Prelude.{◌≡◌, List, [], ◌∷◌, ℕ}
use Rattle.ledger.specs.Settings.{ten_bytes, wide}
use Rattle.codec.specs.Label.{Label, refused, gives}
use Rattle.codec.specs.Reader.{reads}
use Rattle.codec.specs.Writer.{writes}

abbrev pub label : ℕ → ℕ → ℕ → ℕ → ℕ → ℕ → ℕ → ℕ → Label
label d s q l p t o x = record { dest = d; source = s; queue = q; len = l; poisoned = p; stamp = t; offered = o; transaction = x }

-- of an edition, so many ports and so many queues: a header and its label, each read and written from the other; or what is refused, by its
-- number
pub data Card : Type 0 where
  both : ℕ → ℕ → ℕ → Label → List ℕ → Card
  unread : ℕ → ℕ → ℕ → List ℕ → ℕ → Card
  unwritten : ℕ → ℕ → ℕ → Label → ℕ → Card

abbrev pub Holds : Card → Type 0
Holds (both e p q v h) = (reads e p q h ≡ gives v) × (writes e p q v ≡ gives h)
Holds (unread e p q h n) = reads e p q h ≡ refused n
Holds (unwritten e p q v n) = writes e p q v ≡ refused n

-- the ten-byte headers of paper 01's cards; the widest wide one; one whose ports and queues have a bit each; a source that its field holds and
-- the switch has not, which the reader takes; then each refusal
abbrev pub cards : List Card
cards =
    both ten_bytes 4 24 (label 0 0 0 12 0 0 0 0) (0 ∷ 0 ∷ 0x30 ∷ 0 ∷ 0 ∷ 0 ∷ 0 ∷ 0 ∷ 0 ∷ 0x72 ∷ [])
    ∷ both ten_bytes 4 24 (label 1 2 23 8191 0 0 0 0) (0x6B ∷ 0xFF ∷ 0xFC ∷ 0 ∷ 0 ∷ 0 ∷ 0 ∷ 0 ∷ 0 ∷ 0xA4 ∷ [])
    ∷ both wide 32 64 (label 31 17 63 8191 1 0x01020304 0xABCD 200) (0xFC ∷ 0x7F ∷ 0xFF ∷ 0xFC ∷ 1 ∷ 2 ∷ 3 ∷ 4 ∷ 0xAB ∷ 0xCD ∷ 200 ∷ 0x07 ∷ [])
    ∷ both wide 2 2 (label 1 0 1 13 1 0xFFFFFFFF 257 9) (0xA0 ∷ 0x0D ∷ 0x80 ∷ 0xFF ∷ 0xFF ∷ 0xFF ∷ 0xFF ∷ 1 ∷ 1 ∷ 9 ∷ 0x09 ∷ [])
    ∷ both wide 5 3 (label 7 6 2 13 0 0 0 0) (0xFA ∷ 0 ∷ 0x68 ∷ 0 ∷ 0 ∷ 0 ∷ 0 ∷ 0 ∷ 0 ∷ 0 ∷ 0xC8 ∷ [])
    ∷ unread ten_bytes 8 16 [] 2
    ∷ unread 2 4 24 [] 2
    ∷ unread wide 4 24 (0 ∷ 0 ∷ 0x30 ∷ 0 ∷ 0 ∷ 0 ∷ 0 ∷ 0 ∷ 0 ∷ 0x72 ∷ []) 6
    ∷ unread ten_bytes 4 24 (0 ∷ 0 ∷ 0x30 ∷ 0 ∷ 0 ∷ 0 ∷ 0 ∷ 0 ∷ 0 ∷ 0x73 ∷ []) 7
    ∷ unread ten_bytes 4 24 (0 ∷ 0 ∷ 0x31 ∷ 0 ∷ 0 ∷ 0 ∷ 0 ∷ 0 ∷ 0 ∷ 173 ∷ []) 20
    ∷ unread ten_bytes 4 24 (0 ∷ 0 ∷ 0 ∷ 0 ∷ 0 ∷ 0 ∷ 0 ∷ 0 ∷ 0 ∷ 0 ∷ []) 9
    ∷ unread ten_bytes 4 24 (12 ∷ 0 ∷ 0x30 ∷ 0 ∷ 0 ∷ 0 ∷ 0 ∷ 0 ∷ 0 ∷ 80 ∷ []) 19
    ∷ unwritten wide 33 64 (label 0 0 0 14 0 0 0 0) 2
    ∷ unwritten wide 4 24 (label 4 0 0 13 0 0 0 0) 21
    ∷ unwritten wide 4 24 (label 0 0 0 12 0 0 0 0) 21
    ∷ unwritten wide 4 24 (label 0 0 24 13 0 0 0 0) 21
    ∷ []
