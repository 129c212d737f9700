-- Cards for the finding: the smallest switch, and for each rule bytes that break it, as one table. docs/FINDINGS.md has more of them, which
-- the host tests run. The claim that they hold is that of proofs/Cards.antt. Assumes nothing.
use Rattle.std.specs.Prelude.{◌≡◌, List, [], ◌∷◌, ◌++◌, ℕ, set, take, Option, None, Some}
use Rattle.ledger.specs.declared.Broken.{Broken}
use Rattle.ledger.specs.declared.Rule.TheVariants.{A, B, C, D, E, F, G, I}
use Rattle.ledger.specs.Settings.{Settings, wide}
use Rattle.memory.specs.Image.{image}
use Rattle.sound.specs.Sound.{breaks, broken_in}

-- bytes, and what is found of them
abbrev pub Card : Type 0
Card = List ℕ × Option Broken

abbrev pub Holds : Card → Type 0
Holds c = broken_in c.0 ≡ c.1

-- bytes changed one after another: the place, and what is put there
abbrev pub with : List (ℕ × ℕ) → List ℕ → List ℕ
with [] m = m
with (c ∷ cs) m = with cs (set m c.0 c.1)

-- two ports of two queues and one node, beat 64, one slot, credit 16
abbrev pub smallest : Settings
smallest = record { ports = 2; queues = 2; nodes = 1; beat = 64; slots = 1; credit = 16; edition = wide; packets = 0 }

-- as setup leaves it
abbrev pub fresh : List ℕ
fresh = image smallest

-- port 1's node in port 0's egress list of queue 1: 13 bytes long, of queue 1, price 1, for which port 1's arrival credit is 15
abbrev pub sent : List ℕ
sent = with ((4463, 0) ∷ (4394, 8) ∷ (4418, 8) ∷ (4451, 1) ∷ (4491, 13) ∷ (4501, 1) ∷ (4509, 1) ∷ (4119, 15) ∷ []) fresh

abbrev pub tables : List Card
tables =
    -- a beat of 96, and nine slots; too short for the state
    (with ((7, 96) ∷ (9, 9) ∷ []) fresh, Some (breaks A 3))
    ∷ (take 4509 fresh, Some (breaks A 8))
    -- port 0's last served queue; a prefetch list of two where there is one slot
    ∷ (with ((4112, 200) ∷ []) fresh, Some (breaks B 0))
    ∷ (with ((4455, 2) ∷ []) fresh, Some (breaks B 4098))
    -- a head that is no node; a node in no list
    ∷ (with ((4401, 1) ∷ []) fresh, Some (breaks C 6))
    ∷ (with ((4439, 0) ∷ []) fresh, Some (breaks C 12))
    ∷ []

abbrev pub packets : List Card
packets =
    -- the nodes of ports 0 and 1 in each other's free list
    (with ((4388, 8) ∷ (4412, 8) ∷ (4400, 0) ∷ (4424, 0) ∷ []) fresh, Some (breaks D 2048))
    -- of the packet in queue 1: another queue, a price of 2, a credit that wasn't spent; and as it is
    ∷ (with ((4501, 0) ∷ []) sent, Some (breaks E 2048))
    ∷ (with ((4509, 2) ∷ []) sent, Some (breaks F 2048))
    ∷ (with ((4119, 16) ∷ []) sent, Some (breaks G 1))
    ∷ (sent, None)
    ∷ []

abbrev pub marks_buckets : List Card
marks_buckets =
    -- port 1 with a mark that is none; ports 0 and 1 halted by 7 and 18
    (with ((4114, 7) ∷ (4115, 1) ∷ []) fresh, Some (breaks I 1))
    ∷ (with ((4114, 7) ∷ (4115, 18) ∷ []) fresh, None)
    -- any bytes are a bucket: port 0's first at its stop, and some in port 1's last
    ∷ (with ((4124, 255) ∷ (4125, 255) ∷ (4126, 255) ∷ (4127, 255) ∷ (4384, 1) ∷ (4387, 200) ∷ []) fresh, None)
    ∷ []

abbrev pub cards : List Card
cards = tables ++ (packets ++ marks_buckets)
