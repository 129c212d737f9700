-- The memory of a port among four, and a part of a memory: its bytes, and where they lie. Assumes nothing.
use Rattle.std.specs.Prelude.{List, [], map, ℕ, ◌+◌, min, length, get_or}
use Rattle.std.specs.Borrow.{Bor}
use Rattle.ledger.specs.Ledger.{owner}
use Rattle.ledger.specs.Calls.{Reply}
use Rattle.ledger.specs.Packets.{slot_at, bytes_at, part_or}

-- no memory: what stands past the end of a list of them
abbrev pub nowhere : Bor (List ℕ)
nowhere = record { ref_ptr = (0, 0); now = [] }

-- "the slice named by the entry id's port": there are four ports where packets are kept; beyond the fourth, the fourth
abbrev pub among : ℕ → List (Bor (List ℕ)) → Bor (List ℕ)
among p ks = get_or ks (min p 3) nowhere

-- how many bytes each of them has
abbrev pub sizes_of : List (Bor (List ℕ)) → List ℕ
sizes_of ks = map (λ (k : Bor (List ℕ)). length k.now) ks

-- "a part, never a copy": n bytes from byte `at` on, in the memory itself
abbrev pub part_of : Bor (List ℕ) → ℕ → ℕ → List ℕ × (ℕ × ℕ)
part_of k at n = (bytes_at at n k.now, (k.ref_ptr.0, k.ref_ptr.1 + at))

-- "answers a refusal with an empty part": at the start of the first memory
abbrev pub empty_of : Bor (List ℕ) → List ℕ × (ℕ × ℕ)
empty_of k = ([], k.ref_ptr)

-- what show hands back of the four memories where it is answered r
abbrev pub shown_of : Reply → List (Bor (List ℕ)) → List ℕ × (ℕ × ℕ)
shown_of r ks = part_or (empty_of (among 0 ks)) (λ x n. part_of (among (owner x) ks) (slot_at x) n) r
