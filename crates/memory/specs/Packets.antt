-- Paper 02, Q-1: an arrival of a whole packet on memory, with the packet memory that is lent for it: packet_on, the function that its contract
-- names. Assumes nothing.
use Rattle.std.specs.Prelude.{List, ℕ, length}
use Rattle.ledger.specs.Header.{whole}
use Rattle.ledger.specs.Calls.{Reply, arrive}
use Rattle.ledger.specs.Desk.{act}
use Rattle.ledger.specs.Packets.{kept_in}
use Rattle.memory.specs.Memory.{M}

-- packet b arrives at port p, whose packet memory is k: the answer, and what is left of the memory m and of k
unfoldable pub packet_on : List ℕ → List ℕ → ℕ → List ℕ → Reply × List ℕ × List ℕ
packet_on m k p b =
    let out = M (act (arrive p (whole (length k) b))) m in
    (out.0, out.1, kept_in out.0 b k)
