-- The audit on memory: audit_on, the function that its contract names. Block by block it is what where answers. Assumes nothing.
use Rattle.std.specs.Prelude.{◌≡◌, List, [], ◌++◌, ℕ, zero, suc, ◌+◌, ◌*◌, ◌≤◌, ◌<◌, length, get_or, take, drop}
use Rattle.ledger.specs.Settings.{Settings}
use Rattle.ledger.specs.Rules.{guard}
use Rattle.ledger.specs.Ledger.{entry_id, place_of, Ledger}
use Rattle.ledger.specs.Calls.{where_is, Reply, refused, done, found, position, which}
use Rattle.ledger.specs.Desk.{has, act}
use Rattle.ledger.specs.Audit.{place_bytes, place_room, node_at, audit_rules}
use Rattle.layout.specs.Tables.{all}
use Rattle.layout.specs.Picture.{settings_in, State}
use Rattle.memory.specs.Memory.{state_dec, picture, acted, M}

-- block i of a room
abbrev pub block : ℕ → List ℕ → List ℕ
block i room = take 8 (drop (8 * i) room)

-- f 0, then f 1, and so on below n
abbrev pub joined : (ℕ → List ℕ) → ℕ → List ℕ
joined f zero = []
joined f (suc n) = joined f n ++ f n

-- block i once it is answered where node number i stands
unfoldable pub place_told : Settings → List ℕ → List ℕ → ℕ → List ℕ
place_told S m room i = place_room (node_at S i) (acted S m (where_is (node_at S i))).0 (block i room)

-- an audit of a memory that is a switch state: the answer, and what it leaves of the room
unfoldable pub audited : Settings → List ℕ → List ℕ → Reply × List ℕ
audited S m room =
    guard (audit_rules S (length room)) (λ n. (refused n, room)) (done, joined (place_told S m room) (all S) ++ drop (8 * all S) room)

abbrev pub audit_tested : (m : List ℕ) → Dec (State m) → List ℕ → Reply × List ℕ
audit_tested m (yes s) room = audited (settings_in m) m room
audit_tested m (no n) room = (refused 3, room)

-- of any memory, into any room
unfoldable pub audit_on : List ℕ → List ℕ → Reply × List ℕ
audit_on m room = audit_tested m (state_dec m) room

-- ---- what the night crew reads

-- Of node i of port p, which stands in list l at position j: that is what `where` answers, and what the node's eight bytes tell.
unfoldable pub AuditTells : Type 0
AuditTells =
    (m room : List ℕ) (S : Settings) (L : Ledger) (p i : ℕ) → picture m ≡ has S L → 8 * all S ≤ length room → p < S.ports → i < S.nodes
    → let y = entry_id p i in
    let l = which y L.lists in
    let j = position y (get_or L.lists l []) in
    ((M (act (where_is y)) m).0 ≡ found (place_of S l) j) × (block (p * S.nodes + i) (audit_on m room).1 ≡ place_bytes y (place_of S l) j)
