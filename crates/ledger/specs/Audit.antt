-- Paper 02, Q-11: the audit of the night crew, eight bytes for each node's place; and where, whose eight bytes they are. Assumes nothing.
use Rattle.std.specs.Prelude.{List, [], ◌∷◌, ℕ, ◌*◌, ◌/◌, ◌%◌, ltb}
use Rattle.ledger.specs.Settings.{Settings}
use Rattle.ledger.specs.Rules.{Rule, refuse, guard}
use Rattle.ledger.specs.Ledger.{entry_id, Place, port_of, kind_in, queue_in}
use Rattle.ledger.specs.Calls.{Reply, refused, done, entry, stitched, idle, leaves, word, found, reported, counted, part}
use Rattle.ledger.specs.Desk.{Desk, none, has}

-- ---- where: eight bytes

-- entry id (2), list kind (1), port (1), queue or 0 (1), zero (1), position (2)
unfoldable pub place_bytes : ℕ → Place → ℕ → List ℕ
place_bytes y v i = y / 256 ∷ y % 256 ∷ kind_in v ∷ port_of v ∷ queue_in v ∷ 0 ∷ i / 256 ∷ i % 256 ∷ []

-- eight bytes that were lent, once it is answered where node y stands
abbrev pub place_room : ℕ → Reply → List ℕ → List ℕ
place_room y (refused n) old = old
place_room y done old = old
place_room y (entry x) old = old
place_room y (stitched b) old = old
place_room y idle old = old
place_room y (leaves k s) old = old
place_room y (word w n) old = old
place_room y (found v i) old = place_bytes y v i
place_room y (reported n) old = old
place_room y (counted n) old = old
place_room y (part x n) old = old

-- ---- the audit

-- node number i of all, "port by port and index by index"
abbrev pub node_at : Settings → ℕ → ℕ
node_at S i = entry_id (i / S.nodes) (i % S.nodes)

-- with n bytes lent: "refusal 27 if the lent room is shorter"
abbrev pub audit_rules : Settings → ℕ → List Rule
audit_rules S n = refuse 27 (ltb n (8 * (S.ports * S.nodes))) ∷ []

-- 3 comes first
abbrev pub audit_reply : Desk → ℕ → Reply
audit_reply none n = refused 3
audit_reply (has S L) n = guard (audit_rules S n) refused done
