-- Where of a number past every entry id, with no code. Assumes nothing.
use mathlib.Core.Path.{◌≡◌, refl}
use mathlib.Core.List.{List}
use Prim.Native.Nat.{ℕ, ◌<◌}
use Rattle.ledger.specs.Audit.{place_room}
use Rattle.ledger.specs.Calls.{refused, where_is}
use Rattle.ledger.specs.Desk.{act}
use Rattle.layout.specs.Picture.{settings_in, State}
use Rattle.memory.specs.Memory.{state_dec, tested, M}
use Rattle.memory.specs.Judged.{judged}
use Rattle.memory.proofs.Judged.{acted_bad}
use Rattle.memory.proofs.Demands.{off_state}
use Rattle.switch.proofs.Laws.{no_node}

-- where is refused: 15, but 3 first
beyond : (m : List ℕ) (y : ℕ) → 65535 < y → (State m → M (act (where_is y)) m ≡ (refused 15, m)) × ((State m → ⊥) → M (act (where_is y)) m ≡ (refused 3, m))
unfolding M
beyond m y k = (λ s. go s (state_dec m), λ n. off_state m n (where_is y))
  where
    go : State m → (d : Dec (State m)) → tested m d (where_is y) ≡ (refused 15, m)
    go s (yes t) = acted_bad (settings_in m) m (where_is y) refl 15 (unfold judged in rw (no_node (settings_in m) t.sound.rows y k))
    go s (no n) = absurd (n s)

-- so the room stays, whichever id it is asked for
pub room_stays : (m old : List ℕ) (x y : ℕ) → 65535 < y → place_room x (M (act (where_is y)) m).0 old ≡ place_room y (M (act (where_is y)) m).0 old
room_stays m old x y h = go (state_dec m)
  where
    go : Dec (State m) → place_room x (M (act (where_is y)) m).0 old ≡ place_room y (M (act (where_is y)) m).0 old
    go (yes s) = rw ((beyond m y h).0 s)
    go (no n) = rw ((beyond m y h).1 n)
