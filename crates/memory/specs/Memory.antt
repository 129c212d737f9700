-- What a call answers and leaves in memory, for every memory and every call: M. And the picture, by which a memory is a desk.
-- Assumes nothing.
use Rattle.std.specs.Prelude.{List, ℕ, length}
use Rattle.std.proofs.Math.Decide.{map_dec, dec_le, ℕ_discrete}
use Rattle.ledger.specs.Settings.{Settings, size}
use Rattle.ledger.specs.Rules.{guard}
use Rattle.ledger.specs.Calls.{Act, Reply, refused, done, rules, result}
use Rattle.ledger.specs.Desk.{Desk, none, has, Call, setup, act, setup_rules}
use Rattle.ledger.proofs.Decide.{and_dec, below_dec, sound_dec}
use Rattle.layout.specs.declared.Table.TheVariants.{Tail}
use Rattle.layout.specs.Tables.{lists, get}
use Rattle.layout.specs.Picture.{settings_in, nodes_of, ledger_in, last_d, Hangs, State}
use Rattle.memory.specs.Writes.{write, refused_mem}
use Rattle.memory.specs.Image.{setup_mem}

-- Whether a memory is a switch state can be decided. What is taken from proofs here adds nothing to believe: a decision of `State m` is a
-- proof of it or of its contrary, so `picture` shows a desk exactly where `State m` holds, whichever way the decision is made.
pub state_dec : (m : List ℕ) → Dec (State m)
state_dec m =
    let S = settings_in m in
    map_dec
    (λ t. record { long = t.0; hangs = t.1.0; sound = t.1.1 })
    (λ s. (s.long, (s.hangs, s.sound)))
    (and_dec (dec_le (size S) (length m))
    (and_dec (below_dec (Hangs S m) (lists S) (λ l. ℕ_discrete (last_d (nodes_of S m l) (get S m Tail l)) (get S m Tail l)))
    (sound_dec S (ledger_in S m))))

-- the desk that a memory pictures: none where it is no switch state
abbrev pub desk_of : (m : List ℕ) → Dec (State m) → Desk
desk_of m (yes s) = has (settings_in m) (ledger_in (settings_in m) m)
desk_of m (no n) = none

unfoldable pub picture : List ℕ → Desk
picture m = desk_of m (state_dec m)

-- an act on memory that is a switch state: refused as the desk's rules say on the ledger that it pictures, with what that writes; else done
unfoldable pub acted : Settings → List ℕ → Act → Reply × List ℕ
acted S m a = guard (rules S (ledger_in S m) a) (λ n. (refused n, refused_mem S n a m)) ((result S (ledger_in S m) a).0, write S m a)

-- on any memory: refusal 3 exactly where it is no switch state
abbrev pub tested : (m : List ℕ) → Dec (State m) → Act → Reply × List ℕ
tested m (yes s) a = acted (settings_in m) m a
tested m (no n) a = (refused 3, m)

-- every call, on every memory
unfoldable pub M : Call → List ℕ → Reply × List ℕ
M (setup T) m = guard (setup_rules (length m) T) (λ r. (refused r, m)) (done, setup_mem T m)
M (act a) m = tested m (state_dec m) a
