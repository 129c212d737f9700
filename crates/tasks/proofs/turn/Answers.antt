-- `tasks::turn` meets its contract: refused, idle, or the picked queue's oldest packet departs. Assumes nothing.
use mathlib.Core.Path.{◌≡◌, refl, sym, ap, ◌∙◌}
use mathlib.Core.List.{List}
use Prim.Native.Nat.{ℕ}
use Rattle.ledger.specs.Buckets.{untimed}
use Rattle.ledger.specs.Ledger.{prefetched}
use Rattle.ledger.specs.Calls.{Reply, turn, entry, leaves, side_of}
use Rattle.ledger.specs.Rounds.{answer_bytes}
use Rattle.layout.specs.Shapes.{settings_of}
use Rattle.layout.specs.Picture.{packet_at}
use Rattle.memory.specs.Writes.{head_of, serve_mem}
use Rattle.memory.specs.Memory.{acted}
use Rattle.turns.proofs.Laws.{turn_leaves}
use Rattle.tasks.proofs.Laws.{turn_stale, turn_no_port, done_refused, done_idle, done_renewed, leaves_told}
use Rattle.tasks.proofs.turn.Goals as goal
use Rattle.tasks.proofs.turn.Goals.{After-depart-x}

pub returns-then-s-p : goal.returns-then-s-p
returns-then-s-p c =
    let a = c.args in
    done_refused a.s a.m.now a.words.now c.requires (turn untimed a.port) 4
    (turn_no_port (settings_of a.s) a.m.now a.port c.if-s-p.true) c.of_refusal.ensures

pub returns-then-word-eq0 : goal.returns-then-word-eq0
returns-then-word-eq0 c =
    let a = c.args in
    done_idle a.s a.m.now _ c.requires.works c.word_of-word.ensures.kept a.port c.if-s-p.false (sym c.word_of-word.ensures.value ∙ c.if-word-eq0.true)

-- what the turn is, where a packet departs
leaves_is : (d : After-depart-x) → let a = d.args in
    let S = settings_of a.s in
    let q = d.next_queue-q.result in
    let k = packet_at S a.m.now (head_of S a.m.now (prefetched a.port q)) in
    ◌≡◌ {A = Reply × List ℕ} (leaves k (side_of q), serve_mem S a.port q k a.m.now) (acted S a.m.now (turn untimed a.port))
leaves_is d =
    let a = d.args in
    turn_leaves (settings_of a.s) a.m.now a.port d.if-s-p.false d.requires.works.state (λ z. d.if-word-eq0.false (d.word_of-word.ensures.value ∙ z))
    d.next_queue-q.result d.next_queue-q.ensures.next _ _ _ refl refl refl

pub renew-requires : goal.renew-requires
renew-requires c =
    let a = c.args in
    let n = c.next_queue-q.ensures in
    turn_stale a.s a.m.now _ (record { works = c.requires.works; kept = c.word_of-word.ensures.kept }) a.port c.next_queue-q.result
    c.if-s-p.false n.can.queue n.next _ (c.depart-x.ensures.memory ∙ ap (λ (o : Reply × List ℕ). o.1) (leaves_is (goal.at.renew-requires c).After-depart-x))

pub returns : goal.returns
unfolding packet_at
returns c =
    let a = c.args in
    let q = c.next_queue-q.result in
    done_renewed a.s a.m.now c.requires.works (turn untimed a.port) (leaves _ (side_of q))
    (ap (λ (l : List ℕ). (leaves (packet_at (settings_of a.s) a.m.now (head_of (settings_of a.s) a.m.now (prefetched a.port q))) (side_of q), l))
    c.depart-x.ensures.memory ∙ leaves_is (goal.at.returns c).After-depart-x)
    (c.of_node.ensures ∙ ap (λ (x : ℕ). answer_bytes (entry x)) c.depart-x.ensures.node ∙ leaves_told _ q) c.renew.ensures
