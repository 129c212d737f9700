-- `turns::turn` meets its contract: refused, idle, or the picked queue's oldest packet leaves. Assumes nothing.
use mathlib.Core.Path.{◌∙◌}
use Rattle.layout.specs.Shapes.{settings_of}
use Rattle.turns.proofs.Laws.{turn_leaves}
use Rattle.turns.proofs.turn.Goals as goal

pub returns : goal.returns
returns c =
    let a = c.args in
    turn_leaves (settings_of a.s) a.m.now a.port c.if-s-p.false c.requires.state (λ z. c.if-word-eq0.false (c.ready_word-word.ensures ∙ z))
    c.next_queue-q.result c.next_queue-q.ensures.next _ _ _ c.serve-k.ensures.packet c.exit_of.ensures c.serve-k.ensures.memory
