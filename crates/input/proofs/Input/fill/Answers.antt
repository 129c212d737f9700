use Rattle.std.proofs.Common.{rules}
use Rattle.input.proofs.Laws.{still_front, read_more, none_lost_on}
use Rattle.input.proofs.Input.fill.Goals as goal

pub loop-self-preserved : goal.loop-self-preserved
loop-self-preserved g c =
    let before = c.loop-self.invariant in
    let on = c.read.ensures in
    record {
      at_front = search rules;
      past = search rules;
      front = search (rules, still_front);
      read = read_more _ _ _ _ _ _ _ _ before.past (search rules) on.kept.1 before.read on.read;
    }

pub returns-else-self-lt-LONGEST-clause-read : goal.returns-else-self-lt-LONGEST-clause-read
returns-else-self-lt-LONGEST-clause-read g c = search (rules, none_lost_on)

pub returns-after-loop-self-clause-read : goal.returns-after-loop-self-clause-read
returns-after-loop-self-clause-read g c = search (rules, none_lost_on)
