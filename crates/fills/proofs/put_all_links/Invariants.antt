-- What the loop of `fills::put_all_links` keeps: the links of the ports passed are made.
use Rattle.std.proofs.Common.{◌≡◌}
use Rattle.layout.specs.Shapes.{settings_of}
use Rattle.memory.specs.Image.{all_linked}
use Rattle.fills.proofs.put_all_links.Given as goal

abbrev pub invariant-loop-p : goal.invariant-loop-p
invariant-loop-p l = l.m ≡ all_linked (settings_of l.s) l.p l.initial.m
