-- What the loop of `repairs::put_back` keeps: the entries passed are in their places.
use Rattle.std.proofs.Common.{◌≡◌, get_or}
use Rattle.layout.specs.declared.Table.TheVariants.{Mapped}
use Rattle.layout.specs.Shapes.{settings_of}
use Rattle.memory.specs.Image.{fill}
use Rattle.repairs.proofs.put_back.Given as goal

abbrev pub invariant-loop-i : goal.invariant-loop-i
invariant-loop-i l = l.m ≡ fill (settings_of l.s) Mapped (λ k. k) (λ k. get_or l.map k 0) l.i l.initial.m
