-- `sound::nodes_broken` meets its contract: a rule that finds nothing leaves the answer to the next. Assumes nothing.
use mathlib.Core.Path.{◌≡◌, refl, sym, ◌∙◌}
use Prim.Native.Nat.{ℕ}
use Rattle.std.specs.Prelude.{Option, None}
use Rattle.layout.specs.Shapes.{settings_of}
use Rattle.fits.specs.declared.NodeRule.{NodeRule}
use Rattle.fits.specs.declared.NodeRule.TheVariants.{OwnPort, OwnQueue, Record}
use Rattle.fits.specs.Fits.{fits_found}
use Rattle.sound.specs.Sound.{nodes_broken}
use Rattle.sound.proofs.Means.{by_rule}
use Rattle.sound.proofs.Walks.{from_there, walkable, not_stuck}
use Rattle.sound.proofs.nodes_broken.Goals as goal
use Rattle.sound.proofs.nodes_broken.Goals.{In_default, In_default-fits, Start}

-- what each rule has found there
abbrev found : Start → NodeRule → Option ℕ
found b rule = fits_found rule (settings_of b.args.s) b.args.m.now

own_port : (c : In_default) → found (goal.at.In_default c).Start OwnPort ≡ None
own_port c = sym (c.fits.ensures ∙ from_there c.requires refl OwnPort) ∙ c.in_default.is

own_queue : (c : In_default-fits) → found (goal.at.In_default-fits c).Start OwnQueue ≡ None
own_queue c = sym (c.fits-2.ensures ∙ from_there c.requires refl OwnQueue) ∙ c.in_default-fits.is

pub fits-requires : goal.fits-requires
fits-requires c = walkable c.requires

pub returns-in-Some : goal.returns-in-Some
unfolding nodes_broken
returns-in-Some c = rw (c.breaks.ensures, sym (c.fits.ensures ∙ from_there c.requires refl OwnPort) ∙ c.in-Some.is)

pub fits-requires-2 : goal.fits-requires-2
fits-requires-2 c = walkable c.requires

pub returns-in-Some-fits : goal.returns-in-Some-fits
unfolding nodes_broken
returns-in-Some-fits c =
    let told = sym (c.fits-2.ensures ∙ from_there c.requires refl OwnQueue) ∙ c.in-Some-fits.is in
    rw (c.breaks-in-Some-fits.ensures, own_port (goal.at.returns-in-Some-fits c).In_default, told)

pub fits-requires-3 : goal.fits-requires-3
fits-requires-3 c = walkable c.requires

pub returns-in-Some-fits-2 : goal.returns-in-Some-fits-2
unfolding nodes_broken
returns-in-Some-fits-2 c =
    rw (
      c.breaks-in-Some-fits-2.ensures,
      own_port (goal.at.returns-in-Some-fits-2 c).In_default,
      own_queue (goal.at.returns-in-Some-fits-2 c).In_default-fits,
      sym (c.fits-3.ensures ∙ from_there c.requires refl Record) ∙ c.in-Some-fits-2.is,
    )

-- one of them has found something
pub returns : goal.returns
returns c =
    let r = sym (c.fits-3.ensures ∙ from_there c.requires refl Record) ∙ c.in_default-fits-2.is in
    absurd (not_stuck c.requires (by_rule _ _ (own_port (goal.at.returns c).In_default) (own_queue (goal.at.returns c).In_default-fits) r))
