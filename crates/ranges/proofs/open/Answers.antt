-- `ranges::open` meets its contract: each way out by the law of its case. Assumes nothing.
use Rattle.std.proofs.Common.{◌≡◌, sym, ap, ◌∙◌, None, arith}
use Rattle.ledger.specs.Settings.{in_rows, size}
use Rattle.ledger.proofs.Rows.{roomy}
use Rattle.settings.specs.Told.{told_settings, one_out}
use Rattle.settings.proofs.Rows.{one_none}
use Rattle.layout.specs.Shapes.{settings_of}
use Rattle.layout.specs.Picture.{settings_in}
use Rattle.ranges.proofs.Opening.{opened_outside, opened_short, opened_tiny, opened_as}
use Rattle.ranges.proofs.open.Goals as goal
use Rattle.ranges.proofs.open.Goals.{In_default, After-shape_of-s}

-- no setting is out of its row
none_out : (c : In_default) → one_out (told_settings c.read-told.result) ≡ None
none_out c = sym c.in_default.ensures

told : (c : After-shape_of-s) → settings_of c.shape_of-s.result ≡ settings_in c.args.m.now
told c = c.shape_of-s.ensures ∙ c.read-told.ensures

pub returns-then-m-lt16 : goal.returns-then-m-lt16
returns-then-m-lt16 c = sym (opened_tiny _ c.if-m-lt16.true)

pub returns-in-Some : goal.returns-in-Some
returns-in-Some c = sym (opened_outside _ (omega arith) (ap one_out (sym c.read-told.ensures) ∙ sym c.in-Some.ensures))

pub shape_of-s-requires : goal.shape_of-s-requires
shape_of-s-requires c = roomy _ (one_none _ (none_out c))

pub returns-then-m-size_of : goal.returns-then-m-size_of
returns-then-m-size_of c =
    let none = none_out (goal.at.returns-then-m-size_of c).In_default in
    let is = told (goal.at.returns-then-m-size_of c).After-shape_of-s in
    sym (opened_short _ (omega arith) (ap one_out (sym c.read-told.ensures) ∙ none) (omega (arith, c.size_of.ensures, ap size is)))

pub returns : goal.returns
returns c =
    let none = none_out (goal.at.returns c).In_default in
    let is = told (goal.at.returns c).After-shape_of-s in
    sym (opened_as _ _ is (ap in_rows (sym c.read-told.ensures) ∙ one_none _ none) (omega (arith, c.size_of.ensures, ap size is)))
