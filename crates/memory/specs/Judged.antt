-- The judge of a call, apart from what the call does: the first rule that applies, or none. Assumes nothing.
use Rattle.std.specs.Prelude.{◌≡◌, List, ℕ, Result, Ok, Err}
use Rattle.ledger.specs.Settings.{Settings}
use Rattle.ledger.specs.Rules.{guard}
use Rattle.ledger.specs.Ledger.{Ledger}
use Rattle.ledger.specs.Calls.{Act, rules}
use Rattle.ledger.specs.Answers.{number_of}
use Rattle.layout.specs.declared.shape.Shape.{Shape}
use Rattle.layout.specs.Shapes.{settings_of}
use Rattle.layout.specs.Picture.{settings_in, StateOf}
use Rattle.ledger.specs.declared.Refusal.{Refusal}

pub data Judgement : Type 0 where
  good : Judgement
  bad : ℕ → Judgement

abbrev pub judgement_of : Result Unit Refusal → Judgement
judgement_of (Ok u) = good
judgement_of (Err r) = bad (number_of r)

unfoldable pub judged : Settings → Ledger → Act → Judgement
judged S L a = guard (rules S L a) bad good

-- what the calls below the public ones may rely on: the shape is that of the memory, and the memory is a switch state
pub record Works (s : Shape) (m : List ℕ) : Type 0 where
  pub settings_are : settings_of s ≡ settings_in m
  pub state : StateOf (settings_of s) m
