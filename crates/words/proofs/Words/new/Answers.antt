-- `words::Words::new` meets its contract: no word is made. Assumes nothing.
use Rattle.words.proofs.Laws.{none_kept}
use Rattle.words.proofs.Words.new.Goals as goal

pub returns : goal.returns
returns c = none_kept
