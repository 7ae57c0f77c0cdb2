use Rattle.fa_capture.proofs.ReadingThereLemmas.{reading_is_there}
use Rattle.fa_capture.proofs.laws.reading_is_there.Goals as goal

pub returns : goal.returns
returns c = reading_is_there
