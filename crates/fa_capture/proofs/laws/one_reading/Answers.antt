use Rattle.fa_capture.proofs.ReadingLemmas.{one_reading_lem}
use Rattle.fa_capture.proofs.laws.one_reading.Goals as goal

pub returns : goal.returns
returns c = one_reading_lem
