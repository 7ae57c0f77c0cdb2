use Rattle.fa_capture.proofs.ReadingLemmas.{one_recording}
use Rattle.fa_capture.proofs.laws.one_recording.Goals as goal

pub returns : goal.returns
returns c = one_recording
