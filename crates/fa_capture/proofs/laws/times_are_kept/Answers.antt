use Rattle.fa_capture.proofs.TimeLemmas.{times_are_kept}
use Rattle.fa_capture.proofs.laws.times_are_kept.Goals as goal

pub returns : goal.returns
returns c = times_are_kept
