use Rattle.fa_audit.proofs.TimeLemmas.{answers_see_no_times}
use Rattle.fa_audit.proofs.laws.answers_see_no_times.Goals as goal

pub returns : goal.returns
returns c = answers_see_no_times
