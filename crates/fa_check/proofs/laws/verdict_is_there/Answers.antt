use Rattle.fa_check.proofs.ThereLemmas.{verdict_is_there}
use Rattle.fa_check.proofs.laws.verdict_is_there.Goals as goal

pub returns : goal.returns
returns c = verdict_is_there
