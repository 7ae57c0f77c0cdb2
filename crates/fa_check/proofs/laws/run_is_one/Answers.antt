use Rattle.fa_check.proofs.RunLemmas.{run_is_one}
use Rattle.fa_check.proofs.laws.run_is_one.Goals as goal

pub returns : goal.returns
returns c = run_is_one
