use Rattle.fa_check.proofs.VerdictLemmas.{verdict_is_one}
use Rattle.fa_check.proofs.laws.verdict_is_one.Goals as goal

pub returns : goal.returns
returns c = verdict_is_one
