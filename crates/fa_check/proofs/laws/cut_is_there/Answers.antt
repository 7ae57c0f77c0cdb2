use Rattle.fa_check.proofs.CutThereLemmas.{cut_is_there}
use Rattle.fa_check.proofs.laws.cut_is_there.Goals as goal

pub returns : goal.returns
returns c = cut_is_there
