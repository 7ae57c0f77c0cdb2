use Rattle.fa_check.proofs.CutAgainLemmas.{cut_again}
use Rattle.fa_check.proofs.laws.cut_again.Goals as goal

pub returns : goal.returns
returns c = cut_again
