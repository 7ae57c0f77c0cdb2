use Rattle.fa_check.proofs.CutRunLemmas.{cut_is_legal}
use Rattle.fa_check.proofs.laws.cut_is_legal.Goals as goal

pub returns : goal.returns
returns c = cut_is_legal
