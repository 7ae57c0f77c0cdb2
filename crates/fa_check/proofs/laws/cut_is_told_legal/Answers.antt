use Rattle.fa_check.proofs.CutOneLemmas.{cut_is_told_legal}
use Rattle.fa_check.proofs.laws.cut_is_told_legal.Goals as goal

pub returns : goal.returns
returns c = cut_is_told_legal
