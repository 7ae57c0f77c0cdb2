use Rattle.fa_check.proofs.CutRunLemmas.{explains_all_is_legal}
use Rattle.fa_check.proofs.laws.explains_all_is_legal.Goals as goal

pub returns : goal.returns
returns c = explains_all_is_legal
