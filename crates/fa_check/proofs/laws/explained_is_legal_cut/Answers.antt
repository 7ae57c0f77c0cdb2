use Rattle.fa_check.proofs.CutRunLemmas.{explained_is_legal_cut}
use Rattle.fa_check.proofs.laws.explained_is_legal_cut.Goals as goal

pub returns : goal.returns
returns c = explained_is_legal_cut
