use Rattle.fa_search.proofs.StopLemmas.{legal_explains_all}
use Rattle.fa_search.proofs.laws.legal_explains_all.Goals as goal

pub returns : goal.returns
returns c = legal_explains_all
