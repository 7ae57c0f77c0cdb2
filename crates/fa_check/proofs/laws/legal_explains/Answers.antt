use Rattle.fa_check.proofs.CutRunLemmas.{legal_explains}
use Rattle.fa_check.proofs.laws.legal_explains.Goals as goal

pub returns : goal.returns
returns c = legal_explains
