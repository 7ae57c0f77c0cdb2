use Rattle.fa_check.proofs.FaultLemmas.{legal_has_no_fault}
use Rattle.fa_check.proofs.laws.legal_has_no_fault.Goals as goal

pub returns : goal.returns
returns c = legal_has_no_fault
