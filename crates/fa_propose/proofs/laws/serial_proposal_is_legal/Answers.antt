use Rattle.fa_propose.proofs.SerialLemmas.{serial_proposal_is_legal}
use Rattle.fa_propose.proofs.laws.serial_proposal_is_legal.Goals as goal

pub returns : goal.returns
returns c = serial_proposal_is_legal
