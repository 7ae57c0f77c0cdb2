use Rattle.fa_propose.proofs.ExistLemmas.{proposal_is_there}
use Rattle.fa_propose.proofs.laws.proposal_is_there.Goals as goal

pub returns : goal.returns
returns c = proposal_is_there
