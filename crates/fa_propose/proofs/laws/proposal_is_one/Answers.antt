use Rattle.fa_propose.proofs.OneLemmas.{proposal_is_one}
use Rattle.fa_propose.proofs.laws.proposal_is_one.Goals as goal

pub returns : goal.returns
returns c = proposal_is_one
