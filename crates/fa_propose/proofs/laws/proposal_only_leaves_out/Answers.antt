use Rattle.fa_propose.proofs.PlacedLemmas.{proposal_only_leaves_out}
use Rattle.fa_propose.proofs.laws.proposal_only_leaves_out.Goals as goal

pub returns : goal.returns
returns c = proposal_only_leaves_out
