use Rattle.fa_propose.proofs.PlacedLemmas.{proposal_is_placed}
use Rattle.fa_propose.proofs.laws.proposal_is_placed.Goals as goal

pub returns : goal.returns
returns c = proposal_is_placed
