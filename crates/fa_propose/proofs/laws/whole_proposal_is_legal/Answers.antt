use Rattle.fa_propose.proofs.PlacedLemmas.{whole_proposal_is_legal}
use Rattle.fa_propose.proofs.laws.whole_proposal_is_legal.Goals as goal

pub returns : goal.returns
returns c = whole_proposal_is_legal
