use Rattle.fa_propose.proofs.CallerLemmas.{proposal_is_one}
use Rattle.fa_audit.proofs.OneProposal.{one_proposal_answer}
use Rattle.fa_audit.proofs.laws.one_proposal_answer.Goals as goal

pub returns : goal.returns
returns c = one_proposal_answer proposal_is_one
