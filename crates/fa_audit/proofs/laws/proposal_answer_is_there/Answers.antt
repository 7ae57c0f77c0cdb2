use Rattle.fa_audit.proofs.AnswerThere.{proposal_answer_is_there}
use Rattle.fa_audit.proofs.laws.proposal_answer_is_there.Goals as goal

pub returns : goal.returns
returns c = proposal_answer_is_there
