use Rattle.fa_audit.proofs.AnswerThere.{answer_is_there}
use Rattle.fa_audit.proofs.laws.answer_is_there.Goals as goal

pub returns : goal.returns
returns c = answer_is_there
