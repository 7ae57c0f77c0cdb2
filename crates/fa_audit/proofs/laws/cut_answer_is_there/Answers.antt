use Rattle.fa_audit.proofs.AnswerThere.{cut_answer_is_there}
use Rattle.fa_audit.proofs.laws.cut_answer_is_there.Goals as goal

pub returns : goal.returns
returns c = cut_answer_is_there
