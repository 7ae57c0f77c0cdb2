use Rattle.fa_audit.proofs.OneAnswer.{one_answer}
use Rattle.fa_audit.proofs.laws.one_answer.Goals as goal

pub returns : goal.returns
returns c = one_answer
