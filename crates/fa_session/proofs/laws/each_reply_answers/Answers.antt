use Rattle.fa_session.proofs.LawsLemmas.{each_reply_answers_lem}
use Rattle.fa_session.proofs.laws.each_reply_answers.Goals as goal

pub returns : goal.returns
returns c = each_reply_answers_lem
