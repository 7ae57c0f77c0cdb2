use Rattle.fa_session.proofs.CallerLemmas.{answers_one}
use Rattle.fa_session.proofs.laws.answers_one.Goals as goal

pub returns : goal.returns
returns c = answers_one
