use Rattle.fa_session.proofs.CallerLemmas.{answered_once}
use Rattle.fa_session.proofs.laws.answered_once.Goals as goal

pub returns : goal.returns
returns c = answered_once
