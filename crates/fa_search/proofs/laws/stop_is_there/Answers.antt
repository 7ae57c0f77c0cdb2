use Rattle.fa_search.proofs.StopLemmas.{stop_is_there}
use Rattle.fa_search.proofs.laws.stop_is_there.Goals as goal

pub returns : goal.returns
returns c = stop_is_there
