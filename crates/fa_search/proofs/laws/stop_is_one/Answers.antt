use Rattle.fa_search.proofs.StopLemmas.{stop_is_one}
use Rattle.fa_search.proofs.laws.stop_is_one.Goals as goal

pub returns : goal.returns
returns c = stop_is_one
