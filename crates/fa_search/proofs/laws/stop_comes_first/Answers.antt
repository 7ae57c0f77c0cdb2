use Rattle.fa_search.proofs.FirstWithoutLemmas.{stop_comes_first}
use Rattle.fa_search.proofs.laws.stop_comes_first.Goals as goal

pub returns : goal.returns
returns c = stop_comes_first
