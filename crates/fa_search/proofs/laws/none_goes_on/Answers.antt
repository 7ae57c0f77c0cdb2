use Rattle.fa_search.proofs.FirstWithoutLemmas.{none_goes_on}
use Rattle.fa_search.proofs.laws.none_goes_on.Goals as goal

pub returns : goal.returns
returns c = none_goes_on
