use Rattle.fa_search.proofs.FirstWithoutLemmas.{first_without_is_there}
use Rattle.fa_search.proofs.laws.first_without_is_there.Goals as goal

pub returns : goal.returns
returns c = first_without_is_there
