use Rattle.fa_search.proofs.FirstWithoutLemmas.{first_without_is_one}
use Rattle.fa_search.proofs.laws.first_without_is_one.Goals as goal

pub returns : goal.returns
returns c = first_without_is_one
