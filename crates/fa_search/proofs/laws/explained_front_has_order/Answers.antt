use Rattle.fa_search.proofs.FirstWithoutLemmas.{explained_front_has_order}
use Rattle.fa_search.proofs.laws.explained_front_has_order.Goals as goal

pub returns : goal.returns
returns c = explained_front_has_order
