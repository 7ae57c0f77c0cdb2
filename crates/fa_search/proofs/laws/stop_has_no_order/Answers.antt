use Rattle.fa_search.proofs.StopLemmas.{stop_has_no_order}
use Rattle.fa_search.proofs.laws.stop_has_no_order.Goals as goal

pub returns : goal.returns
returns c = stop_has_no_order
