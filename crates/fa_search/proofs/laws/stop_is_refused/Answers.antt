use Rattle.fa_search.proofs.RefusalLemmas.{stop_is_refused}
use Rattle.fa_search.proofs.laws.stop_is_refused.Goals as goal

pub returns : goal.returns
returns c = stop_is_refused
