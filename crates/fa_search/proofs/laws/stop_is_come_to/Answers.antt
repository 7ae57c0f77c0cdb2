use Rattle.fa_search.proofs.RefusalLemmas.{stop_is_come_to}
use Rattle.fa_search.proofs.laws.stop_is_come_to.Goals as goal

pub returns : goal.returns
returns c = stop_is_come_to
