use Rattle.fa_ledger.proofs.CallerLemmas.{names_look_back}
use Rattle.fa_ledger.proofs.laws.names_look_back.Goals as goal

pub returns : goal.returns
returns c = names_look_back
