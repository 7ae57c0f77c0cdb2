use Rattle.fa_ledger.proofs.ListedThereLemmas.{listed_is_there}
use Rattle.fa_ledger.proofs.laws.listed_is_there.Goals as goal

pub returns : goal.returns
returns c = listed_is_there
