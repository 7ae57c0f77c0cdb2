use Rattle.fa_ledger.proofs.ListedLemmas.{listed_is_one}
use Rattle.fa_ledger.proofs.laws.listed_is_one.Goals as goal

pub returns : goal.returns
returns c = listed_is_one
