use Rattle.fa_ledger.proofs.NameLemmas.{name_is_least}
use Rattle.fa_ledger.proofs.laws.name_is_least.Goals as goal

pub returns : goal.returns
returns c = name_is_least
