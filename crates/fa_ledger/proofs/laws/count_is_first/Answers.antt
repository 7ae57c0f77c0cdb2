use Rattle.fa_ledger.proofs.CountLemmas.{count_is_first}
use Rattle.fa_ledger.proofs.laws.count_is_first.Goals as goal

pub returns : goal.returns
returns c = count_is_first
