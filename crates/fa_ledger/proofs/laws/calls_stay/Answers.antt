use Rattle.fa_ledger.proofs.CallerLemmas.{calls_stay}
use Rattle.fa_ledger.proofs.laws.calls_stay.Goals as goal

pub returns : goal.returns
returns c = calls_stay
