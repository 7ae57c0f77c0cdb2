use Rattle.fa_ledger.proofs.ThereLemmas.{calls_are_there}
use Rattle.fa_ledger.proofs.laws.calls_are_there.Goals as goal

pub returns : goal.returns
returns c = calls_are_there
