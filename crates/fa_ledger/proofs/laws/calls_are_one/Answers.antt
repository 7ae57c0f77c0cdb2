use Rattle.fa_ledger.proofs.CallLemmas.{calls_are_one}
use Rattle.fa_ledger.proofs.laws.calls_are_one.Goals as goal

pub returns : goal.returns
returns c = calls_are_one
