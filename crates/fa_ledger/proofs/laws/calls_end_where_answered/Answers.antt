use Rattle.fa_ledger.proofs.OperationLawLemmas.{calls_end_where_answered}
use Rattle.fa_ledger.proofs.laws.calls_end_where_answered.Goals as goal

pub returns : goal.returns
returns c = calls_end_where_answered
