use Rattle.fa_ledger.proofs.SoFarLemmas.{calls_list_so_far}
use Rattle.fa_ledger.proofs.laws.calls_list_so_far.Goals as goal

pub returns : goal.returns
returns c = calls_list_so_far
