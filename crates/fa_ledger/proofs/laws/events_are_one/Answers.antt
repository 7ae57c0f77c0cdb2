use Rattle.fa_ledger.proofs.EventLemmas.{events_are_one}
use Rattle.fa_ledger.proofs.laws.events_are_one.Goals as goal

pub returns : goal.returns
returns c = events_are_one
