use Rattle.fa_ledger.proofs.EventThereLemmas.{events_are_there}
use Rattle.fa_ledger.proofs.laws.events_are_there.Goals as goal

pub returns : goal.returns
returns c = events_are_there
