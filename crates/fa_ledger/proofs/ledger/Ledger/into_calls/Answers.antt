use Rattle.fa_ledger.proofs.LedgerLemmas.{some_calls}
use Rattle.fa_ledger.proofs.ledger.Ledger.into_calls.Goals as goal

pub invariant_of-result : goal.invariant_of-result
invariant_of-result c = record { good = some_calls c.self.inside _ c.new.ensures c.self.invariant }
