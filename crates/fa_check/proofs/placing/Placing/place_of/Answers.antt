use Rattle.fa_ledger.specs.Calls.{call_shown}
use Rattle.fa_check.proofs.placing.Placing.place_of.Goals as goal

pub returns-then-call-at-clause-found : goal.returns-then-call-at-clause-found
returns-then-call-at-clause-found c = (call_shown c.call.result, c.call.ensures, c.if-call-at.true)
