use Rattle.fa_bodies.specs.Requests.{request_shown}
use Rattle.fa_ledger.proofs.SaidLemmas.{asked_said, asked_does}
use Rattle.fa_ledger.proofs.messages.CallMessages.asked.Goals as goal

pub invariant_of-result : goal.invariant_of-result
invariant_of-result c = record { said = asked_said c.args.message.now.bytes.now (request_shown c.args.message.now.request) c.args.message.now.read c.requires }

pub returns-clause-said : goal.returns-clause-said
returns-clause-said c = asked_does c.args.message.now.bytes.now c.result-4-1.given.0 (request_shown c.args.message.now.request) c.args.message.now.read
