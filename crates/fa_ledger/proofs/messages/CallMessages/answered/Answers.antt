use Rattle.fa_bodies.specs.Requests.{request_shown}
use Rattle.fa_bodies.specs.Replies.{reply_shown}
use Rattle.fa_ledger.proofs.SaidLemmas.{answered_said, answered_does}
use Rattle.fa_ledger.proofs.messages.CallMessages.answered.Goals as goal

pub invariant_of-result : goal.invariant_of-result
invariant_of-result c =
    let m = c.args.messages.now in
    record { said = answered_said m.to.bytes.now m.bytes.now (request_shown m.to.request) (reply_shown m.reply) m.to.read m.read c.requires }

pub returns-clause-said : goal.returns-clause-said
returns-clause-said c =
    let m = c.args.messages.now in
    answered_does m.to.bytes.now m.bytes.now c.result-3-1.given.0 (request_shown m.to.request) (reply_shown m.reply) m.to.read m.read
