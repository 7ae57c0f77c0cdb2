use Rattle.fa_bodies.specs.Requests.{request_shown}
use Rattle.fa_session.proofs.WaitLemmas.{waits_of}
use Rattle.fa_session.proofs.waiting.Waiting.new.Goals as goal

pub invariant_of-result : goal.invariant_of-result
invariant_of-result c = record { said = waits_of c.args.message.now.bytes.now (request_shown c.args.message.now.request) c.args.message.now.read }
