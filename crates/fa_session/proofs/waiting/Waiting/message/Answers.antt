use Rattle.std.proofs.Common.{refl, ap, sym, ◌∙◌}
use Rattle.fa_bodies.specs.Requests.{PlainRequest, request_shown}
use Rattle.fa_session.proofs.WaitLemmas.{asked_there, waits_one, unique_of}
use Rattle.fa_session.proofs.waiting.Waiting.message.Goals as goal

pub known_request-requires : goal.known_request-requires
known_request-requires c = asked_there c.args.self.now.bytes.now c.args.self.now.unique c.args.self.now.said

pub invariant_of-result : goal.invariant_of-result
invariant_of-result c = record { read = c.known_request.ensures }

pub returns-clause-request : goal.returns-clause-request
returns-clause-request c =
    sym (waits_one c.args.self.now.bytes.now c.args.self.now.unique c.args.self.now.said c.args.self.now.bytes.now (request_shown c.known_request.result) refl c.known_request.ensures)

pub returns-clause-unique : goal.returns-clause-unique
returns-clause-unique c =
    ap (λ (r : PlainRequest). r.unique) (returns-clause-request c) ∙ unique_of c.args.self.now.bytes.now c.args.self.now.unique c.args.self.now.said
