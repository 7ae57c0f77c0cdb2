use Rattle.std.proofs.lemmas.Result.{err_from_is_err_and}
use Rattle.fa_bodies.specs.Requests.{body_shown}
use Rattle.fa_bodies.proofs.RequestLaws.{request_found, request_fault, request-one, request-checks}
use Rattle.fa_bodies.proofs.reading.request.Goals as goal

pub returns-in_err-body-clause-fault : goal.returns-in_err-body-clause-fault
returns-in_err-body-clause-fault c =
    let h = c.in_header_at.result.0 in
    let p = err_from_is_err_and c.from_residual-in_err-body.result c.from_residual-in_err-body.ensures.1 in
    rw (p.1, p.2) (request_fault c.args.p.now.bytes.now h.len h.opcode h.unique h.nodeid c.in_header_at.result.1.now c.in_err-body.field-0.0 c.in_ok-check_length.ensures.ok c.in_header_at.ensures c.in_err-body.ensures.fault)

pub returns-clause-found : goal.returns-clause-found
returns-clause-found c =
    let h = c.in_header_at.result.0 in
    rw c.request_of.ensures (request_found c.args.p.now.bytes.now h.len h.opcode h.unique h.nodeid c.in_header_at.result.1.now (body_shown c.in_ok-body.body) c.in_ok-check_length.ensures.ok.1.0 c.in_header_at.ensures c.in_ok-body.ensures.found c.in_ok-body.ensures.limit)

pub returns-clause-only : goal.returns-clause-only
returns-clause-only c = λ other is. request-one c.args.p.now.bytes.now other _ is (returns-clause-found c)

pub returns-clause-passes : goal.returns-clause-passes
returns-clause-passes c = (request-checks c.args.p.now.bytes.now).1 (_, returns-clause-found c)
