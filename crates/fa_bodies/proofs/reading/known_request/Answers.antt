use Rattle.fa_bodies.specs.Requests.{body_shown}
use Rattle.fa_bodies.proofs.KnownLaws.{known_asked_long, known_asked_body, known_asked}
use Rattle.fa_bodies.proofs.reading.known_request.Goals as goal

pub in_header_at-requires : goal.in_header_at-requires
in_header_at-requires c = known_asked_long c.args.p.now.bytes.now c.requires

pub known_body-requires : goal.known_body-requires
known_body-requires c =
    let h = c.in_header_at.result.0 in
    known_asked_body c.args.p.now.bytes.now h.len h.opcode h.unique h.nodeid c.in_header_at.result.1.now c.in_header_at.ensures c.requires

pub returns : goal.returns
returns c =
    let h = c.in_header_at.result.0 in
    rw c.request_of.ensures (known_asked c.args.p.now.bytes.now h.len h.opcode h.unique h.nodeid c.in_header_at.result.1.now c.in_header_at.ensures c.requires (body_shown c.known_body.result) c.known_body.ensures)
