use Rattle.std.specs.Int.{w32}
use Rattle.std.proofs.lemmas.Int.{to_z-of_z}
use Rattle.std.proofs.lemmas.Result.{err_from_is_err_and}
use Rattle.fa_bodies.specs.declared.replies.ReplyHead.{ReplyHead}
use Rattle.fa_bodies.proofs.ReplyLaws.{head_found, head_fault, head-one, head-checks}
use Rattle.fa_bodies.proofs.reading.reply_head.Goals as goal

pub returns-in_err-check_head-clause-fault : goal.returns-in_err-check_head-clause-fault
returns-in_err-check_head-clause-fault c =
    let h = c.out_header_at.result.0 in
    let exact = to_z-of_z w32 h.error c.out_header_at.ensures.3.0 in
    let head : ReplyHead = record { unique = h.unique; error = h.error } in
    let p = err_from_is_err_and c.from_residual-in_err-check_head.result c.from_residual-in_err-check_head.ensures.1 in
    rw (p.1, p.2) (head_fault c.args.p.now.bytes.now h.len head c.out_header_at.result.1.now c.in_err-check_head.field-0.0 c.in_ok-check_length.ensures.ok c.out_header_at.ensures (rw exact at c.in_err-check_head.ensures.fault))

pub returns-clause-found : goal.returns-clause-found
returns-clause-found c =
    let h = c.out_header_at.result.0 in
    let exact = to_z-of_z w32 h.error c.out_header_at.ensures.3.0 in
    let head : ReplyHead = record { unique = h.unique; error = h.error } in
    rw exact
    (head_found c.args.p.now.bytes.now h.len head c.out_header_at.result.1.now c.in_ok-check_length.ensures.ok.1.0 c.out_header_at.ensures (rw exact at c.in_ok-check_head.ensures.ok))

pub returns-clause-only : goal.returns-clause-only
returns-clause-only c = λ other is. head-one c.args.p.now.bytes.now other _ is (returns-clause-found c)

pub returns-clause-passes : goal.returns-clause-passes
returns-clause-passes c = (head-checks c.args.p.now.bytes.now).1 (_, returns-clause-found c)
