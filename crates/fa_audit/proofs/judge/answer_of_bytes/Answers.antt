use Rattle.fa_audit.proofs.AuditLemmas.{no_start_told}
use Rattle.fa_audit.proofs.judge.answer_of_bytes.Goals as goal

pub returns-in-Err : goal.returns-in-Err
returns-in-Err c = rw c.answer.ensures (no_start_told c.args.capture.now _ c.args.order.now c.in-Err.error c.in-Err.ensures.none)

pub returns-in-Ok : goal.returns-in-Ok
returns-in-Ok c = c.answer_from.ensures c.args.capture.now _ c.in-Ok.ensures.good
