use Rattle.fa_audit.proofs.AuditLemmas.{no_start_told}
use Rattle.fa_audit.proofs.judge.answer.Goals as goal

pub returns-in-Err : goal.returns-in-Err
returns-in-Err c = rw c.answer.ensures (λ bytes is. no_start_told bytes _ c.args.order.now c.in-Err.error (c.in-Err.ensures.none bytes is))

pub returns-in-Ok : goal.returns-in-Ok
returns-in-Ok c = λ bytes is. c.answer_from.ensures bytes _ (c.in-Ok.ensures.good bytes is)
