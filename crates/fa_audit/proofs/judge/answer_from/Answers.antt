use Rattle.std.proofs.lemmas.Result.{err_from_is_err_and}
use Rattle.fa_check.proofs.CallerLemmas as check
use Rattle.fa_audit.proofs.AuditLemmas.{verdict_told, order_told}
use Rattle.fa_audit.proofs.judge.answer_from.Goals as goal

pub returns-in_err-entries : goal.returns-in_err-entries
returns-in_err-entries c =
    let p = err_from_is_err_and c.from_residual.result c.from_residual.ensures.1 in
    rw (p.1, p.2) (λ bytes tree start.
    order_told bytes tree c.args.order.now start.messages c.args.first c.in_err-entries.field-0.0 start.good start.given c.in_err-entries.ensures.refused)

pub returns : goal.returns
returns c = λ bytes tree start.
    verdict_told bytes tree c.args.order.now start.messages c.args.first c.in_ok-entries.entries.items c.in_ok-check.field-0 start.good start.given c.in_ok-entries.ensures.text
    (rw (← c.deref.ensures.value) (check.verdict_told start.messages c.args.first c.deref.result.now c.check.result c.in_ok-check.field-0 c.in_ok-check.was
    (c.check.ensures.legal start.messages start.are) (c.check.ensures.not_shown start.messages start.are) c.check.ensures.never_fault))
