use Rattle.std.proofs.lemmas.Result.{err_from_is_err_and}
use Rattle.fa_audit.proofs.AuditLemmas.{start_of, capture_no_start, tree_no_start}
use Rattle.fa_audit.proofs.judge.start_of_bytes.Goals as goal

pub returns-in_err-calls-clause-none : goal.returns-in_err-calls-clause-none
returns-in_err-calls-clause-none c =
    let p = err_from_is_err_and c.from_residual.result c.from_residual.ensures.1 in
    rw (p.1, p.2) (capture_no_start c.args.bytes.now _ c.in_err-calls.field-0.0 c.in_err-calls.ensures.fault)

pub returns-in_err-first-clause-none : goal.returns-in_err-first-clause-none
returns-in_err-first-clause-none c =
    let of = c.in_ok-calls.ensures.good in
    let p = err_from_is_err_and c.from_residual-in_err-first.result c.from_residual-in_err-first.ensures.1 in
    rw (p.1, p.2) (tree_no_start c.args.bytes.now _ of.messages c.in_err-first.field-0.0 of.good c.in_err-first.ensures.refused)

pub returns-clause-good : goal.returns-clause-good
returns-clause-good c = start_of c.args.bytes.now _ c.in_ok-calls.calls c.in_ok-first.first c.in_ok-calls.ensures.good c.in_ok-first.ensures.given
