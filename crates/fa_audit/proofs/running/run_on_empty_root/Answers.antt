use Rattle.std.proofs.Common.{rules, None, refl}
use Rattle.fa_audit.proofs.AnswerLemmas.{answer_or_memory}
use Rattle.fa_audit.proofs.RunLemmas.{audited}
use Rattle.fa_audit.proofs.StoredLemmas.{bytes_stored}
use Rattle.fa_audit.proofs.running.run_on_empty_root.Goals as goal

pub tell-requires-clause-coded : goal.tell-requires-clause-coded
tell-requires-clause-coded g c = c.audit_capture.ensures.codes

pub returns-clause-told : goal.returns-clause-told
returns-clause-told g c =
    let read = bytes_stored _ _ c.with_seed.result c.in_ok-stored.ensures.capture (c.with_seed.ensures.same c.in_ok-stored.stored c.capture.ensures) in
    let answer = c.audit_capture.ensures in
    audited c.tell.result _ _ _ _ _ read.0 c.in_ok-order.order.items None c.audit_capture.result
    read.1 c.in_ok-order.ensures.bytes (search rules) refl
    (rw (← c.deref.ensures.value)
    (answer_or_memory _ _ _ c.audit_capture.result (answer.legal read.0 read.2) (answer.fault read.0 read.2) (answer.not_shown read.0 read.2) (answer.tree_text read.0 read.2) (answer.order_text read.0 read.2)))
    c.tell.ensures.told c.tell.ensures.answered
