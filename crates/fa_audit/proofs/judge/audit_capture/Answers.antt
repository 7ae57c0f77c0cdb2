use Rattle.std.proofs.Common.{Ok, Err}
use Rattle.fa_check.specs.declared.verdict.Verdict.TheVariants.{Legal, Fault, NotShown}
use Rattle.fa_audit.specs.declared.verdict.AuditError.TheVariants.{OrderText, TreeText}
use Rattle.fa_audit.proofs.AuditLemmas.{exactly, verdict_apart, tree_line_apart, order_line_apart}
use Rattle.fa_audit.proofs.OneAnswer.{one_answer}
use Rattle.fa_audit.proofs.CodedLemmas.{told_coded_of}
use Rattle.fa_audit.proofs.judge.audit_capture.Goals as goal

pub returns-clause-legal : goal.returns-clause-legal
returns-clause-legal c = λ bytes is messages placed left.
    exactly one_answer bytes _ c.args.order.now c.answer.result (Ok (Legal messages placed left)) (c.answer.ensures bytes is) (verdict_apart (Legal messages placed left))

pub returns-clause-fault : goal.returns-clause-fault
returns-clause-fault c = λ bytes is at code.
    exactly one_answer bytes _ c.args.order.now c.answer.result (Ok (Fault at code)) (c.answer.ensures bytes is) (verdict_apart (Fault at code))

pub returns-clause-tree_text : goal.returns-clause-tree_text
returns-clause-tree_text c = λ bytes is line.
    exactly one_answer bytes _ c.args.order.now c.answer.result (Err (TreeText line)) (c.answer.ensures bytes is) (tree_line_apart line)

pub returns-clause-order_text : goal.returns-clause-order_text
returns-clause-order_text c = λ bytes is line.
    exactly one_answer bytes _ c.args.order.now c.answer.result (Err (OrderText line)) (c.answer.ensures bytes is) (order_line_apart line)

pub returns-clause-not_shown : goal.returns-clause-not_shown
returns-clause-not_shown c = λ bytes is entry at code.
    exactly one_answer bytes _ c.args.order.now c.answer.result (Ok (NotShown entry at code)) (c.answer.ensures bytes is) (verdict_apart (NotShown entry at code))

pub returns-clause-codes : goal.returns-clause-codes
returns-clause-codes c = told_coded_of c.args.capture.now _ c.args.order.now c.answer.result c.answer.ensures
