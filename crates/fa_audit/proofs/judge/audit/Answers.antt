use Rattle.std.proofs.Common.{Ok, Err}
use Rattle.fa_check.specs.declared.verdict.Verdict.TheVariants.{Legal, Fault, NotShown}
use Rattle.fa_audit.specs.declared.verdict.AuditError.TheVariants.{OrderText, TreeText}
use Rattle.fa_audit.proofs.AuditLemmas.{exactly, verdict_apart, tree_line_apart, order_line_apart}
use Rattle.fa_audit.proofs.OneAnswer.{one_answer}
use Rattle.fa_audit.proofs.CodedLemmas.{told_coded}
use Rattle.fa_audit.proofs.judge.audit.Goals as goal

pub returns-clause-legal : goal.returns-clause-legal
returns-clause-legal c = λ messages placed left.
    exactly one_answer c.args.capture.now _ c.args.order.now c.answer_of_bytes.result (Ok (Legal messages placed left)) c.answer_of_bytes.ensures (verdict_apart (Legal messages placed left))

pub returns-clause-fault : goal.returns-clause-fault
returns-clause-fault c = λ at code.
    exactly one_answer c.args.capture.now _ c.args.order.now c.answer_of_bytes.result (Ok (Fault at code)) c.answer_of_bytes.ensures (verdict_apart (Fault at code))

pub returns-clause-tree_text : goal.returns-clause-tree_text
returns-clause-tree_text c = λ line.
    exactly one_answer c.args.capture.now _ c.args.order.now c.answer_of_bytes.result (Err (TreeText line)) c.answer_of_bytes.ensures (tree_line_apart line)

pub returns-clause-order_text : goal.returns-clause-order_text
returns-clause-order_text c = λ line.
    exactly one_answer c.args.capture.now _ c.args.order.now c.answer_of_bytes.result (Err (OrderText line)) c.answer_of_bytes.ensures (order_line_apart line)

pub returns-clause-not_shown : goal.returns-clause-not_shown
returns-clause-not_shown c = λ entry at code.
    exactly one_answer c.args.capture.now _ c.args.order.now c.answer_of_bytes.result (Ok (NotShown entry at code)) c.answer_of_bytes.ensures (verdict_apart (NotShown entry at code))

pub returns-clause-codes : goal.returns-clause-codes
returns-clause-codes c = told_coded c.args.capture.now _ c.args.order.now c.answer_of_bytes.result c.answer_of_bytes.ensures
