use Rattle.std.proofs.lemmas.Result.{IfErr-weaker, IfOk-weaker}
use Rattle.fa_audit.proofs.AuditLemmas.{memory_no_start}
use Rattle.fa_audit.proofs.proposing.proposed_of_bytes.Goals as goal

pub returns-clause-text : goal.returns-clause-text
returns-clause-text c = IfOk-weaker c.text_from.result _ _ (λ text of. of c.args.capture.now _ c.in_ok-calls.ensures.good) c.text_from.ensures.text

pub returns-clause-none : goal.returns-clause-none
returns-clause-none c = IfErr-weaker c.text_from.result _ _ (λ error memory. memory_no_start c.args.capture.now _ error memory) c.text_from.ensures.memory
