use Rattle.std.proofs.lemmas.Result.{IfErr-weaker, IfOk-weaker}
use Rattle.fa_audit.proofs.AuditLemmas.{memory_no_start}
use Rattle.fa_audit.proofs.proposing.proposed.Goals as goal

pub returns-clause-text : goal.returns-clause-text
returns-clause-text c = IfOk-weaker c.text_from.result _ _ (λ text of. λ bytes is. of bytes _ (c.in_ok-calls.ensures.good bytes is)) c.text_from.ensures.text

pub returns-clause-none : goal.returns-clause-none
returns-clause-none c = IfErr-weaker c.text_from.result _ _ (λ error memory. λ bytes is. memory_no_start bytes _ error memory) c.text_from.ensures.memory
