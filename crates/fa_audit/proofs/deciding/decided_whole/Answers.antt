use Rattle.fa_audit.proofs.SearchLemmas.{decision_of}
use Rattle.fa_audit.proofs.deciding.decided_whole.Goals as goal

pub returns-clause-answer : goal.returns-clause-answer
returns-clause-answer g c = λ bytes is.
    let start = c.in_ok-calls.ensures.good bytes is in
    decision_of bytes _ _ _ c.in_ok-decide.field-0 start (c.in_ok-decide.ensures.decided start.messages start.are)
