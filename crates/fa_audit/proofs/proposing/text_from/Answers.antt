use Rattle.fa_audit.proofs.ProposalLemmas.{text_proposed}
use Rattle.fa_audit.proofs.proposing.text_from.Goals as goal

pub returns-clause-text : goal.returns-clause-text
returns-clause-text c = λ bytes tree start.
    text_proposed bytes tree _ _ c.in_ok-order.order.items _ start
    (c.in_ok-order.ensures start.messages start.are) (rw (← c.deref.ensures.value) c.in_ok-write_order.ensures)
