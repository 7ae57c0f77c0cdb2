use Rattle.fa_audit.proofs.SearchLemmas.{order_is_found}
use Rattle.fa_audit.proofs.searching.searched.Goals as goal

pub returns-in_ok-write_order-in-Legal-clause-answer : goal.returns-in_ok-write_order-in-Legal-clause-answer
returns-in_ok-write_order-in-Legal-clause-answer g c = λ bytes is.
    order_is_found bytes _ c.in-Legal.order.items _ c.in-Legal.messages c.in-Legal.placed c.in-Legal.left ((rw c.in-Legal.is at c.in_ok-order.ensures.answer) bytes is)
    (rw (← c.deref.ensures.value) c.in_ok-write_order-in-Legal.ensures)

pub returns-in-NoOrder-clause-answer : goal.returns-in-NoOrder-clause-answer
returns-in-NoOrder-clause-answer g c = rw c.in-NoOrder.is at c.in_ok-order.ensures.answer

pub returns-in-GaveUp-clause-answer : goal.returns-in-GaveUp-clause-answer
returns-in-GaveUp-clause-answer g c = rw c.in-GaveUp.is at c.in_ok-order.ensures.answer
