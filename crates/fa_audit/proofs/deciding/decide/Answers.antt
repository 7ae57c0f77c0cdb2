use Rattle.fa_audit.proofs.deciding.decide.Goals as goal

pub returns-in-Found-clause-decided : goal.returns-in-Found-clause-decided
returns-in-Found-clause-decided g c = λ m are.
    let is = (rw c.in-Found.is at c.in_ok-order.ensures.found) m are in
    record { legal = is.legal; messages_are = are.counted; placed_are = is.placed_are; left_are = is.left_are }
