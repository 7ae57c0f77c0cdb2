use Rattle.fa_order.proofs.OrderLines.{no_entry_without_end}
use Rattle.fa_order.proofs.order.read_entry.Goals as goal

pub returns-in_err-wrote-clause-none : goal.returns-in_err-wrote-clause-none
returns-in_err-wrote-clause-none c =
    rw c.from_residual-in_err-wrote.ensures
    (no_entry_without_end c.args.left.now c.in_ok-at.rest.now c.in_ok-at.at c.in_ok-at.ensures.in_range c.in_ok-at.ensures.number c.in_ok-at.ensures.whole c.in_err-wrote.ensures.none)
