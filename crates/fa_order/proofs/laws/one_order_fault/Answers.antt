use Rattle.fa_order.proofs.OrderLemmas.{one_order_fault}
use Rattle.fa_order.proofs.laws.one_order_fault.Goals as goal

pub returns : goal.returns
returns c = one_order_fault
