use Rattle.fa_order.proofs.OrderLemmas.{order_text_has_no_fault}
use Rattle.fa_order.proofs.laws.order_text_has_no_fault.Goals as goal

pub returns : goal.returns
returns c = order_text_has_no_fault
