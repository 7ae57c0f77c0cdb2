use Rattle.fa_order.proofs.OrderTotal.{order_text_or_fault}
use Rattle.fa_order.proofs.laws.order_text_or_fault.Goals as goal

pub returns : goal.returns
returns c = order_text_or_fault
