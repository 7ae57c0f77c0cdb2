use Rattle.fa_order.proofs.OrderTotal.{each_order_has_one_text}
use Rattle.fa_order.proofs.laws.each_order_has_one_text.Goals as goal

pub returns : goal.returns
returns c = each_order_has_one_text
