use Rattle.fa_order.proofs.OrderLemmas.{one_order_text}
use Rattle.fa_order.proofs.laws.one_order.Goals as goal

pub returns : goal.returns
returns c = one_order_text
