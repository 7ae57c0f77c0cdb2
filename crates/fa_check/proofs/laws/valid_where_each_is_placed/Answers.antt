use Rattle.fa_check.proofs.OrderLemmas.{valid_where_each_is_placed}
use Rattle.fa_check.proofs.laws.valid_where_each_is_placed.Goals as goal

pub returns : goal.returns
returns c = valid_where_each_is_placed
