use Rattle.fa_check.proofs.CutAgainLemmas.{no_order_stays}
use Rattle.fa_check.proofs.laws.no_order_stays.Goals as goal

pub returns : goal.returns
returns c = no_order_stays
