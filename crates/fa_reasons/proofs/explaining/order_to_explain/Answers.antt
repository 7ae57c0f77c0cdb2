use Rattle.fa_reasons.proofs.ExplainedLemmas.{taken_for_none}
use Rattle.fa_reasons.proofs.explaining.order_to_explain.Goals as goal

pub returns-in-Err-clause-proposed : goal.returns-in-Err-clause-proposed
returns-in-Err-clause-proposed c = taken_for_none c.args.capture.now _ c.in-Err.error c.no_order.result c.in-Err.ensures.none c.no_order.ensures.fault
