use Rattle.fa_audit.proofs.CutOrderLemmas.{uncut_told}
use Rattle.fa_audit.proofs.cutting.tell_cut.Goals as goal

pub returns-in-Err-clause-answered : goal.returns-in-Err-clause-answered
returns-in-Err-clause-answered g c = uncut_told c.tell.result c.args.left c.in-Err.error c.answer.result c.in-Err.is c.answer.ensures c.tell.ensures.answered
