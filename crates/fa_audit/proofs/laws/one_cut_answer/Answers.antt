use Rattle.fa_audit.proofs.CutOrderLemmas.{one_cut_answer}
use Rattle.fa_audit.proofs.laws.one_cut_answer.Goals as goal

pub returns : goal.returns
returns c = one_cut_answer
