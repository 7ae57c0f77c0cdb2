use Rattle.fa_search.proofs.RefusalLemmas.{one_code_refuses_all}
use Rattle.fa_search.proofs.laws.one_code_refuses_all.Goals as goal

pub returns : goal.returns
returns c = one_code_refuses_all
