use Rattle.fa_tree.proofs.LawLemmas.{no_step_where_one_fails}
use Rattle.fa_tree.proofs.laws.no_step_where_one_fails.Goals as goal

pub returns : goal.returns
returns c = no_step_where_one_fails
