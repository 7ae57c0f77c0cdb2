use Rattle.fa_tree.proofs.LawLemmas.{steps_where_all_hold}
use Rattle.fa_tree.proofs.laws.steps_where_all_hold.Goals as goal

pub returns : goal.returns
returns c = steps_where_all_hold
