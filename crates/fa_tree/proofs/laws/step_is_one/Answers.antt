use Rattle.fa_tree.proofs.LawLemmas.{step_is_one}
use Rattle.fa_tree.proofs.laws.step_is_one.Goals as goal

pub returns : goal.returns
returns c = step_is_one
