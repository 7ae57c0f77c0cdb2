use Rattle.fa_tree.proofs.LawLemmas.{building_keeps_trees}
use Rattle.fa_tree.proofs.laws.building_keeps_trees.Goals as goal

pub returns : goal.returns
returns c = building_keeps_trees
