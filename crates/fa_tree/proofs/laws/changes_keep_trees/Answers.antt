use Rattle.fa_tree.proofs.ShapeLemmas.{changes_keep_trees}
use Rattle.fa_tree.proofs.laws.changes_keep_trees.Goals as goal

pub returns : goal.returns
returns c = changes_keep_trees
