use Rattle.fa_tree_text.proofs.TreeLaws.{one_tree_text}
use Rattle.fa_tree_text.proofs.laws.one_tree.Goals as goal

pub returns : goal.returns
returns c = one_tree_text
