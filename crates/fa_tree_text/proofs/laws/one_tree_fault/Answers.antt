use Rattle.fa_tree_text.proofs.TreeLaws.{one_tree_fault}
use Rattle.fa_tree_text.proofs.laws.one_tree_fault.Goals as goal

pub returns : goal.returns
returns c = one_tree_fault
