use Rattle.fa_tree_text.proofs.TreeLaws.{tree_text_has_no_fault}
use Rattle.fa_tree_text.proofs.laws.tree_text_has_no_fault.Goals as goal

pub returns : goal.returns
returns c = tree_text_has_no_fault
