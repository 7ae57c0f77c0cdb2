use Rattle.fa_tree.specs.parts.TreeView.{tree_shown}
use Rattle.fa_tree.proofs.JudgeLemmas.{directory_still}
use Rattle.fa_tree.proofs.tree.Tree.may_list.Goals as goal

pub returns : goal.returns
returns c = directory_still (tree_shown c.self.inside) c.args.self.now c.self.view_is c.args.at.now.named.node c.is_directory.result c.is_directory.ensures
