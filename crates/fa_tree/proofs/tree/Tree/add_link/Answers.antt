use Rattle.std.proofs.Common.{rules}
use Rattle.fa_tree.specs.parts.TreeView.{tree_shown}
use Rattle.fa_tree.proofs.TreeLemmas.{still_made}
use Rattle.fa_tree.proofs.tree.Tree.add_link.Goals as goal

pub link-requires-clause-free : goal.link-requires-clause-free
link-requires-clause-free c =
    still_made (tree_shown c.self.inside) c.args.self.now c.args.parent c.args.name.now c.self.view_is (c.may_be_linked_to.ensures.0 (search rules)).0
