-- What the fields of a tree show.
use Rattle.fa_tree.specs.State.{TreeState}
use Rattle.fa_tree.specs.declared.tree.Tree.TheInside.{Inside}
use Rattle.fa_tree.specs.parts.NodeParts.{nodes_shown}

abbrev pub tree_shown : Inside → TreeState
tree_shown t = record { store = t.stored.store; nodes = nodes_shown t.nodes; handles = t.stored.handles }
