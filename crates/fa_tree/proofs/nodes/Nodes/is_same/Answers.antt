use Rattle.fa_tree.specs.parts.NodeParts.{nodes_shown}
use Rattle.fa_tree.proofs.NodeLemmas.{node_total, node_same}
use Rattle.fa_tree.proofs.SameLemmas.{within_both}
use Rattle.fa_tree.proofs.nodes.Nodes.is_same.Goals as goal

pub returns-then-is_within : goal.returns-then-is_within
returns-then-is_within c = λ is.
    within_both node_total node_same (nodes_shown c.args.self.now) (nodes_shown c.args.other.now) (c.is_within.ensures c.if-is_within.true) (c.is_within-then-is_within.ensures is)
