use Rattle.std.proofs.Common.{None}
use Rattle.fa_ledger.specs.Operations.{action_shown}
use Rattle.fa_tree.specs.parts.NamedParts.{named_shown}
use Rattle.fa_tree.specs.parts.TreeView.{tree_shown}
use Rattle.fa_tree.proofs.JudgeLemmas.{attributes_still}
use Rattle.fa_tree.proofs.tree.Tree.attributes_fit.Goals as goal

pub returns : goal.returns
returns c = λ count so_far.
    attributes_still (tree_shown c.self.inside) c.args.self.now c.self.view_is (named_shown c.args.named.now None) c.args.call.now.direct (action_shown c.args.action.now) c.attributes_fit.result
    c.args.call.now.truncates (c.attributes_fit.ensures None c.args.call.now.direct) count c.requires.needs
