use Rattle.std.proofs.Common.{None}
use Rattle.fa_ledger.specs.Operations.{action_shown}
use Rattle.fa_tree.specs.parts.NamedParts.{named_shown}
use Rattle.fa_tree.specs.parts.TreeView.{tree_shown}
use Rattle.fa_tree.proofs.JudgeLemmas.{success_still}
use Rattle.fa_tree.proofs.tree.Tree.may_succeed.Goals as goal

pub returns : goal.returns
returns c = λ after direct.
    success_still (tree_shown c.self.inside) c.args.self.now c.self.view_is (named_shown c.args.named.now None) direct (action_shown c.args.action.now) c.may_succeed.result
    (λ left. c.may_succeed.ensures None left direct) after
