use Rattle.std.proofs.Common.{None, subst}
use Rattle.std.specs.Prelude.{◌↔◌, IsTrue}
use Rattle.fa_ledger.specs.Operations.{action_shown}
use Rattle.fa_tree.specs.State.{TreeState}
use Rattle.fa_tree.specs.Operations.{action_rule}
use Rattle.fa_tree.specs.parts.NamedParts.{named_shown}
use Rattle.fa_tree.proofs.tree.Tree.may_be_done.Goals as goal

pub returns : goal.returns
returns c =
    subst (λ (t : TreeState). IsTrue c.may_be_done.result ↔ (action_rule t.store (named_shown c.args.named.now None) (action_shown c.args.action.now)).needs)
    c.self.view_is (c.may_be_done.ensures None)
