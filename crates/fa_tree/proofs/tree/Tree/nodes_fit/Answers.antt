use Rattle.std.proofs.Common.{List, sym, subst}
use Rattle.std.specs.Prelude.{◌↔◌, IsTrue}
use Rattle.fa_ledger.specs.declared.name.NodeName.{NodeName}
use Rattle.fa_tree.specs.declared.id.FileId.{FileId}
use Rattle.fa_tree.specs.Bindings.{AreBound}
use Rattle.fa_tree.proofs.tree.Tree.nodes_fit.Goals as goal

pub returns : goal.returns
returns c = λ count so_far.
    subst (λ (given : List (NodeName × FileId)). IsTrue c.may_bind.result ↔ AreBound c.args.self.now.nodes given)
    (sym (c.binding.ensures count so_far c.requires.needs)) c.may_bind.ensures
