use Rattle.std.proofs.Common.{rules, ℤ, subst}
use Rattle.std.specs.Int.{w32}
use Rattle.std.proofs.lemmas.Int.{to_z-of_z}
use mir.Val.{SFits}
use Rattle.std.specs.Prelude.{◌↔◌, IsTrue}
use Rattle.fa_tree.specs.Opening.{directory_rule}
use Rattle.fa_tree.specs.Rules.{HasCause}
use Rattle.fa_tree.specs.parts.TreeView.{tree_shown}
use Rattle.fa_tree.proofs.JudgeLemmas.{list_cause_still}
use Rattle.fa_tree.proofs.tree.Tree.may_refuse.Goals as goal

pub returns : goal.returns
returns c =
    let fits : SFits w32 c.args.error = search rules in
    list_cause_still (tree_shown c.self.inside) c.args.self.now c.self.view_is c.args.at.now.named.node c.may_refuse_to_list.result c.args.error
    (subst (λ (e : ℤ). IsTrue c.may_refuse_to_list.result ↔ HasCause (directory_rule c.self.inside.stored.store c.args.at.now.named.node) e)
    (to_z-of_z w32 c.args.error fits) c.may_refuse_to_list.ensures)
