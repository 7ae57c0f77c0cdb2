use Rattle.std.proofs.Common.{rules, None, false, ℤ, subst}
use Rattle.std.specs.Int.{w32}
use Rattle.std.proofs.lemmas.Int.{to_z-of_z}
use mir.Val.{SFits}
use Rattle.std.specs.Prelude.{◌↔◌, IsTrue}
use Rattle.fa_ledger.specs.Operations.{action_shown}
use Rattle.fa_tree.specs.Operations.{action_rule}
use Rattle.fa_tree.specs.Rules.{HasCause}
use Rattle.fa_tree.specs.parts.NamedParts.{named_shown}
use Rattle.fa_tree.specs.parts.TreeView.{tree_shown}
use Rattle.fa_tree.proofs.JudgeLemmas.{cause_still}
use Rattle.fa_tree.proofs.tree.Tree.has_cause.Goals as goal

pub returns : goal.returns
returns c =
    let fits : SFits w32 c.args.error = search rules in
    cause_still (tree_shown c.self.inside) c.args.self.now c.self.view_is (named_shown c.args.named.now None) false (action_shown c.args.action.now) c.has_cause.result c.args.error
    (subst (λ (e : ℤ). IsTrue c.has_cause.result ↔ HasCause (action_rule c.self.inside.stored.store (named_shown c.args.named.now None) (action_shown c.args.action.now)) e)
    (to_z-of_z w32 c.args.error fits) (c.has_cause.ensures None))
