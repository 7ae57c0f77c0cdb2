use Rattle.std.proofs.Common.{rules, ℤ, subst}
use Rattle.std.specs.Int.{w32}
use Rattle.std.proofs.lemmas.Int.{to_z-of_z}
use mir.Val.{SFits}
use Rattle.std.specs.Prelude.{◌↔◌, IsTrue}
use Rattle.fa_ledger.specs.Calls.{call_shown}
use Rattle.fa_ledger.specs.Operations.{list_shown}
use Rattle.fa_ledger.specs.Operations.PlainOperation.{Lists}
use Rattle.fa_tree.specs.Opening.{directory_rule}
use Rattle.fa_tree.specs.Rules.{HasCause}
use Rattle.fa_tree.specs.parts.NamedParts.{directory_shown}
use Rattle.fa_tree.proofs.TellingLemmas.{cause_so}
use Rattle.fa_tree.proofs.tree.Tree.gives_list_cause.Goals as goal

pub returns-in-Some-clause-known : goal.returns-in-Some-clause-known
returns-in-Some-clause-known c =
    let fits : SFits w32 c.args.error = search rules in
    cause_so c.args.self.now (call_shown c.args.call.now) (Lists (list_shown c.args.list.now)) c.requires.asks (directory_shown c.in-Some.at) c.in-Some.ensures.found c.may_refuse.result c.args.error
    (subst (λ (e : ℤ). IsTrue c.may_refuse.result ↔ HasCause (directory_rule c.args.self.now.store c.in-Some.at.named.node) e) (to_z-of_z w32 c.args.error fits) c.may_refuse.ensures)
