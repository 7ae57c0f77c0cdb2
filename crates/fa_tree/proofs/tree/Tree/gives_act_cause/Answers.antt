use Rattle.std.proofs.Common.{rules, None, ℤ, subst}
use Rattle.std.specs.Int.{w32}
use Rattle.std.proofs.lemmas.Int.{to_z-of_z}
use mir.Val.{SFits}
use Rattle.std.specs.Prelude.{◌↔◌, IsTrue}
use Rattle.fa_ledger.specs.Calls.{call_shown}
use Rattle.fa_ledger.specs.Operations.{action_shown}
use Rattle.fa_ledger.specs.Operations.PlainOperation.{Acts}
use Rattle.fa_tree.specs.Operations.{action_rule}
use Rattle.fa_tree.specs.Rules.{HasCause}
use Rattle.fa_tree.specs.parts.NamedParts.{named_shown}
use Rattle.fa_tree.proofs.TellingLemmas.{cause_so}
use Rattle.fa_tree.proofs.tree.Tree.gives_act_cause.Goals as goal

pub returns-in-Some-clause-known : goal.returns-in-Some-clause-known
returns-in-Some-clause-known c =
    let x = named_shown c.in-Some.named None in
    let a = action_shown c.args.action.now in
    let fits : SFits w32 c.args.error = search rules in
    cause_so c.args.self.now (call_shown c.args.call.now) (Acts a) c.requires.asks x c.in-Some.ensures.found c.has_cause.result c.args.error
    (subst (λ (e : ℤ). IsTrue c.has_cause.result ↔ HasCause (action_rule c.args.self.now.store x a) e) (to_z-of_z w32 c.args.error fits) c.has_cause.ensures)
