use Rattle.std.proofs.Common.{None}
use Rattle.fa_ledger.specs.Calls.{call_shown}
use Rattle.fa_ledger.specs.Operations.{action_shown}
use Rattle.fa_ledger.specs.Operations.PlainOperation.{Acts}
use Rattle.fa_tree.specs.parts.NamedParts.{named_shown}
use Rattle.fa_tree.proofs.TellingLemmas.{needs_so}
use Rattle.fa_tree.proofs.tree.Tree.allows_act.Goals as goal

pub returns-in-Some-clause-known : goal.returns-in-Some-clause-known
returns-in-Some-clause-known c =
    needs_so c.args.self.now (call_shown c.args.call.now) (Acts (action_shown c.args.action.now)) c.requires.asks (named_shown c.in-Some.named None) c.in-Some.ensures.found c.may_be_done.result
    c.may_be_done.ensures
