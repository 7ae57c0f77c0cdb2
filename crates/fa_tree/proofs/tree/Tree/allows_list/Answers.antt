use Rattle.fa_ledger.specs.Calls.{call_shown}
use Rattle.fa_ledger.specs.Operations.{list_shown}
use Rattle.fa_ledger.specs.Operations.PlainOperation.{Lists}
use Rattle.fa_tree.specs.parts.NamedParts.{directory_shown}
use Rattle.fa_tree.proofs.TellingLemmas.{needs_so}
use Rattle.fa_tree.proofs.tree.Tree.allows_list.Goals as goal

pub returns-in-Some-clause-known : goal.returns-in-Some-clause-known
returns-in-Some-clause-known c =
    needs_so c.args.self.now (call_shown c.args.call.now) (Lists (list_shown c.args.list.now)) c.requires.asks (directory_shown c.in-Some.at) c.in-Some.ensures.found c.may_list.result
    c.may_list.ensures
