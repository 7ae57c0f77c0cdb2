use Rattle.fa_ledger.specs.Calls.{call_shown}
use Rattle.fa_ledger.specs.Operations.{list_shown}
use Rattle.fa_ledger.specs.Operations.PlainOperation.{Lists}
use Rattle.fa_ledger.specs.SoFar.{listing_so_far}
use Rattle.fa_tree.proofs.StepLemmas.{all_hold_so}
use Rattle.fa_tree.proofs.tree.Tree.would_list.Goals as goal

pub returns-clause-allowed : goal.returns-clause-allowed
returns-clause-allowed c = λ wrote.
    let ok = c.in_ok-judge_named.ensures.ok in
    all_hold_so c.args.self.now (call_shown c.args.call.now) (Lists (list_shown c.args.list.now)) c.requires.asks wrote (listing_so_far c.args.replay.now.list c.args.k) ok.0 ok.1 ok.2
