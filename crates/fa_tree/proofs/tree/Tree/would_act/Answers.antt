use Rattle.std.proofs.Common.{None}
use Rattle.fa_ledger.specs.Calls.{call_shown}
use Rattle.fa_ledger.proofs.CallerLemmas.{ok_also, err_also}
use Rattle.fa_ledger.specs.Operations.{action_shown}
use Rattle.fa_ledger.specs.Operations.PlainOperation.{Acts}
use Rattle.fa_tree.specs.Operations.{count_written}
use Rattle.fa_tree.specs.parts.NamedParts.{named_shown}
use Rattle.fa_tree.proofs.StepLemmas.{refused_so, all_hold_so}
use Rattle.fa_tree.proofs.tree.Tree.would_act.Goals as goal

pub returns-in-Some-clause-allowed : goal.returns-in-Some-clause-allowed
returns-in-Some-clause-allowed c =
    let o = Acts (action_shown c.args.action.now) in
    ok_also c.judge.result _ _ (λ ok wrote so_far.
    all_hold_so c.args.self.now (call_shown c.args.call.now) o c.requires.asks wrote so_far (named_shown c.in-Some.named None) c.in-Some.ensures.found
    (ok (count_written o wrote) so_far))
    c.judge.ensures.ok

pub returns-in-Some-clause-refused : goal.returns-in-Some-clause-refused
returns-in-Some-clause-refused c =
    let o = Acts (action_shown c.args.action.now) in
    err_also c.judge.result _ _ (λ code failure wrote so_far.
    refused_so c.args.self.now (call_shown c.args.call.now) o c.requires.asks wrote so_far (named_shown c.in-Some.named None) c.in-Some.ensures.found code
    (failure (count_written o wrote) so_far))
    c.judge.ensures.fault
