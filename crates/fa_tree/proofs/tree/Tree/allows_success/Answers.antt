use Rattle.std.proofs.Common.{◌≡◌, None, sym, ap, ◌∙◌}
use Rattle.std.specs.Prelude.{◌↔◌, IsTrue}
use Rattle.fa_ledger.specs.Calls.{PlainCall, call_shown}
use Rattle.fa_ledger.specs.Operations.{operation_shown, action_shown, list_shown}
use Rattle.fa_ledger.specs.Operations.PlainOperation.{Lists, Acts}
use Rattle.fa_tree.specs.Resolved.{resolved}
use Rattle.fa_tree.specs.Telling.{OfRule}
use Rattle.fa_tree.proofs.StepLemmas.{of_call, unlisted, listing_there}
use Rattle.fa_tree.proofs.TellingLemmas.{some_also, none_also}
use Rattle.fa_tree.proofs.tree.Tree.allows_success.Goals as goal

pub allows_list-requires-clause-listing : goal.allows_list-requires-clause-listing
allows_list-requires-clause-listing c =
    let calls = c.args.calls.now in
    let call = c.call-call.result in
    let asks : (call_shown call).operation ≡ Lists (list_shown c.in-List.list) = sym c.operation-operation.ensures ∙ ap operation_shown c.in-List.is in
    listing_there calls.list calls.messages c.args.k (call_shown call) (list_shown c.in-List.list) calls.good c.call-call.ensures asks

pub allows_act-requires-clause-plain : goal.allows_act-requires-clause-plain
allows_act-requires-clause-plain c =
    let calls = c.args.calls.now in
    let call = c.call-call.result in
    let asks : (call_shown call).operation ≡ Acts (action_shown c.in-Act.action) = sym c.operation-operation.ensures ∙ ap operation_shown c.in-Act.is in
    unlisted calls.list calls.messages c.args.k (call_shown call) (action_shown c.in-Act.action) calls.good c.call-call.ensures asks

pub returns-in-List-clause-known : goal.returns-in-List-clause-known
returns-in-List-clause-known c =
    some_also c.allows_list.result _ _ (λ told is.
    of_call c.args.calls.now.list c.args.k (call_shown c.call-call.result) (λ (other : PlainCall). OfRule c.args.self.now other (λ rule. IsTrue told ↔ rule.needs)) c.call-call.ensures is)
    c.allows_list.ensures.known

pub returns-in-List-clause-unknown : goal.returns-in-List-clause-unknown
returns-in-List-clause-unknown c =
    none_also c.allows_list.result _ _ (λ is.
    of_call c.args.calls.now.list c.args.k (call_shown c.call-call.result) (λ (other : PlainCall). resolved c.args.self.now other ≡ None) c.call-call.ensures is)
    c.allows_list.ensures.unknown

pub returns-in-Act-clause-known : goal.returns-in-Act-clause-known
returns-in-Act-clause-known c =
    some_also c.allows_act.result _ _ (λ told is.
    of_call c.args.calls.now.list c.args.k (call_shown c.call-call.result) (λ (other : PlainCall). OfRule c.args.self.now other (λ rule. IsTrue told ↔ rule.needs)) c.call-call.ensures is)
    c.allows_act.ensures.known

pub returns-in-Act-clause-unknown : goal.returns-in-Act-clause-unknown
returns-in-Act-clause-unknown c =
    none_also c.allows_act.result _ _ (λ is.
    of_call c.args.calls.now.list c.args.k (call_shown c.call-call.result) (λ (other : PlainCall). resolved c.args.self.now other ≡ None) c.call-call.ensures is)
    c.allows_act.ensures.unknown
