use Rattle.std.proofs.Common.{◌≡◌, ap, sym, ◌∙◌}
use Rattle.std.specs.Prelude.{slice_get}
use Rattle.fa_ledger.specs.declared.calls.Calls.{Calls}
use Rattle.fa_ledger.specs.Calls.{PlainCall, call_shown}
use Rattle.fa_ledger.specs.Operations.{operation_shown, action_shown, list_shown}
use Rattle.fa_ledger.specs.Operations.PlainOperation.{Lists, Acts}
use Rattle.fa_ledger.specs.SoFar.{listing_so_far}
use Rattle.fa_ledger.proofs.CallerLemmas.{ok_also, err_also}
use Rattle.fa_tree.specs.Refusals.{TellsOf}
use Rattle.fa_tree.specs.Steps.{step_checks, Steps}
use Rattle.fa_tree.proofs.StepLemmas.{of_call, unlisted, listing_there}
use Rattle.fa_tree.proofs.tree.Tree.step_in.Goals as goal

pub list-requires-clause-there : goal.list-requires-clause-there
list-requires-clause-there c = ap (λ (x : Calls). slice_get x.list c.args.k) (sym c.calls.ensures) ∙ c.call-call.ensures

pub list-requires-clause-listing : goal.list-requires-clause-listing
list-requires-clause-listing c =
    let calls = c.args.replay.now in
    let call = c.call-call.result in
    let there = ap (λ (x : Calls). slice_get x.list c.args.k) (sym c.calls.ensures) ∙ c.call-call.ensures in
    let asks : (call_shown call).operation ≡ Lists (list_shown c.in-List.list) = sym c.operation-operation.ensures ∙ ap operation_shown c.in-List.is in
    listing_there calls.list calls.messages c.args.k (call_shown call) (list_shown c.in-List.list) calls.good there asks

pub act-requires-clause-plain : goal.act-requires-clause-plain
act-requires-clause-plain c =
    let calls = c.args.replay.now in
    let call = c.call-call.result in
    let there = ap (λ (x : Calls). slice_get x.list c.args.k) (sym c.calls.ensures) ∙ c.call-call.ensures in
    let asks : (call_shown call).operation ≡ Acts (action_shown c.in-Act.action) = sym c.operation-operation.ensures ∙ ap operation_shown c.in-Act.is in
    unlisted calls.list calls.messages c.args.k (call_shown call) (action_shown c.in-Act.action) calls.good there asks

pub returns-in-List-clause-steps : goal.returns-in-List-clause-steps
returns-in-List-clause-steps c =
    let calls = c.args.replay.now in
    let call = c.call-call.result in
    let there = ap (λ (x : Calls). slice_get x.list c.args.k) (sym c.calls.ensures) ∙ c.call-call.ensures in
    let so_far = listing_so_far calls.list c.args.k in
    ok_also c.list.result _ _ (λ steps.
    of_call calls.list c.args.k (call_shown call) (λ (other : PlainCall). Steps c.args.self.now c.list.new.self other c.args.wrote so_far) there (steps c.args.wrote))
    c.list.ensures.steps

pub returns-in-List-clause-refused : goal.returns-in-List-clause-refused
returns-in-List-clause-refused c =
    let calls = c.args.replay.now in
    let call = c.call-call.result in
    let there = ap (λ (x : Calls). slice_get x.list c.args.k) (sym c.calls.ensures) ∙ c.call-call.ensures in
    let so_far = listing_so_far calls.list c.args.k in
    err_also c.list.result _ _ (λ e tells.
    of_call calls.list c.args.k (call_shown call) (λ (other : PlainCall). TellsOf e other (step_checks c.args.self.now other c.args.wrote so_far)) there (tells c.args.wrote))
    c.list.ensures.refused

pub returns-in-Act-clause-steps : goal.returns-in-Act-clause-steps
returns-in-Act-clause-steps c =
    let calls = c.args.replay.now in
    let call = c.call-call.result in
    let there = ap (λ (x : Calls). slice_get x.list c.args.k) (sym c.calls.ensures) ∙ c.call-call.ensures in
    let so_far = listing_so_far calls.list c.args.k in
    ok_also c.act.result _ _ (λ steps.
    of_call calls.list c.args.k (call_shown call) (λ (other : PlainCall). Steps c.args.self.now c.act.new.self other c.args.wrote so_far) there (steps so_far))
    c.act.ensures.steps

pub returns-in-Act-clause-refused : goal.returns-in-Act-clause-refused
returns-in-Act-clause-refused c =
    let calls = c.args.replay.now in
    let call = c.call-call.result in
    let there = ap (λ (x : Calls). slice_get x.list c.args.k) (sym c.calls.ensures) ∙ c.call-call.ensures in
    let so_far = listing_so_far calls.list c.args.k in
    err_also c.act.result _ _ (λ e tells.
    of_call calls.list c.args.k (call_shown call) (λ (other : PlainCall). TellsOf e other (step_checks c.args.self.now other c.args.wrote so_far)) there (tells so_far))
    c.act.ensures.refused
