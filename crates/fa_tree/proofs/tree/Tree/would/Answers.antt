use Rattle.std.proofs.Common.{◌≡◌, ℕ, Option, ap, sym, subst, ◌∙◌}
use Rattle.std.specs.Prelude.{slice_get}
use Rattle.fa_capture.specs.Checks.{AllHold}
use Rattle.fa_ledger.specs.declared.calls.Calls.{Calls}
use Rattle.fa_ledger.specs.Calls.{PlainCall, call_shown}
use Rattle.fa_ledger.specs.Operations.{PlainOperation, operation_shown, action_shown, list_shown}
use Rattle.fa_ledger.specs.Operations.PlainOperation.{Lists, Acts}
use Rattle.fa_ledger.specs.SoFar.{listing_so_far}
use Rattle.fa_ledger.proofs.CallerLemmas.{ok_also, err_also}
use Rattle.fa_tree.specs.Telling.{Foretells}
use Rattle.fa_tree.specs.Steps.{step_checks}
use Rattle.fa_tree.proofs.StepLemmas.{of_call, unlisted, listing_there}
use Rattle.fa_tree.proofs.tree.Tree.would.Goals as goal

pub would_list-requires-clause-there : goal.would_list-requires-clause-there
would_list-requires-clause-there c = ap (λ (x : Calls). slice_get x.list c.args.k) (sym c.calls.ensures) ∙ c.call-call.ensures

pub would_list-requires-clause-listing : goal.would_list-requires-clause-listing
would_list-requires-clause-listing c =
    let calls = c.args.replay.now in
    let call = c.call-call.result in
    let there = ap (λ (x : Calls). slice_get x.list c.args.k) (sym c.calls.ensures) ∙ c.call-call.ensures in
    let asks : (call_shown call).operation ≡ Lists (list_shown c.in-List.list) = sym c.operation-operation.ensures ∙ ap operation_shown c.in-List.is in
    listing_there calls.list calls.messages c.args.k (call_shown call) (list_shown c.in-List.list) calls.good there asks

pub would_act-requires-clause-plain : goal.would_act-requires-clause-plain
would_act-requires-clause-plain c =
    let calls = c.args.replay.now in
    let call = c.call-call.result in
    let there = ap (λ (x : Calls). slice_get x.list c.args.k) (sym c.calls.ensures) ∙ c.call-call.ensures in
    let asks : (call_shown call).operation ≡ Acts (action_shown c.in-Act.action) = sym c.operation-operation.ensures ∙ ap operation_shown c.in-Act.is in
    unlisted calls.list calls.messages c.args.k (call_shown call) (action_shown c.in-Act.action) calls.good there asks

pub returns-in-List-clause-allowed : goal.returns-in-List-clause-allowed
returns-in-List-clause-allowed c =
    let calls = c.args.replay.now in
    let call = c.call-call.result in
    let there = ap (λ (x : Calls). slice_get x.list c.args.k) (sym c.calls.ensures) ∙ c.call-call.ensures in
    let so_far = listing_so_far calls.list c.args.k in
    ok_also c.would_list.result _ _ (λ hold.
    of_call calls.list c.args.k (call_shown call) (λ (other : PlainCall). (wrote : Option ℕ) → AllHold (step_checks c.args.self.now other wrote so_far)) there (λ wrote. hold wrote))
    c.would_list.ensures.allowed

pub returns-in-List-clause-refused : goal.returns-in-List-clause-refused
returns-in-List-clause-refused c =
    let calls = c.args.replay.now in
    let call = c.call-call.result in
    let there = ap (λ (x : Calls). slice_get x.list c.args.k) (sym c.calls.ensures) ∙ c.call-call.ensures in
    let asks : (call_shown call).operation ≡ Lists (list_shown c.in-List.list) = sym c.operation-operation.ensures ∙ ap operation_shown c.in-List.is in
    let so_far = listing_so_far calls.list c.args.k in
    err_also c.would_list.result _ _ (λ e tells.
    of_call calls.list c.args.k (call_shown call) (λ (other : PlainCall). (wrote : Option ℕ) → Foretells e other.operation (step_checks c.args.self.now other wrote so_far)) there
    (λ wrote. subst (λ (o : PlainOperation). Foretells e o (step_checks c.args.self.now (call_shown call) wrote so_far)) (sym asks) (tells wrote)))
    c.would_list.ensures.refused
