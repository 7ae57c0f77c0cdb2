use Rattle.std.proofs.Common.{rules, ◌≡◌, ℤ, Bool, None, sym, ap, subst, ◌∙◌}
use Rattle.std.specs.Int.{w32}
use Rattle.std.proofs.lemmas.Int.{to_z-of_z}
use mir.Val.{SFits}
use Rattle.std.specs.Prelude.{◌↔◌, IsTrue, IfSome}
use Rattle.fa_ledger.specs.Calls.{PlainCall, call_shown}
use Rattle.fa_ledger.specs.Operations.{operation_shown, action_shown, list_shown}
use Rattle.fa_ledger.specs.Operations.PlainOperation.{Lists, Acts}
use Rattle.fa_tree.specs.Resolved.{resolved}
use Rattle.fa_tree.specs.Rules.{HasCause}
use Rattle.fa_tree.specs.Telling.{OfRule}
use Rattle.fa_tree.proofs.StepLemmas.{of_call, unlisted, listing_there}
use Rattle.fa_tree.proofs.TellingLemmas.{some_also, none_also}
use Rattle.fa_tree.proofs.tree.Tree.gives_cause.Goals as goal

pub gives_list_cause-requires-clause-listing : goal.gives_list_cause-requires-clause-listing
gives_list_cause-requires-clause-listing c =
    let calls = c.args.calls.now in
    let call = c.call-call.result in
    let asks : (call_shown call).operation ≡ Lists (list_shown c.in-List.list) = sym c.operation-operation.ensures ∙ ap operation_shown c.in-List.is in
    listing_there calls.list calls.messages c.args.k (call_shown call) (list_shown c.in-List.list) calls.good c.call-call.ensures asks

pub gives_act_cause-requires-clause-plain : goal.gives_act_cause-requires-clause-plain
gives_act_cause-requires-clause-plain c =
    let calls = c.args.calls.now in
    let call = c.call-call.result in
    let asks : (call_shown call).operation ≡ Acts (action_shown c.in-Act.action) = sym c.operation-operation.ensures ∙ ap operation_shown c.in-Act.is in
    unlisted calls.list calls.messages c.args.k (call_shown call) (action_shown c.in-Act.action) calls.good c.call-call.ensures asks

pub returns-in-List-clause-known : goal.returns-in-List-clause-known
returns-in-List-clause-known c =
    let fits : SFits w32 c.args.error = search rules in
    some_also c.gives_list_cause.result (λ (told : Bool). OfRule c.args.self.now (call_shown c.call-call.result) (λ rule. IsTrue told ↔ HasCause rule c.args.error)) _ (λ told is.
    of_call c.args.calls.now.list c.args.k (call_shown c.call-call.result) (λ (other : PlainCall). OfRule c.args.self.now other (λ rule. IsTrue told ↔ HasCause rule c.args.error)) c.call-call.ensures is)
    (subst (λ (e : ℤ). IfSome c.gives_list_cause.result (λ told. OfRule c.args.self.now (call_shown c.call-call.result) (λ rule. IsTrue told ↔ HasCause rule e)))
    (to_z-of_z w32 c.args.error fits) c.gives_list_cause.ensures.known)

pub returns-in-List-clause-unknown : goal.returns-in-List-clause-unknown
returns-in-List-clause-unknown c =
    none_also c.gives_list_cause.result _ _ (λ is.
    of_call c.args.calls.now.list c.args.k (call_shown c.call-call.result) (λ (other : PlainCall). resolved c.args.self.now other ≡ None) c.call-call.ensures is)
    c.gives_list_cause.ensures.unknown

pub returns-in-Act-clause-known : goal.returns-in-Act-clause-known
returns-in-Act-clause-known c =
    let fits : SFits w32 c.args.error = search rules in
    some_also c.gives_act_cause.result (λ (told : Bool). OfRule c.args.self.now (call_shown c.call-call.result) (λ rule. IsTrue told ↔ HasCause rule c.args.error)) _ (λ told is.
    of_call c.args.calls.now.list c.args.k (call_shown c.call-call.result) (λ (other : PlainCall). OfRule c.args.self.now other (λ rule. IsTrue told ↔ HasCause rule c.args.error)) c.call-call.ensures is)
    (subst (λ (e : ℤ). IfSome c.gives_act_cause.result (λ told. OfRule c.args.self.now (call_shown c.call-call.result) (λ rule. IsTrue told ↔ HasCause rule e)))
    (to_z-of_z w32 c.args.error fits) c.gives_act_cause.ensures.known)

pub returns-in-Act-clause-unknown : goal.returns-in-Act-clause-unknown
returns-in-Act-clause-unknown c =
    none_also c.gives_act_cause.result _ _ (λ is.
    of_call c.args.calls.now.list c.args.k (call_shown c.call-call.result) (λ (other : PlainCall). resolved c.args.self.now other ≡ None) c.call-call.ensures is)
    c.gives_act_cause.ensures.unknown
