use Rattle.std.proofs.Common.{◌<◌, length, sym, subst, ◌∙◌, arith}
use Rattle.std.proofs.lemmas.Option.{slice_get_within, same_Some}
use Rattle.fa_ledger.specs.declared.calls.Calls.{Calls}
use Rattle.fa_ledger.specs.Calls.{PlainCall, call_shown}
use Rattle.fa_ledger.specs.Choices.{Allows}
use Rattle.fa_tree.specs.Steps.{OfCallAt}
use Rattle.fa_refusal.proofs.replaying.place_allowed.Goals as goal

pub call-requires : goal.call-requires
call-requires c =
    let found = c.in-Some.ensures.found in
    let within = slice_get_within c.calls-calls.result.now.list c.in-Some.place found.0 found.1 in
    omega (arith, within)

pub returns-clause-there : goal.returns-clause-there
returns-clause-there c =
    let found = c.in-Some.ensures.found in
    subst (λ (x : Calls). c.in-Some.place < length x.list) c.calls-calls.ensures (slice_get_within c.calls-calls.result.now.list c.in-Some.place found.0 found.1)

pub returns-clause-allowed : goal.returns-clause-allowed
returns-clause-allowed c =
    let allowed = c.allows.ensures.0 c.if-not-allows.false in
    let there = c.call.ensures in
    subst (λ (x : Calls). OfCallAt x.list c.in-Some.place (λ call. Allows call c.args.entry.wrote)) c.calls-calls.ensures
    (λ call at. subst (λ (x : PlainCall). Allows x c.args.entry.wrote) (same_Some (call_shown c.call.result) call (sym there ∙ at)) allowed)
