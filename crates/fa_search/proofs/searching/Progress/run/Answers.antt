use Rattle.std.proofs.Common.{◌≡◌, ◌∙◌, ℕ, length, refl, subst, ap}
use Rattle.fa_ledger.specs.declared.calls.Calls.{Calls}
use Rattle.fa_search.specs.parts.Settling.{AreHeldBy}
use Rattle.fa_search.proofs.SearchLemmas.{held_by_is_legal}
use Rattle.fa_search.proofs.searching.Progress.run.Goals as goal

pub returns-in_ok-take_order-in-None-clause-found : goal.returns-in_ok-take_order-in-None-clause-found
returns-in_ok-take_order-in-None-clause-found g c = λ m first are is.
    let progress = c.pass_until.new.self in
    let on = rw c.in-None.is at c.in_ok-ended.ensures.on in
    let here = rw c.in-None.is at c.in_ok-ended.ensures.at in
    let now = on refl m first are is in
    let found = c.in_ok-take_order-in-None.ensures in
    let many : c.calls.result.now.messages ≡ length m = ap (λ (calls : Calls). calls.messages) c.calls.ensures ∙ are.counted in
    let all : progress.flight.at ≡ length m = here refl ∙ many in
    held_by_is_legal m first progress.common.items progress.held.items found.0 c.in_ok-take_order-in-None.field-0.items are.good found.1
    (subst (λ (k : ℕ). AreHeldBy m first progress.common.items k progress.held.items) all now.held) found.2
