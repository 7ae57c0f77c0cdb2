use Rattle.std.proofs.Common.{◌≡◌, Result, Ok, Err, refl, sym, ap, subst}
use Rattle.std.specs.Prelude.{OnOk, IfOk}
use Rattle.fa_check.specs.declared.placing.Placing.{Placing}
use Rattle.fa_check.specs.Verdicts.{IsVerdict}
use Rattle.fa_check.proofs.VerdictLemmas.{legal_exactly, not_shown_exactly, never_fault, along_next, all_replayed, failed_along}
use Rattle.fa_check.proofs.UnknownLemmas.{never_unknown}
use Rattle.fa_check.proofs.checking.verdict_along.Goals as goal

-- what is no error is a success
on_ok : {A E : Type 0} (r : Result A E) (P : Type 0) → OnOk r P → ((e : E) → r ≡ Err e → ⊥) → P
on_ok (Ok a) P holds other = holds
on_ok (Err e) P holds other = absurd (other e refl)

pub loop-entry-init : goal.loop-entry-init
loop-entry-init c = (c.new-replay.ensures, c.in_ok-placing.ensures c.args.tree.now)

pub returns-in-Err-clause-legal : goal.returns-in-Err-clause-legal
returns-in-Err-clause-legal c = λ messages is.
    legal_exactly messages c.args.tree.now c.args.order.now c.told.result
    (subst (λ r. IfOk r (IsVerdict messages c.args.tree.now c.args.order.now)) (sym c.told.ensures)
    (failed_along c.loop-entry.replay c.args.calls.now c.args.tree.now c.loop-entry.tree c.args.order.now c.loop-entry.entry-index _ c.loop-entry.placing c.place_in.new.self.count c.in-Err.error c.loop-entry-test.true c.loop-entry.invariant.0 c.loop-entry.invariant.1
    c.in-Err.ensures.refused (ap (λ (s : Placing). s.count) c.in-Err.ensures.unchanged.0) messages is))

pub returns-in-Err-clause-not_shown : goal.returns-in-Err-clause-not_shown
returns-in-Err-clause-not_shown c = λ messages is.
    not_shown_exactly messages c.args.tree.now c.args.order.now c.told.result
    (subst (λ r. IfOk r (IsVerdict messages c.args.tree.now c.args.order.now)) (sym c.told.ensures)
    (failed_along c.loop-entry.replay c.args.calls.now c.args.tree.now c.loop-entry.tree c.args.order.now c.loop-entry.entry-index _ c.loop-entry.placing c.place_in.new.self.count c.in-Err.error c.loop-entry-test.true c.loop-entry.invariant.0 c.loop-entry.invariant.1
    c.in-Err.ensures.refused (ap (λ (s : Placing). s.count) c.in-Err.ensures.unchanged.0) messages is))

pub returns-in-Err-clause-never_fault : goal.returns-in-Err-clause-never_fault
returns-in-Err-clause-never_fault c =
    never_fault c.args.calls.now c.args.tree.now c.args.order.now c.told.result (λ messages is.
    subst (λ r. IfOk r (IsVerdict messages c.args.tree.now c.args.order.now)) (sym c.told.ensures)
    (failed_along c.loop-entry.replay c.args.calls.now c.args.tree.now c.loop-entry.tree c.args.order.now c.loop-entry.entry-index _ c.loop-entry.placing c.place_in.new.self.count c.in-Err.error c.loop-entry-test.true c.loop-entry.invariant.0 c.loop-entry.invariant.1
    c.in-Err.ensures.refused (ap (λ (s : Placing). s.count) c.in-Err.ensures.unchanged.0) messages is))

pub returns-in-Err-clause-never_unknown : goal.returns-in-Err-clause-never_unknown
returns-in-Err-clause-never_unknown c =
    never_unknown c.args.calls.now c.args.tree.now c.args.order.now c.told.result (λ messages is.
    subst (λ r. IfOk r (IsVerdict messages c.args.tree.now c.args.order.now)) (sym c.told.ensures)
    (failed_along c.loop-entry.replay c.args.calls.now c.args.tree.now c.loop-entry.tree c.args.order.now c.loop-entry.entry-index _ c.loop-entry.placing c.place_in.new.self.count c.in-Err.error c.loop-entry-test.true c.loop-entry.invariant.0 c.loop-entry.invariant.1
    c.in-Err.ensures.refused (ap (λ (s : Placing). s.count) c.in-Err.ensures.unchanged.0) messages is))

pub loop-entry-preserved : goal.loop-entry-preserved
loop-entry-preserved c =
    along_next c.loop-entry.replay c.place_in.new.replay c.args.calls.now c.args.tree.now c.loop-entry.tree c.place_in.new.tree c.args.order.now c.loop-entry.entry-index _ c.loop-entry.placing c.place_in.new.self
    c.loop-entry-test.true c.loop-entry.invariant.0 c.place_in.ensures.same (on_ok c.place_in.result _ c.place_in.ensures.placed c.in_default.not-Err) c.loop-entry.invariant.1

pub returns-clause-legal : goal.returns-clause-legal
returns-clause-legal c = λ messages is.
    legal_exactly messages c.args.tree.now c.args.order.now (Ok c.verdict.result)
    (c.verdict.ensures c.args.tree.now c.loop-entry.tree c.args.order.now
    (all_replayed c.args.calls.now c.args.tree.now c.loop-entry.tree c.args.order.now c.loop-entry.entry-index c.loop-entry.placing c.loop-entry-test.false c.loop-entry.invariant.1) messages is)

pub returns-clause-not_shown : goal.returns-clause-not_shown
returns-clause-not_shown c = λ messages is.
    not_shown_exactly messages c.args.tree.now c.args.order.now (Ok c.verdict.result)
    (c.verdict.ensures c.args.tree.now c.loop-entry.tree c.args.order.now
    (all_replayed c.args.calls.now c.args.tree.now c.loop-entry.tree c.args.order.now c.loop-entry.entry-index c.loop-entry.placing c.loop-entry-test.false c.loop-entry.invariant.1) messages is)

pub returns-clause-never_fault : goal.returns-clause-never_fault
returns-clause-never_fault c =
    never_fault c.args.calls.now c.args.tree.now c.args.order.now (Ok c.verdict.result) (λ messages is.
    c.verdict.ensures c.args.tree.now c.loop-entry.tree c.args.order.now
    (all_replayed c.args.calls.now c.args.tree.now c.loop-entry.tree c.args.order.now c.loop-entry.entry-index c.loop-entry.placing c.loop-entry-test.false c.loop-entry.invariant.1) messages is)

pub returns-clause-never_unknown : goal.returns-clause-never_unknown
returns-clause-never_unknown c =
    never_unknown c.args.calls.now c.args.tree.now c.args.order.now (Ok c.verdict.result) (λ messages is.
    c.verdict.ensures c.args.tree.now c.loop-entry.tree c.args.order.now
    (all_replayed c.args.calls.now c.args.tree.now c.loop-entry.tree c.args.order.now c.loop-entry.entry-index c.loop-entry.placing c.loop-entry-test.false c.loop-entry.invariant.1) messages is)
