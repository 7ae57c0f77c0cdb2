use Rattle.std.proofs.Common.{inl, inr}
use Rattle.std.proofs.lemmas.Result.{IfErr-weaker, IfOk-weaker}
use Rattle.fa_audit.proofs.CallerLemmas.{decision_coded, no_decision_coded, decision_or_memory}
use Rattle.fa_reasons.proofs.explaining_judgement.explain_judgement.Goals as goal

pub returns-clause-answer : goal.returns-clause-answer
returns-clause-answer g c =
    let decision = c.decided-decision.result in
    let read = c.with_seed-parsed.ensures.same c.args.capture.now c.read_capture.ensures in
    elim (decision_or_memory c.args.capture.now _ decision (IfOk-weaker decision _ _ (λ is of. of c.args.capture.now read) c.decided-decision.ensures.answer)
    (IfErr-weaker decision _ _ (λ error of. of c.args.capture.now read) c.decided-decision.ensures.none)) [
      | inl refused ↦ absurd (c.in_ok-text.ensures refused)
      | inr is ↦ is
    ]

pub returns-clause-codes : goal.returns-clause-codes
returns-clause-codes g c =
    let read = c.with_seed-parsed.ensures.same c.args.capture.now c.read_capture.ensures in
    decision_coded c.args.capture.now _ c.decided-decision.result (IfOk-weaker c.decided-decision.result _ _ (λ is of. of c.args.capture.now read) c.decided-decision.ensures.answer)

pub returns-clause-fault_codes : goal.returns-clause-fault_codes
returns-clause-fault_codes g c =
    let read = c.with_seed-parsed.ensures.same c.args.capture.now c.read_capture.ensures in
    no_decision_coded c.args.capture.now _ c.decided-decision.result (IfErr-weaker c.decided-decision.result _ _ (λ error of. of c.args.capture.now read) c.decided-decision.ensures.none)
