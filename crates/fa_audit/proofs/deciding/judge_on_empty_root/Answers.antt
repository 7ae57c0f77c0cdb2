use Rattle.std.proofs.Common.{None, refl}
use Rattle.std.proofs.lemmas.Result.{IfErr-weaker, IfOk-weaker}
use Rattle.fa_audit.proofs.SearchLemmas.{decision_coded, no_decision_coded}
use Rattle.fa_audit.proofs.SearchRunLemmas.{decision_or_memory, judged_from}
use Rattle.fa_audit.proofs.StoredLemmas.{bytes_stored}
use Rattle.fa_audit.proofs.deciding.judge_on_empty_root.Goals as goal

pub tell_judgement-requires-clause-coded : goal.tell_judgement-requires-clause-coded
tell_judgement-requires-clause-coded g c =
    rw c.judgement_of.ensures
    (decision_coded c.in_ok-stored.stored _ c.decided-decision.result
    (IfOk-weaker c.decided-decision.result _ _ (λ decision of. of c.in_ok-stored.stored (c.with_seed.ensures.same c.in_ok-stored.stored c.capture.ensures)) c.decided-decision.ensures.answer))

pub tell_judgement-requires-clause-coded_fault : goal.tell_judgement-requires-clause-coded_fault
tell_judgement-requires-clause-coded_fault g c =
    rw c.judgement_of.ensures
    (no_decision_coded c.in_ok-stored.stored _ c.decided-decision.result
    (IfErr-weaker c.decided-decision.result _ _ (λ error of. of c.in_ok-stored.stored (c.with_seed.ensures.same c.in_ok-stored.stored c.capture.ensures)) c.decided-decision.ensures.none))

pub returns-clause-told : goal.returns-clause-told
returns-clause-told g c =
    let read = bytes_stored _ _ c.with_seed.result c.in_ok-stored.ensures.capture (c.with_seed.ensures.same c.in_ok-stored.stored c.capture.ensures) in
    judged_from c.tell_judgement.result _ _ _ _ read.0 None c.decided-decision.result read.1
    refl
    (decision_or_memory _ _ c.decided-decision.result (IfOk-weaker c.decided-decision.result _ _ (λ decision of. of read.0 read.2) c.decided-decision.ensures.answer)
    (IfErr-weaker c.decided-decision.result _ _ (λ error of. of read.0 read.2) c.decided-decision.ensures.none))
    (rw c.judgement_of.ensures at c.tell_judgement.ensures.told) (rw c.judgement_of.ensures at c.tell_judgement.ensures.answered)
