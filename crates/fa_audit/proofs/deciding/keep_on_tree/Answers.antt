use Rattle.std.proofs.Common.{rules, Some, refl}
use Rattle.std.proofs.lemmas.Result.{IfErr-weaker, IfOk-weaker}
use Rattle.fa_audit.proofs.SearchLemmas.{decision_coded, no_decision_coded}
use Rattle.fa_audit.proofs.SearchRunLemmas.{decision_or_memory, kept_from, lines_stand_from}
use Rattle.fa_audit.proofs.StoredLemmas.{bytes_stored}
use Rattle.fa_audit.proofs.deciding.keep_on_tree.Goals as goal

pub tell_and_keep-requires-clause-coded : goal.tell_and_keep-requires-clause-coded
tell_and_keep-requires-clause-coded g c =
    decision_coded c.in_ok-stored.stored _ c.decided-decision.result
    (IfOk-weaker c.decided-decision.result _ _ (λ decision of. of c.in_ok-stored.stored (c.with_seed.ensures.same c.in_ok-stored.stored c.capture.ensures)) c.decided-decision.ensures.answer)

pub tell_and_keep-requires-clause-coded_fault : goal.tell_and_keep-requires-clause-coded_fault
tell_and_keep-requires-clause-coded_fault g c =
    no_decision_coded c.in_ok-stored.stored _ c.decided-decision.result
    (IfErr-weaker c.decided-decision.result _ _ (λ error of. of c.in_ok-stored.stored (c.with_seed.ensures.same c.in_ok-stored.stored c.capture.ensures)) c.decided-decision.ensures.none)

pub returns-clause-told : goal.returns-clause-told
returns-clause-told g c =
    let read = bytes_stored _ _ c.with_seed.result c.in_ok-stored.ensures.capture (c.with_seed.ensures.same c.in_ok-stored.stored c.capture.ensures) in
    kept_from c.tell_and_keep.result _ _ _ _ _ _ read.0 (Some c.in_ok-tree.tree.items) c.decided-decision.result read.1
    (c.in_ok-tree.tree.items, refl, record { whole = c.in_ok-tree.ensures.bytes; within = (search rules) })
    (rw (← c.deref.ensures.value)
    (decision_or_memory _ _ c.decided-decision.result (IfOk-weaker c.decided-decision.result _ _ (λ decision of. of read.0 read.2) c.decided-decision.ensures.answer)
    (IfErr-weaker c.decided-decision.result _ _ (λ error of. of read.0 read.2) c.decided-decision.ensures.none)))
    c.tell_and_keep.ensures.told c.tell_and_keep.ensures.kept c.tell_and_keep.ensures.answered

pub returns-clause-lines_stand : goal.returns-clause-lines_stand
returns-clause-lines_stand g c = λ broken.
    let read = bytes_stored _ _ c.with_seed.result c.in_ok-stored.ensures.capture (c.with_seed.ensures.same c.in_ok-stored.stored c.capture.ensures) in
    lines_stand_from _ _ _ _ read.0 (Some c.in_ok-tree.tree.items) c.decided-decision.result read.1
    (c.in_ok-tree.tree.items, refl, record { whole = c.in_ok-tree.ensures.bytes; within = (search rules) })
    (rw (← c.deref.ensures.value)
    (decision_or_memory _ _ c.decided-decision.result (IfOk-weaker c.decided-decision.result _ _ (λ decision of. of read.0 read.2) c.decided-decision.ensures.answer)
    (IfErr-weaker c.decided-decision.result _ _ (λ error of. of read.0 read.2) c.decided-decision.ensures.none)))
    (c.tell_and_keep.ensures.lines_stand broken)
