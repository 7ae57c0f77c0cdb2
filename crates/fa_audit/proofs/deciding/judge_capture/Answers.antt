use Rattle.std.proofs.lemmas.Result.{IfErr-weaker, IfOk-weaker}
use Rattle.fa_audit.proofs.OneProposal.{start_answered, exactly_fault, exactly_tree_fault}
use Rattle.fa_audit.proofs.SearchLemmas.{judged_start, decision_coded, no_decision_coded, if_judged, if_unjudged}
use Rattle.fa_audit.specs.Searched.{judgement_of}
use Rattle.fa_audit.proofs.deciding.judge_capture.Goals as goal

pub returns-clause-answer : goal.returns-clause-answer
returns-clause-answer c =
    rw c.judgement_of.ensures
    (if_judged c.args.capture.now _ c.decided.result (IfOk-weaker c.decided.result _ _ (λ decision of. of c.args.capture.now c.read_capture.ensures) c.decided.ensures.answer))

pub returns-clause-start : goal.returns-clause-start
returns-clause-start c =
    rw c.judgement_of.ensures
    (start_answered c.args.capture.now _ (judgement_of c.decided.result)
    (if_unjudged _ c.decided.result (IfErr-weaker c.decided.result _ _ (λ error of. of c.args.capture.now c.read_capture.ensures) c.decided.ensures.none)))

pub returns-clause-fault : goal.returns-clause-fault
returns-clause-fault c = λ at code.
    rw c.judgement_of.ensures
    (exactly_fault c.args.capture.now _ (judgement_of c.decided.result) at code
    (IfOk-weaker (judgement_of c.decided.result) _ _ (λ judgement is. judged_start c.args.capture.now _ judgement is)
    (if_judged c.args.capture.now _ c.decided.result (IfOk-weaker c.decided.result _ _ (λ decision of. of c.args.capture.now c.read_capture.ensures) c.decided.ensures.answer)))
    (if_unjudged _ c.decided.result (IfErr-weaker c.decided.result _ _ (λ error of. of c.args.capture.now c.read_capture.ensures) c.decided.ensures.none)))

pub returns-clause-tree_text : goal.returns-clause-tree_text
returns-clause-tree_text c = λ line.
    rw c.judgement_of.ensures
    (exactly_tree_fault c.args.capture.now _ (judgement_of c.decided.result) line
    (IfOk-weaker (judgement_of c.decided.result) _ _ (λ judgement is. judged_start c.args.capture.now _ judgement is)
    (if_judged c.args.capture.now _ c.decided.result (IfOk-weaker c.decided.result _ _ (λ decision of. of c.args.capture.now c.read_capture.ensures) c.decided.ensures.answer)))
    (if_unjudged _ c.decided.result (IfErr-weaker c.decided.result _ _ (λ error of. of c.args.capture.now c.read_capture.ensures) c.decided.ensures.none)))

pub returns-clause-codes : goal.returns-clause-codes
returns-clause-codes c =
    rw c.judgement_of.ensures
    (decision_coded c.args.capture.now _ c.decided.result (IfOk-weaker c.decided.result _ _ (λ decision of. of c.args.capture.now c.read_capture.ensures) c.decided.ensures.answer))

pub returns-clause-fault_codes : goal.returns-clause-fault_codes
returns-clause-fault_codes c =
    rw c.judgement_of.ensures
    (no_decision_coded c.args.capture.now _ c.decided.result (IfErr-weaker c.decided.result _ _ (λ error of. of c.args.capture.now c.read_capture.ensures) c.decided.ensures.none))
