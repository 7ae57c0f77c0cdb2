-- From a capture that is at fault to any order, and from an explanation to what a run tells of it.
use Rattle.std.proofs.Common.{◌≢◌, ℕ, List, Option, IfOk, OnOk, Result, Ok, Err, refl, Vec}
use Rattle.std.specs.declared.alloc.Global.{Global}
use Rattle.fa_capture.specs.declared.capture.Capture.{Capture}
use Rattle.fa_capture.specs.Captures.{IsCaptureOf}
use Rattle.fa_check.specs.declared.verdict.Verdict.{Verdict}
use Rattle.fa_audit.specs.declared.verdict.AuditError.{AuditError}
use Rattle.fa_audit.specs.declared.found.Decision.{Decision}
use Rattle.fa_audit.specs.declared.running.RunFault.{RunFault}
use Rattle.fa_audit.specs.declared.running.TheConstants.{MAX_CAPTURE_INPUT_BYTES}
use Rattle.fa_audit.specs.declared.verdict.StartError.{StartError}
use Rattle.fa_audit.specs.declared.verdict.StartError.TheVariants.{Fault, TreeText, Memory}
use Rattle.fa_audit.specs.Proposed.{IsStart, IsProposed}
use Rattle.fa_audit.specs.Run.{IsRead}
use Rattle.fa_audit.specs.Searched.{IsDecisionAnswer, IsOrderWritten, judgement_of, order_found}
use Rattle.fa_reasons.specs.Explained.{IsExplained, IsExplanationTold, IsExplainedFrom, IsJudgementExplained, IsJudgementExplainedFrom, IsJudgementExplainedAndKept}
use Rattle.fa_audit.specs.Starts.{IsNoStart}
use Rattle.fa_audit.proofs.CallerLemmas.{start_no_fault, start_no_tree_fault, judge_answer}

-- where there is a fault, and not want of memory, there is no start
no_start_then : (capture : List ℕ) (tree : Option (List ℕ)) (error : StartError) → error ≢ Memory → IsNoStart capture tree error → IsStart capture tree → ⊥
no_start_then capture tree (Fault at code) told none start = start_no_fault capture tree at code start none
no_start_then capture tree (TreeText line) told none start = start_no_tree_fault capture tree line start none
no_start_then capture tree Memory told none start = told refl

-- so whatever order is taken then is the one that is proposed, if one is
pub taken_for_none : {E : Type 0} (capture : Capture) (tree : Option (List ℕ)) (error : StartError) (result : Result (Vec ℕ Global) E)
    → ((bytes : List ℕ) → IsCaptureOf bytes capture → IsNoStart bytes tree error) → OnOk result (error ≢ Memory)
    → IfOk result (λ text. (bytes : List ℕ) → IsCaptureOf bytes capture → IsStart bytes tree → IsProposed bytes tree text.items)
taken_for_none capture tree error (Ok text) none told = λ bytes is start. absurd (no_start_then bytes tree error told (none bytes is) start)
taken_for_none capture tree error (Err e) none told = tt

-- ---- what a run tells

-- an explanation that is told is that of the bytes that were read
pub explained_from : (result : Result ℕ RunFault) (capture old new : Option (List ℕ)) (Tree Order : Option (List ℕ) → Type 0) (c : List ℕ) (t o : Option (List ℕ)) (answer : Result Verdict AuditError)
    → IsRead MAX_CAPTURE_INPUT_BYTES capture c → Tree t → Order o → IsExplained c t o answer → IfOk result (IsExplanationTold answer old new)
    → IfOk result (IsExplainedFrom capture Tree Order old new)
explained_from (Ok status) capture old new Tree Order c t o answer read tree order is told =
    record { capture_bytes = c; tree_bytes = t; order_bytes = o; answer = answer; capture_read = read; tree_read = tree; order_read = order; is_explained = is; told = told }
explained_from (Err fault) capture old new Tree Order c t o answer read tree order is told = tt

-- and so is a judgement
pub judgement_explained_from : (result : Result ℕ RunFault) (capture old new : Option (List ℕ)) (Tree : Option (List ℕ) → Type 0) (c : List ℕ) (t : Option (List ℕ)) (decision : Result Decision StartError)
    → IsRead MAX_CAPTURE_INPUT_BYTES capture c → Tree t → IsDecisionAnswer c t decision → IfOk result (IsJudgementExplained (judgement_of decision) old new)
    → IfOk result (IsJudgementExplainedFrom capture Tree old new)
judgement_explained_from (Ok status) capture old new Tree c t decision read tree is told =
    record { capture_bytes = c; tree_bytes = t; answer = judgement_of decision; capture_read = read; tree_read = tree; is_answer = judge_answer c t decision is; told = told }
judgement_explained_from (Err fault) capture old new Tree c t decision read tree is told = tt

-- also where the order was kept
pub judgement_kept_from : (result : Result ℕ RunFault) (capture order_old order_new old new : Option (List ℕ)) (Tree : Option (List ℕ) → Type 0) (c : List ℕ) (t : Option (List ℕ)) (decision : Result Decision StartError)
    → IsRead MAX_CAPTURE_INPUT_BYTES capture c → Tree t → IsDecisionAnswer c t decision → IfOk result (IsJudgementExplained (judgement_of decision) old new)
    → OnOk result (IsOrderWritten (order_found decision) order_old order_new) → IfOk result (IsJudgementExplainedAndKept capture Tree order_old order_new old new)
judgement_kept_from (Ok status) capture order_old order_new old new Tree c t decision read tree is told kept =
    record { capture_bytes = c; tree_bytes = t; decision = decision; capture_read = read; tree_read = tree; is_answer = is; told = told; kept = kept }
judgement_kept_from (Err fault) capture order_old order_new old new Tree c t decision read tree is told kept = tt

-- lines with the status of a legal order that were told with their reasons are those of an answer
pub explained_lines_stand_from : (capture old new : Option (List ℕ)) (Tree : Option (List ℕ) → Type 0) (c : List ℕ) (t : Option (List ℕ)) (decision : Result Decision StartError)
    → IsRead MAX_CAPTURE_INPUT_BYTES capture c → Tree t → IsDecisionAnswer c t decision → IsJudgementExplained (judgement_of decision) old new 0
    → IsJudgementExplainedFrom capture Tree old new 0
explained_lines_stand_from capture old new Tree c t decision read tree is told =
    record { capture_bytes = c; tree_bytes = t; answer = judgement_of decision; capture_read = read; tree_read = tree; is_answer = judge_answer c t decision is; told = told }
