-- From what is told as a page to what a run tells of the bytes that it read.
use Rattle.std.proofs.Common.{◌≡◌, ℕ, List, Option, Some, IfOk, Result, Ok, Err, sym, subst}
use Rattle.fa_check.specs.declared.verdict.Verdict.{Verdict}
use Rattle.fa_audit.specs.declared.verdict.AuditError.{AuditError}
use Rattle.fa_audit.specs.declared.verdict.StartError.{StartError}
use Rattle.fa_audit.specs.declared.verdict.StartError.TheVariants.{Fault, TreeText}
use Rattle.fa_audit.specs.declared.found.Judgement.{Judgement}
use Rattle.fa_reasons.specs.declared.order_pages.OrderPage.{OrderPage}
use Rattle.fa_audit.specs.declared.running.RunFault.{RunFault}
use Rattle.fa_audit.specs.declared.running.TheConstants.{MAX_CAPTURE_INPUT_BYTES, MAX_TEXT_INPUT_BYTES}
use Rattle.fa_reasons.specs.Explained.{IsExplained, IsJudgementExplained}
use Rattle.fa_audit.specs.Line.{judgement_status}
use Rattle.fa_reasons.specs.Pages.{page_status, IsPageTold, IsPageOf, IsPageFrom, IsReportTold, IsReportOf, IsReportFrom}
use Rattle.fa_audit.specs.Run.{IsRead}
use Rattle.fa_audit.specs.Searched.{IsJudgeAnswer}
use Rattle.fa_audit.specs.Status.{status_number}
use Rattle.fa_audit.specs.declared.status.Status.TheVariants as status
use Rattle.fa_audit.specs.Showing.{IsPrintingWritten}
use Rattle.fa_audit.specs.Verdict.{IsAnswer}

-- what is written with a status is written with an equal one
pub written_with : (result : Result ℕ RunFault) (old new : Option (List ℕ)) (a b : ℕ) → a ≡ b → IfOk result (IsPrintingWritten a old new) → IfOk result (IsPrintingWritten b old new)
written_with result old new a b same told = subst (λ (due : ℕ). IfOk result (IsPrintingWritten due old new)) same told

-- a verdict whose page is written is told as one
pub page_told : (result : Result ℕ RunFault) (page : OrderPage) (old new : Option (List ℕ)) (answer : Result Verdict AuditError) (verdict : Verdict) (due : ℕ) → answer ≡ Ok verdict → due ≡ page_status page verdict
    → IfOk result (IsPrintingWritten due old new) → IfOk result (IsPageTold page answer old new)
page_told (Ok status) page old new answer verdict due is same told =
    subst (λ (a : Result Verdict AuditError). IsPageTold page a old new status) (sym is) (subst (λ (n : ℕ). IsPrintingWritten n old new status) same told)
page_told (Err fault) page old new answer verdict due is same told = tt

-- an answer that is explained and told as a page
pub page_of : (result : Result ℕ RunFault) (page : OrderPage) (capture : List ℕ) (tree : Option (List ℕ)) (order : List ℕ) (old new : Option (List ℕ)) (answer : Result Verdict AuditError)
    → IsExplained capture tree (Some order) answer → IfOk result (IsPageTold page answer old new) → IfOk result (IsPageOf page capture tree order old new)
page_of (Ok status) page capture tree order old new answer is told =
    record { answer = answer; is_answer = subst (λ (text : List ℕ). IsAnswer capture tree text answer) is.used is.is_answer; told = told }
page_of (Err fault) page capture tree order old new answer is told = tt

-- which is that of the bytes that were read
pub page_from : (result : Result ℕ RunFault) (page : OrderPage) (capture : Option (List ℕ)) (Tree : Option (List ℕ) → Type 0) (order old new : Option (List ℕ)) (c : List ℕ) (t : Option (List ℕ)) (o : List ℕ)
    → IsRead MAX_CAPTURE_INPUT_BYTES capture c → Tree t → IsRead MAX_TEXT_INPUT_BYTES order o → IfOk result (IsPageOf page c t o old new)
    → IfOk result (IsPageFrom page capture Tree order old new)
page_from (Ok status) page capture Tree order old new c t o read tree text is =
    record { capture_bytes = c; tree_bytes = t; order_bytes = o; capture_read = read; tree_read = tree; order_read = text; is_page = is }
page_from (Err fault) page capture Tree order old new c t o read tree text is = tt

-- what is judged and written as a report is told so
pub judged_told : (result : Result ℕ RunFault) (old new : Option (List ℕ)) (judgement : Judgement) → IfOk result (IsPrintingWritten (judgement_status judgement) old new)
    → IfOk result (IsReportTold (Ok judgement) old new)
judged_told (Ok status) old new judgement told = told
judged_told (Err fault) old new judgement told = tt

-- and a fault of the capture too
pub fault_told : (result : Result ℕ RunFault) (old new : Option (List ℕ)) (at code : ℕ) → IfOk result (IsPrintingWritten (status_number status.Fault) old new)
    → IfOk result (IsReportTold (Err (Fault at code)) old new)
fault_told (Ok status) old new at code told = told
fault_told (Err fault) old new at code told = tt

-- as a tree text that is none is told with its reasons
pub text_told : (result : Result ℕ RunFault) (old new : Option (List ℕ)) (line : ℕ) → IfOk result (IsJudgementExplained (Err (TreeText line)) old new)
    → IfOk result (IsReportTold (Err (TreeText line)) old new)
text_told (Ok status) old new line told = told
text_told (Err fault) old new line told = tt

-- what is told of an answer is a report on the bytes of which it is one
pub report_of : (result : Result ℕ RunFault) (capture : List ℕ) (tree : Option (List ℕ)) (old new : Option (List ℕ)) (answer other : Result Judgement StartError)
    → answer ≡ other → IsJudgeAnswer capture tree answer → IfOk result (IsReportTold other old new) → IfOk result (IsReportOf capture tree old new)
report_of (Ok status) capture tree old new answer other same is told =
    record { answer = other; is_answer = subst (IsJudgeAnswer capture tree) same is; told = told }
report_of (Err fault) capture tree old new answer other same is told = tt

pub report_from : (result : Result ℕ RunFault) (capture : Option (List ℕ)) (Tree : Option (List ℕ) → Type 0) (old new : Option (List ℕ)) (c : List ℕ) (t : Option (List ℕ))
    → IsRead MAX_CAPTURE_INPUT_BYTES capture c → Tree t → IfOk result (IsReportOf c t old new) → IfOk result (IsReportFrom capture Tree old new)
report_from (Ok status) capture Tree old new c t read tree is =
    record { capture_bytes = c; tree_bytes = t; capture_read = read; tree_read = tree; is_report = is }
report_from (Err fault) capture Tree old new c t read tree is = tt
