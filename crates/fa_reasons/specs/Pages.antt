-- What a run writes that draws an order, or reports on a capture.
use Rattle.std.specs.Prelude.{ℕ, List, Option, Result, Ok, Err}
use Rattle.fa_check.specs.declared.verdict.Verdict.{Verdict}
use Rattle.fa_audit.specs.declared.verdict.AuditError.{AuditError}
use Rattle.fa_audit.specs.declared.verdict.StartError.{StartError}
use Rattle.fa_audit.specs.declared.verdict.StartError.TheVariants.{TreeText}
use Rattle.fa_audit.specs.declared.found.Judgement.{Judgement}
use Rattle.fa_audit.specs.declared.status.Status.TheVariants as status
use Rattle.fa_reasons.specs.declared.order_pages.OrderPage.{OrderPage}
use Rattle.fa_reasons.specs.declared.order_pages.OrderPage.TheVariants.{Picture, Report}
use Rattle.fa_audit.specs.declared.running.TheConstants.{MAX_CAPTURE_INPUT_BYTES, MAX_TEXT_INPUT_BYTES}
use Rattle.fa_audit.specs.Line.{answer_status}
use Rattle.fa_audit.specs.Run.{IsRead}
use Rattle.fa_audit.specs.Searched.{IsJudgeAnswer, judged_status}
use Rattle.fa_audit.specs.Showing.{IsPrintingWritten}
use Rattle.fa_audit.specs.Status.{status_number}
use Rattle.fa_audit.specs.Verdict.{IsAnswer}
use Rattle.fa_reasons.specs.Explained.{IsExplanationTold, IsJudgementExplained}

-- ---- of an order

-- The status that is due to a verdict on an order: its own of a report, and 0 of a picture.
abbrev pub page_status : OrderPage → Verdict → ℕ
page_status (Picture view) verdict = status_number status.Legal
page_status (Report shown) verdict = answer_status (Ok verdict)

-- A page of printing bytes was written of a verdict, with the status that is due to it. Where a text is not in its format the line of the
-- answer was written in its place, with its reasons, and the status of the answer.
abbrev pub IsPageTold : OrderPage → Result Verdict AuditError → (old new : Option (List ℕ)) → (ended : ℕ) → Type 0
IsPageTold page (Ok verdict) old new ended = IsPrintingWritten (page_status page verdict) old new ended
IsPageTold page (Err error) old new ended = IsExplanationTold (Err error) old new ended

-- The audit answers this of these bytes, and it was told so.
pub record IsPageOf (page : OrderPage) (capture : List ℕ) (tree : Option (List ℕ)) (order : List ℕ) (old new : Option (List ℕ)) (ended : ℕ) : Type 0 where
  pub answer : Result Verdict AuditError
  pub is_answer : IsAnswer capture tree order answer
  pub told : IsPageTold page answer old new ended

-- These are the bytes of the capture and of the order, and of the tree what `Tree` says, and their page was told.
pub record IsPageFrom (page : OrderPage) (capture : Option (List ℕ)) (Tree : Option (List ℕ) → Type 0) (order old new : Option (List ℕ)) (ended : ℕ) : Type 0 where
  pub capture_bytes : List ℕ
  pub tree_bytes : Option (List ℕ)
  pub order_bytes : List ℕ
  pub capture_read : IsRead MAX_CAPTURE_INPUT_BYTES capture capture_bytes
  pub tree_read : Tree tree_bytes
  pub order_read : IsRead MAX_TEXT_INPUT_BYTES order order_bytes
  pub is_page : IsPageOf page capture_bytes tree_bytes order_bytes old new ended

-- ---- of what is judged by a search

-- A report of printing bytes was written of what is judged, with its status. Where the tree text is not in its format the line of the
-- answer was written in its place, with its reasons, and its status.
abbrev pub IsReportTold : Result Judgement StartError → (old new : Option (List ℕ)) → (ended : ℕ) → Type 0
IsReportTold (Err (TreeText line)) old new ended = IsJudgementExplained (Err (TreeText line)) old new ended
IsReportTold answer old new ended = IsPrintingWritten (judged_status answer) old new ended

-- This is judged of these bytes, and it was told so.
pub record IsReportOf (capture : List ℕ) (tree : Option (List ℕ)) (old new : Option (List ℕ)) (ended : ℕ) : Type 0 where
  pub answer : Result Judgement StartError
  pub is_answer : IsJudgeAnswer capture tree answer
  pub told : IsReportTold answer old new ended

-- These are the bytes of the capture, and of the tree what `Tree` says, and the report on them was told.
pub record IsReportFrom (capture : Option (List ℕ)) (Tree : Option (List ℕ) → Type 0) (old new : Option (List ℕ)) (ended : ℕ) : Type 0 where
  pub capture_bytes : List ℕ
  pub tree_bytes : Option (List ℕ)
  pub capture_read : IsRead MAX_CAPTURE_INPUT_BYTES capture capture_bytes
  pub tree_read : Tree tree_bytes
  pub is_report : IsReportOf capture_bytes tree_bytes old new ended
