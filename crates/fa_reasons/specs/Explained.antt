-- What is answered where reasons are asked for, and what a run writes of it.
use Rattle.std.specs.Prelude.{◌≡◌, ℕ, List, ◌++◌, Option, Some, None, Result, codes}
use Rattle.fa_check.specs.declared.verdict.Verdict.{Verdict}
use Rattle.fa_audit.specs.declared.verdict.AuditError.{AuditError}
use Rattle.fa_audit.specs.declared.verdict.StartError.{StartError}
use Rattle.fa_audit.specs.declared.found.Judgement.{Judgement}
use Rattle.fa_audit.specs.declared.found.Decision.{Decision}
use Rattle.fa_audit.specs.Proposed.{IsStart, IsProposed}
use Rattle.fa_audit.specs.Verdict.{IsAnswer}
use Rattle.fa_audit.specs.Line.{answer_line, answer_status}
use Rattle.fa_audit.specs.declared.running.TheConstants.{MAX_CAPTURE_INPUT_BYTES}
use Rattle.fa_audit.specs.Run.{line_feed, IsWritten, IsRead}
use Rattle.fa_audit.specs.Searched.{IsJudgeAnswer, IsDecisionAnswer, IsOrderWritten, judgement_of, order_found, judged_lines, judged_status}
use Rattle.fa_show.specs.Printing.{IsPrinting}

-- ---- of an order

-- It is the order that is handed in, or where there is none the one that is proposed, if one is. Where none is the capture or the tree text
-- is at fault, and no answer looks at an order.
abbrev pub IsOrderUsed : (handed_in : Option (List ℕ)) → (capture : List ℕ) → (tree : Option (List ℕ)) → (order : List ℕ) → Type 0
IsOrderUsed (Some text) capture tree order = order ≡ text
IsOrderUsed None capture tree order = IsStart capture tree → IsProposed capture tree order

-- This order is used, and the audit answers this of it.
pub record IsExplained (capture : List ℕ) (tree handed_in : Option (List ℕ)) (answer : Result Verdict AuditError) : Type 0 where
  pub order : List ℕ
  pub used : IsOrderUsed handed_in capture tree order
  pub is_answer : IsAnswer capture tree order answer

-- These lines and behind them printing ASCII and line feeds alone were written, and the status is the due one.
pub record IsWrittenWithReasons (lines : List ℕ) (due : ℕ) (old new : Option (List ℕ)) (ended : ℕ) : Type 0 where
  pub reasons : List ℕ
  pub printing : IsPrinting reasons
  pub written : IsWritten (lines ++ reasons) due old new ended

-- the answer's line and a line feed were written, with reasons behind them, and the status is that of the answer
abbrev pub IsExplanationTold : Result Verdict AuditError → (old new : Option (List ℕ)) → (ended : ℕ) → Type 0
IsExplanationTold answer old new ended = IsWrittenWithReasons (answer_line answer ++ line_feed) (answer_status answer) old new ended

-- These are the bytes of the capture, and of the tree and of the order what `Tree` and `Order` say; an explanation answers this of them, and
-- the answer was told with its reasons.
pub record IsExplainedFrom (capture : Option (List ℕ)) (Tree Order : Option (List ℕ) → Type 0) (old new : Option (List ℕ)) (ended : ℕ) : Type 0 where
  pub capture_bytes : List ℕ
  pub tree_bytes : Option (List ℕ)
  pub order_bytes : Option (List ℕ)
  pub answer : Result Verdict AuditError
  pub capture_read : IsRead MAX_CAPTURE_INPUT_BYTES capture capture_bytes
  pub tree_read : Tree tree_bytes
  pub order_read : Order order_bytes
  pub is_explained : IsExplained capture_bytes tree_bytes order_bytes answer
  pub told : IsExplanationTold answer old new ended

-- ---- of all orders

-- no text that begins as the line does by which it is told how many of the first messages alone have no order
abbrev pub IsNoFurtherLine : (reasons : List ℕ) → Type 0
IsNoFurtherLine reasons = (rest : List ℕ) → reasons ≡ codes "the first " ++ rest → ⊥

-- The lines of what is judged and behind them printing ASCII and line feeds alone were written, which begins as no line of what is judged,
-- and the status is that of the answer.
pub record IsJudgementExplained (answer : Result Judgement StartError) (old new : Option (List ℕ)) (ended : ℕ) : Type 0 where
  pub reasons : List ℕ
  pub printing : IsPrinting reasons
  pub apart : IsNoFurtherLine reasons
  pub written : IsWritten (judged_lines answer ++ reasons) (judged_status answer) old new ended

-- These are the bytes of the capture, and of the tree what `Tree` says; this is judged of them, and it was told with its reasons.
pub record IsJudgementExplainedFrom (capture : Option (List ℕ)) (Tree : Option (List ℕ) → Type 0) (old new : Option (List ℕ)) (ended : ℕ) : Type 0 where
  pub capture_bytes : List ℕ
  pub tree_bytes : Option (List ℕ)
  pub answer : Result Judgement StartError
  pub capture_read : IsRead MAX_CAPTURE_INPUT_BYTES capture capture_bytes
  pub tree_read : Tree tree_bytes
  pub is_answer : IsJudgeAnswer capture_bytes tree_bytes answer
  pub told : IsJudgementExplained answer old new ended

-- These are the bytes of the capture, and of the tree what `Tree` says; this is decided of them, what is judged by it was told with its
-- reasons, and the text of the order that was found was written to an output of its own.
pub record IsJudgementExplainedAndKept (capture : Option (List ℕ)) (Tree : Option (List ℕ) → Type 0) (order_old order_new old new : Option (List ℕ)) (ended : ℕ) : Type 0 where
  pub capture_bytes : List ℕ
  pub tree_bytes : Option (List ℕ)
  pub decision : Result Decision StartError
  pub capture_read : IsRead MAX_CAPTURE_INPUT_BYTES capture capture_bytes
  pub tree_read : Tree tree_bytes
  pub is_answer : IsDecisionAnswer capture_bytes tree_bytes decision
  pub told : IsJudgementExplained (judgement_of decision) old new ended
  pub kept : IsOrderWritten (order_found decision) order_old order_new
