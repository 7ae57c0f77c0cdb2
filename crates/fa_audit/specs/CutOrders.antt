-- The answers of a call that cuts an order at a message, each by what it says of the capture and of the order text; and what a run of
-- it writes. The capture and its faults are those of the audit. No tree is read.
use Rattle.std.specs.Prelude.{ℕ, List, ◌++◌, Option, Result, Ok, Err}
use Rattle.fa_capture.specs.Message.{Message}
use Rattle.fa_ledger.specs.Passing.{IsGoodCapture, IsFirstFault}
use Rattle.fa_order.specs.declared.entry.Entry.{Entry}
use Rattle.fa_order.specs.Order.{IsOrderText, IsOrderFault}
use Rattle.fa_check.specs.declared.verdict.Verdict.{Verdict}
use Rattle.fa_check.specs.declared.verdict.Verdict.TheVariants as verdicts
use Rattle.fa_check.specs.Cuts.{IsCut}
use Rattle.fa_audit.specs.declared.verdict.AuditError.{AuditError}
use Rattle.fa_audit.specs.declared.verdict.AuditError.TheVariants as errors
use Rattle.fa_audit.specs.declared.verdict.CutError.{CutError}
use Rattle.fa_audit.specs.declared.verdict.CutError.TheVariants.{Fault, OrderText, Memory}
use Rattle.fa_audit.specs.declared.status.Status.TheVariants as status
use Rattle.fa_audit.specs.Status.{status_number}
use Rattle.fa_audit.specs.Line.{answer_line, answer_status}
use Rattle.fa_audit.specs.declared.running.TheConstants.{MAX_TEXT_INPUT_BYTES}
use Rattle.fa_audit.specs.Run.{line_feed, IsWritten, AreBytesOf, IsRead}

-- ---- answers

-- the capture is good, and the order text is in its grammar
pub record IsCuttable (capture order : List ℕ) : Type 0 where
  pub messages : List Message
  pub entries : List Entry
  pub good : IsGoodCapture capture messages
  pub text : IsOrderText order entries

-- The capture is good, the order text is in its grammar, and this is the text of what is left of the order where it is cut at message m.
pub record IsCutText (capture order : List ℕ) (m : ℕ) (text : List ℕ) : Type 0 where
  pub messages : List Message
  pub entries : List Entry
  pub left : List Entry
  pub good : IsGoodCapture capture messages
  pub order_text : IsOrderText order entries
  pub is_cut : IsCut messages m entries left
  pub spelled : IsOrderText text left

-- the capture is good, and the order text is at fault in this line
pub record IsUncutAtLine (capture order : List ℕ) (line : ℕ) : Type 0 where
  pub messages : List Message
  pub good : IsGoodCapture capture messages
  pub fault : IsOrderFault order line

-- What each answer says: an order text, the first fault of the capture, or that of the order text. That memory was refused is no
-- answer.
abbrev pub IsCutAnswer : (capture order : List ℕ) → (m : ℕ) → Result (List ℕ) CutError → Type 0
IsCutAnswer capture order m (Ok text) = IsCutText capture order m text
IsCutAnswer capture order m (Err (Fault at code)) = IsFirstFault capture at code
IsCutAnswer capture order m (Err (OrderText line)) = IsUncutAtLine capture order line
IsCutAnswer capture order m (Err Memory) = ⊥

-- ---- what is written

-- as which answer of the audit an error is told
abbrev pub answer_of_uncut : CutError → Result Verdict AuditError
answer_of_uncut (Fault at code) = Ok (verdicts.Fault at code)
answer_of_uncut (OrderText line) = Err (errors.OrderText line)
answer_of_uncut Memory = Err errors.Memory

-- what is written of each answer: the order text, or the line by which an audit tells the fault and a line feed
abbrev pub cut_text : Result (List ℕ) CutError → List ℕ
cut_text (Ok text) = text
cut_text (Err error) = answer_line (answer_of_uncut error) ++ line_feed

-- The status of each answer: 0 with an order, and else that of the audit.
abbrev pub cut_status : Result (List ℕ) CutError → ℕ
cut_status (Ok text) = status_number status.Legal
cut_status (Err error) = answer_status (answer_of_uncut error)

-- what is to be written of the answer was written, and the status is that of the answer
abbrev pub IsCutTold : Result (List ℕ) CutError → (old new : Option (List ℕ)) → (ended : ℕ) → Type 0
IsCutTold answer old new ended = IsWritten (cut_text answer) (cut_status answer) old new ended

-- These are the bytes of the capture and of the order; cutting at message m answers this of them, and the answer was told.
pub record IsCutFrom (capture order : Option (List ℕ)) (m : ℕ) (old new : Option (List ℕ)) (ended : ℕ) : Type 0 where
  pub capture_bytes : List ℕ
  pub order_bytes : List ℕ
  pub answer : Result (List ℕ) CutError
  pub capture_read : AreBytesOf capture capture_bytes
  pub order_read : IsRead MAX_TEXT_INPUT_BYTES order order_bytes
  pub is_answer : IsCutAnswer capture_bytes order_bytes m answer
  pub told : IsCutTold answer old new ended
