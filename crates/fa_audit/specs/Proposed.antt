-- The answers of a proposal, each by what it says of the capture and of the tree text if one is handed in; and what a run of it
-- writes. The capture, the given tree and the faults are those of the audit.
use Rattle.std.specs.Prelude.{ℕ, List, ◌++◌, Option, Result, Ok, Err}
use Rattle.fa_capture.specs.Message.{Message}
use Rattle.fa_ledger.specs.Passing.{IsGoodCapture, IsFirstFault}
use Rattle.fa_tree.specs.State.{TreeState}
use Rattle.fa_order.specs.declared.entry.Entry.{Entry}
use Rattle.fa_order.specs.Order.{IsOrderText}
use Rattle.fa_check.specs.declared.verdict.Verdict.{Verdict}
use Rattle.fa_check.specs.declared.verdict.Verdict.TheVariants as verdicts
use Rattle.fa_propose.specs.Proposals.{IsProposal}
use Rattle.fa_audit.specs.declared.verdict.AuditError.{AuditError}
use Rattle.fa_audit.specs.declared.verdict.AuditError.TheVariants as errors
use Rattle.fa_audit.specs.declared.verdict.StartError.{StartError}
use Rattle.fa_audit.specs.declared.verdict.StartError.TheVariants.{Fault, TreeText, Memory}
use Rattle.fa_audit.specs.declared.status.Status.TheVariants as status
use Rattle.fa_audit.specs.Status.{status_number}
use Rattle.fa_audit.specs.Verdict.{IsGivenTree, IsTreeTextAtFault}
use Rattle.fa_audit.specs.Line.{answer_line, answer_status}
use Rattle.fa_audit.specs.Run.{line_feed, IsWritten, AreBytesOf}

-- ---- answers

-- the capture is good, and a tree text that is handed in is in its grammar
pub record IsStart (capture : List ℕ) (tree : Option (List ℕ)) : Type 0 where
  pub messages : List Message
  pub first : TreeState
  pub good : IsGoodCapture capture messages
  pub given : IsGivenTree tree first

-- The capture is good, a tree text that is handed in is in its grammar, and this is the text of the order that is proposed for the
-- messages and the given tree.
pub record IsProposed (capture : List ℕ) (tree : Option (List ℕ)) (text : List ℕ) : Type 0 where
  pub messages : List Message
  pub first : TreeState
  pub entries : List Entry
  pub good : IsGoodCapture capture messages
  pub given : IsGivenTree tree first
  pub proposal : IsProposal messages first entries
  pub spelled : IsOrderText text entries

-- What each answer says: an order text, the first fault of the capture, or that of the tree text. That memory was refused is no
-- answer.
abbrev pub IsProposalAnswer : (capture : List ℕ) → (tree : Option (List ℕ)) → Result (List ℕ) StartError → Type 0
IsProposalAnswer capture tree (Ok text) = IsProposed capture tree text
IsProposalAnswer capture tree (Err (Fault at code)) = IsFirstFault capture at code
IsProposalAnswer capture tree (Err (TreeText line)) = IsTreeTextAtFault capture tree line
IsProposalAnswer capture tree (Err Memory) = ⊥

-- ---- what is written

-- as which answer of the audit an error is told
abbrev pub answer_of : StartError → Result Verdict AuditError
answer_of (Fault at code) = Ok (verdicts.Fault at code)
answer_of (TreeText line) = Err (errors.TreeText line)
answer_of Memory = Err errors.Memory

-- what is written of each answer: the order text, or the line by which an audit tells the fault and a line feed
abbrev pub proposal_text : Result (List ℕ) StartError → List ℕ
proposal_text (Ok text) = text
proposal_text (Err error) = answer_line (answer_of error) ++ line_feed

-- The status of each answer: 0 with an order, and else that of the audit.
abbrev pub proposal_status : Result (List ℕ) StartError → ℕ
proposal_status (Ok text) = status_number status.Legal
proposal_status (Err error) = answer_status (answer_of error)

-- what is to be written of the answer was written, and the status is that of the answer
abbrev pub IsProposalTold : Result (List ℕ) StartError → (old new : Option (List ℕ)) → (ended : ℕ) → Type 0
IsProposalTold answer old new ended = IsWritten (proposal_text answer) (proposal_status answer) old new ended

-- These are the bytes of the capture, and of the tree what `Tree` says; a proposal answers this of them, and the answer was told.
pub record IsProposedFrom (capture : Option (List ℕ)) (Tree : Option (List ℕ) → Type 0) (old new : Option (List ℕ)) (ended : ℕ) : Type 0 where
  pub capture_bytes : List ℕ
  pub tree_bytes : Option (List ℕ)
  pub answer : Result (List ℕ) StartError
  pub capture_read : AreBytesOf capture capture_bytes
  pub tree_read : Tree tree_bytes
  pub is_answer : IsProposalAnswer capture_bytes tree_bytes answer
  pub told : IsProposalTold answer old new ended
