-- The answers of a search of all orders, and of the decision and the judgement that rest on it, each by what it says of the capture and of
-- the tree text if one is handed in; and what a run of them writes. The capture, the given tree and their faults are those of the audit.
use Rattle.std.specs.Prelude.{◌≡◌, ℕ, ◌+◌, List, [], ◌++◌, Option, None, Some, IfSome, Result, Ok, Err, Vec}
use Rattle.std.specs.declared.alloc.Global.{Global}
use Rattle.std.specs.Io.KnownBytes.{Appends, Keeps}
use Rattle.fa_capture.specs.Message.{Message}
use Rattle.fa_ledger.specs.Passing.{IsGoodCapture, IsFirstFault}
use Rattle.fa_tree.specs.State.{TreeState}
use Rattle.fa_order.specs.declared.entry.Entry.{Entry}
use Rattle.fa_order.specs.Order.{IsOrderText}
use Rattle.fa_check.specs.Runs.{IsLegalRun}
use Rattle.fa_check.specs.Verdicts.{IsLegalWith}
use Rattle.fa_propose.specs.Proposals.{IsProposal}
use Rattle.fa_search.specs.Searches.{IsStop, IsFirstWithout, IsLeastCode, IsExplainedUpTo, AreSerialBefore}
use Rattle.fa_audit.specs.declared.found.Searched.{Searched}
use Rattle.fa_audit.specs.declared.found.Searched.TheVariants as found
use Rattle.fa_audit.specs.declared.found.Judgement.{Judgement}
use Rattle.fa_audit.specs.declared.found.Judgement.TheVariants as judged
use Rattle.fa_audit.specs.declared.found.Decision.{Decision}
use Rattle.fa_audit.specs.declared.found.Decision.TheVariants as decided
use Rattle.fa_audit.specs.declared.verdict.StartError.{StartError}
use Rattle.fa_audit.specs.declared.verdict.StartError.TheVariants.{Fault, TreeText, Memory}
use Rattle.fa_audit.specs.declared.status.Status.TheVariants as status
use Rattle.fa_audit.specs.Status.{status_number}
use Rattle.fa_audit.specs.Verdict.{IsGivenTree, IsTreeTextAtFault}
use Rattle.fa_audit.specs.Line.{answer_line, answer_status, judgement_line, shortest_line, judgement_status}
use Rattle.fa_audit.specs.Proposed.{answer_of}
use Rattle.fa_audit.specs.Run.{line_feed, IsWritten, AreBytesOf}

-- ---- answers

-- The capture is good, a tree text that is handed in is in its grammar, and this is the text of an order that is legal for the messages
-- from the given tree.
pub record IsOrderFound (capture : List ℕ) (tree : Option (List ℕ)) (text : List ℕ) : Type 0 where
  pub messages : List Message
  pub first : TreeState
  pub entries : List Entry
  pub good : IsGoodCapture capture messages
  pub given : IsGivenTree tree first
  pub legal : IsLegalRun messages first entries
  pub spelled : IsOrderText text entries

-- The capture is good, a tree text that is handed in is in its grammar, and some order is legal: with the numbers of the messages, of its
-- entries, and of the unanswered tree requests that are in no entry.
pub record IsJudgedLegal (capture : List ℕ) (tree : Option (List ℕ)) (count placed left : ℕ) : Type 0 where
  pub messages : List Message
  pub first : TreeState
  pub entries : List Entry
  pub good : IsGoodCapture capture messages
  pub given : IsGivenTree tree first
  pub legal : IsLegalWith messages first entries count placed left

-- The capture is good, a tree text that is handed in is in its grammar, and this order is legal: with the same numbers.
pub record IsLegalOrder (capture : List ℕ) (tree : Option (List ℕ)) (order : List Entry) (count placed left : ℕ) : Type 0 where
  pub messages : List Message
  pub first : TreeState
  pub good : IsGoodCapture capture messages
  pub given : IsGivenTree tree first
  pub legal : IsLegalWith messages first order count placed left

-- So many of the first messages alone have no order from this first tree, and those before the last of them have one.
pub record IsShortestWithout (c : List Message) (first : TreeState) (count : ℕ) : Type 0 where
  pub at : ℕ
  pub counted : count ≡ at + 1
  pub without : IsFirstWithout c first at

-- The capture is good, a tree text that is handed in is in its grammar, and no order is legal: none goes past the reply at this message,
-- and this is the least code with which its request is refused after entries that come to it. Where a number is told, so many of the
-- first messages alone have no order, and one fewer have one.
pub record IsWithoutOrder (capture : List ℕ) (tree : Option (List ℕ)) (at code : ℕ) (shortest : Option ℕ) : Type 0 where
  pub messages : List Message
  pub first : TreeState
  pub good : IsGoodCapture capture messages
  pub given : IsGivenTree tree first
  pub stop : IsStop messages first at
  pub least : IsLeastCode messages first at code
  pub alone : IfSome shortest (IsShortestWithout messages first)

-- The capture is good, a tree text that is handed in is in its grammar, and some entries explain all replies before this message, which
-- answers a tree request. Of the tree requests before it not each was answered before the next one was sent, and the order that is
-- proposed is not legal: else there would be an answer.
pub record IsGivenUp (capture : List ℕ) (tree : Option (List ℕ)) (at : ℕ) : Type 0 where
  pub messages : List Message
  pub first : TreeState
  pub good : IsGoodCapture capture messages
  pub given : IsGivenTree tree first
  pub explained : IsExplainedUpTo messages first at
  pub overlaps : AreSerialBefore messages at → ⊥
  pub unproposed : (es : List Entry) → IsProposal messages first es → IsLegalRun messages first es → ⊥

-- What each answer of a search says where there is a start,
abbrev pub IsSearched : (capture : List ℕ) → (tree : Option (List ℕ)) → Searched → Type 0
IsSearched capture tree (found.Order text) = IsOrderFound capture tree text.items
IsSearched capture tree (found.NoOrder at code shortest) = IsWithoutOrder capture tree at code shortest
IsSearched capture tree (found.GaveUp at) = IsGivenUp capture tree at

-- what is decided there,
abbrev pub IsDecision : (capture : List ℕ) → (tree : Option (List ℕ)) → Decision → Type 0
IsDecision capture tree (decided.Legal order messages placed left) = IsLegalOrder capture tree order.items messages placed left
IsDecision capture tree (decided.NoOrder at code shortest) = IsWithoutOrder capture tree at code shortest
IsDecision capture tree (decided.GaveUp at) = IsGivenUp capture tree at

-- and what is judged there.
abbrev pub IsJudged : (capture : List ℕ) → (tree : Option (List ℕ)) → Judgement → Type 0
IsJudged capture tree (judged.Legal messages placed left) = IsJudgedLegal capture tree messages placed left
IsJudged capture tree (judged.NoOrder at code shortest) = IsWithoutOrder capture tree at code shortest
IsJudged capture tree (judged.GaveUp at) = IsGivenUp capture tree at

-- What each answer says: what a search comes to, the first fault of the capture, or that of the tree text. That memory was refused is no
-- answer.
abbrev pub IsSearchAnswer : (capture : List ℕ) → (tree : Option (List ℕ)) → Result Searched StartError → Type 0
IsSearchAnswer capture tree (Ok searched) = IsSearched capture tree searched
IsSearchAnswer capture tree (Err (Fault at code)) = IsFirstFault capture at code
IsSearchAnswer capture tree (Err (TreeText line)) = IsTreeTextAtFault capture tree line
IsSearchAnswer capture tree (Err Memory) = ⊥

-- The same of what is decided,
abbrev pub IsDecisionAnswer : (capture : List ℕ) → (tree : Option (List ℕ)) → Result Decision StartError → Type 0
IsDecisionAnswer capture tree (Ok decision) = IsDecision capture tree decision
IsDecisionAnswer capture tree (Err (Fault at code)) = IsFirstFault capture at code
IsDecisionAnswer capture tree (Err (TreeText line)) = IsTreeTextAtFault capture tree line
IsDecisionAnswer capture tree (Err Memory) = ⊥

-- and of what is judged.
abbrev pub IsJudgeAnswer : (capture : List ℕ) → (tree : Option (List ℕ)) → Result Judgement StartError → Type 0
IsJudgeAnswer capture tree (Ok judgement) = IsJudged capture tree judgement
IsJudgeAnswer capture tree (Err (Fault at code)) = IsFirstFault capture at code
IsJudgeAnswer capture tree (Err (TreeText line)) = IsTreeTextAtFault capture tree line
IsJudgeAnswer capture tree (Err Memory) = ⊥

-- ---- what a decision tells

-- what is judged by it,
abbrev pub judgement_by : Decision → Judgement
judgement_by (decided.Legal order messages placed left) = judged.Legal messages placed left
judgement_by (decided.NoOrder at code shortest) = judged.NoOrder at code shortest
judgement_by (decided.GaveUp at) = judged.GaveUp at

abbrev pub judgement_of : Result Decision StartError → Result Judgement StartError
judgement_of (Ok decision) = Ok (judgement_by decision)
judgement_of (Err error) = Err error

-- and the order, where one is legal
abbrev pub order_by : Decision → Option (List Entry)
order_by (decided.Legal order messages placed left) = Some order.items
order_by (decided.NoOrder at code shortest) = None
order_by (decided.GaveUp at) = None

abbrev pub order_found : Result Decision StartError → Option (List Entry)
order_found (Ok decision) = order_by decision
order_found (Err error) = None

-- ---- what is written

-- this is the text of the order, where there is one
abbrev pub IsTextOfOrder : (order : Option (List Entry)) → Option (Vec ℕ Global) → Type 0
IsTextOfOrder (Some entries) (Some text) = IsOrderText text.items entries
IsTextOfOrder (Some entries) None = ⊥
IsTextOfOrder None (Some text) = ⊥
IsTextOfOrder None None = Unit {0}

-- a text was written, where there is one, and else nothing
abbrev pub IsTextWritten : Option (Vec ℕ Global) → (old new : Option (List ℕ)) → Type 0
IsTextWritten (Some text) old new = Appends old new text.items
IsTextWritten None old new = Keeps old new

-- the text of an order was written, where there is one, and else nothing
abbrev pub IsOrderWritten : Option (List Entry) → (old new : Option (List ℕ)) → Type 0
IsOrderWritten (Some entries) old new = (text : List ℕ) × IsOrderText text entries × Appends old new text
IsOrderWritten None old new = Keeps old new

-- the line of what is judged, or that by which an audit tells the fault
abbrev pub judged_line : Result Judgement StartError → List ℕ
judged_line (Ok judgement) = judgement_line judgement
judged_line (Err error) = answer_line (answer_of error)

-- The status of each.
abbrev pub judged_status : Result Judgement StartError → ℕ
judged_status (Ok judgement) = judgement_status judgement
judged_status (Err error) = answer_status (answer_of error)

-- how many of the first messages alone have no order, where the answer tells it
abbrev pub told_shortest : Result Judgement StartError → Option ℕ
told_shortest (Ok (judged.NoOrder at code shortest)) = shortest
told_shortest (Ok other) = None
told_shortest (Err error) = None

-- the line that tells it, and a line feed
abbrev pub shortest_part : Option ℕ → List ℕ
shortest_part None = []
shortest_part (Some count) = shortest_line count ++ line_feed

-- The line of what is judged and a line feed, and behind them that of the first messages alone.
abbrev pub judged_lines : Result Judgement StartError → List ℕ
judged_lines answer = judged_line answer ++ (line_feed ++ shortest_part (told_shortest answer))

-- these lines were written, and the status is that of the answer
abbrev pub IsJudgementTold : Result Judgement StartError → (old new : Option (List ℕ)) → (ended : ℕ) → Type 0
IsJudgementTold answer old new ended = IsWritten (judged_lines answer) (judged_status answer) old new ended

-- What is written of each answer of a search, with the status: the order text with 0, and else what is written where that is judged.
abbrev pub IsSearchTold : Result Searched StartError → (old new : Option (List ℕ)) → (ended : ℕ) → Type 0
IsSearchTold (Ok (found.Order text)) old new ended = IsWritten text.items (status_number status.Legal) old new ended
IsSearchTold (Ok (found.NoOrder at code shortest)) old new ended = IsJudgementTold (Ok (judged.NoOrder at code shortest)) old new ended
IsSearchTold (Ok (found.GaveUp at)) old new ended = IsJudgementTold (Ok (judged.GaveUp at)) old new ended
IsSearchTold (Err error) old new ended = IsJudgementTold (Err error) old new ended

-- These are the bytes of the capture, and of the tree what `Tree` says; a search answers this of them, and the answer was told.
pub record IsSearchedFrom (capture : Option (List ℕ)) (Tree : Option (List ℕ) → Type 0) (old new : Option (List ℕ)) (ended : ℕ) : Type 0 where
  pub capture_bytes : List ℕ
  pub tree_bytes : Option (List ℕ)
  pub answer : Result Searched StartError
  pub capture_read : AreBytesOf capture capture_bytes
  pub tree_read : Tree tree_bytes
  pub is_answer : IsSearchAnswer capture_bytes tree_bytes answer
  pub told : IsSearchTold answer old new ended

-- These are the bytes of the capture, and of the tree what `Tree` says; this is judged of them, and it was told.
pub record IsJudgedFrom (capture : Option (List ℕ)) (Tree : Option (List ℕ) → Type 0) (old new : Option (List ℕ)) (ended : ℕ) : Type 0 where
  pub capture_bytes : List ℕ
  pub tree_bytes : Option (List ℕ)
  pub answer : Result Judgement StartError
  pub capture_read : AreBytesOf capture capture_bytes
  pub tree_read : Tree tree_bytes
  pub is_answer : IsJudgeAnswer capture_bytes tree_bytes answer
  pub told : IsJudgementTold answer old new ended

-- These are the bytes of the capture, and of the tree what `Tree` says; this is decided of them, what is judged by it was told, and the
-- text of the order that was found was written to an output of its own.
pub record IsJudgedAndKept (capture : Option (List ℕ)) (Tree : Option (List ℕ) → Type 0) (order_old order_new old new : Option (List ℕ)) (ended : ℕ) : Type 0 where
  pub capture_bytes : List ℕ
  pub tree_bytes : Option (List ℕ)
  pub decision : Result Decision StartError
  pub capture_read : AreBytesOf capture capture_bytes
  pub tree_read : Tree tree_bytes
  pub is_answer : IsDecisionAnswer capture_bytes tree_bytes decision
  pub told : IsJudgementTold (judgement_of decision) old new ended
  pub kept : IsOrderWritten (order_found decision) order_old order_new
