-- What holds of proposals.
use Rattle.std.specs.Prelude.{◌≡◌, ℕ, ◌<◌, List}
use Rattle.fa_capture.specs.declared.codes.TheConstants.{ANSWERED_LEFT_OUT}
use Rattle.fa_capture.specs.Message.{Message}
use Rattle.fa_session.specs.Answers.{IsAnsweredBy}
use Rattle.fa_ledger.specs.Passing.{AreGood}
use Rattle.fa_tree.specs.State.{TreeState}
use Rattle.fa_order.specs.declared.entry.Entry.{Entry}
use Rattle.fa_check.specs.Orders.{IsTreeRequestAt}
use Rattle.fa_check.specs.Runs.{Runs, IsLegalRun}
use Rattle.fa_check.specs.Faults.{EachPlaced, IsOrderAtFault}
use Rattle.fa_propose.specs.Proposals.{AllPlaced, IsProposal}

-- Messages and a first tree have one proposal at most.
abbrev pub ProposalIsOne : Type 0
ProposalIsOne =
    (c : List Message) (first : TreeState) (es others : List Entry) → IsProposal c first es → IsProposal c first others → es ≡ others

-- Good messages and a first tree have never no proposal.
abbrev pub ProposalIsThere : Type 0
ProposalIsThere = (c : List Message) (first : TreeState) → AreGood c → ((es : List Entry) → IsProposal c first es → ⊥) → ⊥

-- Each entry of a proposal is placed rightly, and the entries lead from the first tree to another.
abbrev pub ProposalIsPlaced : Type 0
ProposalIsPlaced =
    (c : List Message) (first : TreeState) (es : List Entry) → IsProposal c first es → EachPlaced c es × ((last : TreeState) × Runs first last c es)

-- So nothing is at fault in a proposal but that it leaves answered requests out,
abbrev pub ProposalOnlyLeavesOut : Type 0
ProposalOnlyLeavesOut =
    (c : List Message) (first : TreeState) (es : List Entry) (entry at code : ℕ) → IsProposal c first es → IsOrderAtFault c first es entry at code
    → code ≡ ANSWERED_LEFT_OUT

-- and where it leaves none out it is legal.
abbrev pub WholeProposalIsLegal : Type 0
WholeProposalIsLegal =
    (c : List Message) (first : TreeState) (es : List Entry) → AreGood c → IsProposal c first es → AllPlaced c es → IsLegalRun c first es

-- Of each two tree requests the earlier one is answered before the later one is sent. So at most the last has no answer.
abbrev pub IsSerial : List Message → Type 0
IsSerial c = (p later : ℕ) → IsTreeRequestAt c p → IsTreeRequestAt c later → p < later → (q : ℕ) × IsAnsweredBy c p q × (q < later)

-- Where requests come one after the other, the proposal is legal if any order is.
abbrev pub SerialProposalIsLegal : Type 0
SerialProposalIsLegal =
    (c : List Message) (first : TreeState) (es others : List Entry) → IsSerial c → IsProposal c first es → IsLegalRun c first others → IsLegalRun c first es
