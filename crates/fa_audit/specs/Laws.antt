-- The statements of the laws.
use Rattle.std.specs.Prelude.{◌≡◌, ◌↔◌, ℕ, ◌<◌, List, All, Option, Result}
use Rattle.fa_capture.specs.declared.fault.CaptureFault.{CaptureFault}
use Rattle.fa_capture.specs.Message.{Message}
use Rattle.fa_capture.specs.Reading.{IsReading, IsMigrated}
use Rattle.fa_tree.specs.State.{TreeState}
use Rattle.fa_tree.specs.Making.{HasMadeNone}
use Rattle.fa_check.specs.declared.verdict.Verdict.{Verdict}
use Rattle.fa_audit.specs.declared.verdict.AuditError.{AuditError}
use Rattle.fa_audit.specs.declared.verdict.StartError.{StartError}
use Rattle.fa_audit.specs.declared.verdict.CutError.{CutError}
use Rattle.fa_audit.specs.Verdict.{IsGivenTree, IsAnswer}
use Rattle.fa_audit.specs.Proposed.{IsProposalAnswer}
use Rattle.fa_audit.specs.CutOrders.{IsCutAnswer}

-- a capture, a tree text or none and an order text have one answer at most
abbrev pub OneAnswer : Type 0
OneAnswer =
    (capture : List ℕ) (tree : Option (List ℕ)) (order : List ℕ) (a b : Result Verdict AuditError)
    → IsAnswer capture tree order a → IsAnswer capture tree order b → a ≡ b

-- A capture of bytes, a tree text or none and an order text have never no answer. A list with a number above 255 is none of bytes.
abbrev pub AnswerIsThere : Type 0
AnswerIsThere =
    (capture : List ℕ) (tree : Option (List ℕ)) (order : List ℕ) → All (λ b. b < 256) capture
    → ((answer : Result Verdict AuditError) → IsAnswer capture tree order answer → ⊥) → ⊥

-- In the tree that the server began with no request has made a file. So in a run from it none has before its own entry
-- (`UnplacedMakesNone` of fa_check).
abbrev pub GivenTreeHasNoMadeFile : Type 0
GivenTreeHasNoMadeFile = (tree : Option (List ℕ)) (first : TreeState) (asked : ℕ) → IsGivenTree tree first → HasMadeNone first.store asked

-- a capture and a tree text or none have one answer at most
abbrev pub OneProposalAnswer : Type 0
OneProposalAnswer =
    (capture : List ℕ) (tree : Option (List ℕ)) (a b : Result (List ℕ) StartError) → IsProposalAnswer capture tree a → IsProposalAnswer capture tree b → a ≡ b

-- A capture of bytes and a tree text or none have never no answer of a proposal.
abbrev pub ProposalAnswerIsThere : Type 0
ProposalAnswerIsThere =
    (capture : List ℕ) (tree : Option (List ℕ)) → All (λ b. b < 256) capture
    → ((answer : Result (List ℕ) StartError) → IsProposalAnswer capture tree answer → ⊥) → ⊥

-- a capture, an order text and a message have one answer at most
abbrev pub OneCutAnswer : Type 0
OneCutAnswer = (capture order : List ℕ) (m : ℕ) (a b : Result (List ℕ) CutError) → IsCutAnswer capture order m a → IsCutAnswer capture order m b → a ≡ b

-- A capture of bytes, an order text and a message have never no answer of a cut.
abbrev pub CutAnswerIsThere : Type 0
CutAnswerIsThere =
    (capture order : List ℕ) (m : ℕ) → All (λ b. b < 256) capture → ((answer : Result (List ℕ) CutError) → IsCutAnswer capture order m answer → ⊥) → ⊥

-- what the one capture holds the other holds too: the same messages and the same framing fault, whatever formats they are in and
-- whatever times they have
abbrev pub HoldsWhatIsIn : (other capture : List ℕ) → Type 0
HoldsWhatIsIn other capture = (messages : List Message) (fault : Option CaptureFault) → IsReading capture messages fault → IsReading other messages fault

-- no answer sees a format or a time
abbrev pub AnswersSeeNoTimes : Type 0
AnswersSeeNoTimes =
    (capture other : List ℕ) (tree : Option (List ℕ)) (order : List ℕ) (answer : Result Verdict AuditError)
    → HoldsWhatIsIn other capture → IsAnswer capture tree order answer → IsAnswer other tree order answer

-- a capture that was migrated has the answers that it had, for any tree and any order
abbrev pub MigratedHasTheSameAnswers : Type 0
MigratedHasTheSameAnswers =
    (capture migrated : List ℕ) (tree : Option (List ℕ)) (order : List ℕ) (answer : Result Verdict AuditError)
    → IsMigrated capture migrated → (IsAnswer capture tree order answer ↔ IsAnswer migrated tree order answer)
