-- From what the call answers to what a run of it tells.
use Rattle.std.proofs.Common.{◌≡◌, ◌≢◌, ℕ, ◌⊎◌, inl, inr, refl, ap, ◌∙◌, List, Option, IfOk, IfErr, IsErrOf, Result, Ok, Err}
use Rattle.std.specs.Prelude.{OnOk, Vec}
use Rattle.std.specs.declared.alloc.Global.{Global}
use Rattle.fa_tree.specs.State.{TreeState}
use Rattle.fa_order.specs.declared.entry.Entry.{Entry}
use Rattle.fa_order.specs.Order.{IsOrderText}
use Rattle.fa_ledger.specs.declared.calls.Calls.{Calls}
use Rattle.fa_propose.specs.Proposals.{IsProposal}
use Rattle.fa_audit.specs.declared.running.RunFault.{RunFault}
use Rattle.fa_check.specs.declared.verdict.Verdict.{Verdict}
use Rattle.fa_audit.specs.declared.verdict.AuditError.{AuditError}
use Rattle.fa_audit.specs.declared.verdict.AuditError.TheVariants as errors
use Rattle.fa_audit.specs.declared.verdict.StartError.{StartError}
use Rattle.fa_audit.specs.declared.verdict.StartError.TheVariants.{Fault, TreeText, Memory}
use Rattle.fa_audit.specs.Run.{AreBytesOf}
use Rattle.fa_audit.specs.Proposed.{IsProposed, IsProposalAnswer, IsProposalTold, IsProposedFrom, answer_of}
use Rattle.fa_audit.specs.Starts.{IsStartOf, IsNoStart}
use Rattle.fa_audit.specs.parts.Answers.{text_answered}

-- the text of the entries that are proposed
pub text_proposed : (capture : List ℕ) (tree : Option (List ℕ)) (calls : Calls) (first : TreeState) (es : List Entry) (text : List ℕ)
    → (start : IsStartOf capture tree calls first) → IsProposal start.messages first es → IsOrderText text es → IsProposed capture tree text
text_proposed capture tree calls first es text start proposal spelled = record {
  messages = start.messages;
  first = first;
  entries = es;
  good = start.good;
  given = start.given;
  proposal = proposal;
  spelled = spelled;
}

-- each answer says what holds of the capture and the tree, or memory was refused
pub answered_or_memory : (capture : List ℕ) (tree : Option (List ℕ)) (result : Result (Vec ℕ Global) StartError)
    → IfOk result (λ text. IsProposed capture tree text.items) → IfErr result (IsNoStart capture tree)
    → IsErrOf result Memory ⊎ IsProposalAnswer capture tree (text_answered result)
answered_or_memory capture tree (Ok text) order none = inr order
answered_or_memory capture tree (Err (Fault at code)) order none = inr none
answered_or_memory capture tree (Err (TreeText line)) order none = inr none
answered_or_memory capture tree (Err Memory) order none = inl refl

-- an answer of the audit that is told is not that memory was refused, so the proposal's is not either
pub refusal_told : (result : Result ℕ RunFault) (proposal : Result (Vec ℕ Global) StartError) (error : StartError) (answer : Result Verdict AuditError)
    → proposal ≡ Err error → answer ≡ answer_of error → OnOk result (answer ≢ Err errors.Memory) → OnOk result (proposal ≢ Err Memory)
refusal_told (Ok status) proposal error answer is told answered = λ same. (let memory : error ≡ Memory = cc in absurd (answered (told ∙ ap answer_of memory)))
refusal_told (Err fault) proposal error answer is told answered = tt

-- a told answer is none that memory was refused, so it is that of the proposal
pub proposed_from : (result : Result ℕ RunFault) (capture old new : Option (List ℕ)) (Tree : Option (List ℕ) → Type 0) (c : List ℕ) (t : Option (List ℕ)) (proposal : Result (Vec ℕ Global) StartError)
    → AreBytesOf capture c → Tree t
    → IsErrOf proposal Memory ⊎ IsProposalAnswer c t (text_answered proposal)
    → IfOk result (IsProposalTold (text_answered proposal) old new) → OnOk result (proposal ≢ Err Memory)
    → IfOk result (IsProposedFrom capture Tree old new)
proposed_from (Ok status) capture old new Tree c t proposal whole read (inl refused) told answered = absurd (answered refused)
proposed_from (Ok status) capture old new Tree c t proposal whole read (inr is_answer) told answered =
    record {
      capture_bytes = c;
      tree_bytes = t;
      answer = text_answered proposal;
      capture_read = whole;
      tree_read = read;
      is_answer = is_answer;
      told = told;
    }
proposed_from (Err fault) capture old new Tree c t proposal whole read given told answered = tt
