-- From what a search answers, or what is judged by it, to what a run tells.
use Rattle.std.proofs.Common.{◌≡◌, ◌≢◌, ℕ, ◌⊎◌, inl, inr, refl, ap, ◌∙◌, List, Option, IfOk, IfErr, IsErrOf, Result, Ok, Err, arith}
use Rattle.std.specs.Prelude.{OnOk}
use Rattle.fa_check.specs.declared.verdict.Verdict.{Verdict}
use Rattle.fa_audit.specs.declared.found.Searched.{Searched}
use Rattle.fa_audit.specs.declared.found.Decision.{Decision}
use Rattle.fa_audit.specs.declared.running.RunFault.{RunFault}
use Rattle.fa_audit.specs.declared.verdict.AuditError.{AuditError}
use Rattle.fa_audit.specs.declared.verdict.AuditError.TheVariants as errors
use Rattle.fa_audit.specs.declared.verdict.StartError.{StartError}
use Rattle.fa_audit.specs.declared.verdict.StartError.TheVariants.{Fault, TreeText, Memory}
use Rattle.fa_audit.specs.Proposed.{answer_of}
use Rattle.fa_audit.specs.Run.{AreBytesOf}
use Rattle.fa_audit.specs.Searched.{IsSearched, IsDecision, IsSearchAnswer, IsDecisionAnswer, IsJudgeAnswer, IsSearchTold, IsJudgementTold, IsSearchedFrom, IsJudgedFrom, IsJudgedAndKept, judgement_of, order_found, judged_status, IsOrderWritten}
use Rattle.fa_audit.specs.Starts.{IsNoStart}
use Rattle.fa_audit.proofs.SearchLemmas.{judged_by}

-- each answer says what holds of the capture and the tree, or memory was refused
pub searched_or_memory : (capture : List ℕ) (tree : Option (List ℕ)) (result : Result Searched StartError)
    → IfOk result (IsSearched capture tree) → IfErr result (IsNoStart capture tree) → IsErrOf result Memory ⊎ IsSearchAnswer capture tree result
searched_or_memory capture tree (Ok searched) is none = inr is
searched_or_memory capture tree (Err (Fault at code)) is none = inr none
searched_or_memory capture tree (Err (TreeText line)) is none = inr none
searched_or_memory capture tree (Err Memory) is none = inl refl

pub decision_or_memory : (capture : List ℕ) (tree : Option (List ℕ)) (result : Result Decision StartError)
    → IfOk result (IsDecision capture tree) → IfErr result (IsNoStart capture tree) → IsErrOf result Memory ⊎ IsDecisionAnswer capture tree result
decision_or_memory capture tree (Ok decision) is none = inr is
decision_or_memory capture tree (Err (Fault at code)) is none = inr none
decision_or_memory capture tree (Err (TreeText line)) is none = inr none
decision_or_memory capture tree (Err Memory) is none = inl refl

-- what is judged by an answer is one
pub judge_answer : (capture : List ℕ) (tree : Option (List ℕ)) (decision : Result Decision StartError)
    → IsDecisionAnswer capture tree decision → IsJudgeAnswer capture tree (judgement_of decision)
judge_answer capture tree (Ok decision) is = judged_by capture tree decision is
judge_answer capture tree (Err (Fault at code)) is = is
judge_answer capture tree (Err (TreeText line)) is = is
judge_answer capture tree (Err Memory) is = is

-- an answer of the audit that is told is not that memory was refused, so the error is not either
pub error_told : {T A : Type 0} (result : Result T RunFault) (answer : Result A StartError) (error : StartError) (told : Result Verdict AuditError)
    → answer ≡ Err error → told ≡ answer_of error → OnOk result (told ≢ Err errors.Memory) → OnOk result (answer ≢ Err Memory)
error_told (Ok status) answer error told is tells answered = λ same. (let memory : error ≡ Memory = cc in absurd (answered (tells ∙ ap answer_of memory)))
error_told (Err fault) answer error told is tells answered = tt

-- an answer that is told is none that memory was refused, so it is that of the search
pub searched_from : (result : Result ℕ RunFault) (capture old new : Option (List ℕ)) (Tree : Option (List ℕ) → Type 0) (c : List ℕ) (t : Option (List ℕ)) (answer : Result Searched StartError)
    → AreBytesOf capture c → Tree t → IsErrOf answer Memory ⊎ IsSearchAnswer c t answer
    → IfOk result (IsSearchTold answer old new) → OnOk result (answer ≢ Err Memory) → IfOk result (IsSearchedFrom capture Tree old new)
searched_from (Ok status) capture old new Tree c t answer whole read (inl refused) told answered = absurd (answered refused)
searched_from (Ok status) capture old new Tree c t answer whole read (inr is_answer) told answered =
    record {
      capture_bytes = c;
      tree_bytes = t;
      answer = answer;
      capture_read = whole;
      tree_read = read;
      is_answer = is_answer;
      told = told;
    }
searched_from (Err fault) capture old new Tree c t answer whole read given told answered = tt

-- and that of the decision, by which something is judged
pub judged_from : (result : Result ℕ RunFault) (capture old new : Option (List ℕ)) (Tree : Option (List ℕ) → Type 0) (c : List ℕ) (t : Option (List ℕ)) (decision : Result Decision StartError)
    → AreBytesOf capture c → Tree t → IsErrOf decision Memory ⊎ IsDecisionAnswer c t decision
    → IfOk result (IsJudgementTold (judgement_of decision) old new) → OnOk result (judgement_of decision ≢ Err Memory) → IfOk result (IsJudgedFrom capture Tree old new)
judged_from (Ok status) capture old new Tree c t decision whole read (inl refused) told answered = absurd (answered (ap judgement_of refused))
judged_from (Ok status) capture old new Tree c t decision whole read (inr is_answer) told answered =
    record {
      capture_bytes = c;
      tree_bytes = t;
      answer = judgement_of decision;
      capture_read = whole;
      tree_read = read;
      is_answer = judge_answer c t decision is_answer;
      told = told;
    }
judged_from (Err fault) capture old new Tree c t decision whole read given told answered = tt

pub kept_from : (result : Result ℕ RunFault) (capture order_old order_new old new : Option (List ℕ)) (Tree : Option (List ℕ) → Type 0) (c : List ℕ) (t : Option (List ℕ)) (decision : Result Decision StartError)
    → AreBytesOf capture c → Tree t → IsErrOf decision Memory ⊎ IsDecisionAnswer c t decision
    → IfOk result (IsJudgementTold (judgement_of decision) old new) → OnOk result (IsOrderWritten (order_found decision) order_old order_new) → OnOk result (judgement_of decision ≢ Err Memory)
    → IfOk result (IsJudgedAndKept capture Tree order_old order_new old new)
kept_from (Ok status) capture order_old order_new old new Tree c t decision whole read (inl refused) told kept answered = absurd (answered (ap judgement_of refused))
kept_from (Ok status) capture order_old order_new old new Tree c t decision whole read (inr is_answer) told kept answered =
    record {
      capture_bytes = c;
      tree_bytes = t;
      decision = decision;
      capture_read = whole;
      tree_read = read;
      is_answer = is_answer;
      told = told;
      kept = kept;
    }
kept_from (Err fault) capture order_old order_new old new Tree c t decision whole read given told kept answered = tt

-- lines that were told with the status of a legal order are those of an answer
pub lines_stand_from : (capture old new : Option (List ℕ)) (Tree : Option (List ℕ) → Type 0) (c : List ℕ) (t : Option (List ℕ)) (decision : Result Decision StartError)
    → AreBytesOf capture c → Tree t → IsErrOf decision Memory ⊎ IsDecisionAnswer c t decision
    → IsJudgementTold (judgement_of decision) old new 0 → IsJudgedFrom capture Tree old new 0
lines_stand_from capture old new Tree c t decision whole read (inl refused) told =
    absurd (let due : 0 ≡ judged_status (judgement_of decision) = told.status_is in let memory : judged_status (judgement_of decision) ≡ 5 = ap (λ (d : Result Decision StartError). judged_status (judgement_of d)) refused in omega (arith, due, memory))
lines_stand_from capture old new Tree c t decision whole read (inr is_answer) told =
    record {
      capture_bytes = c;
      tree_bytes = t;
      answer = judgement_of decision;
      capture_read = whole;
      tree_read = read;
      is_answer = judge_answer c t decision is_answer;
      told = told;
    }
