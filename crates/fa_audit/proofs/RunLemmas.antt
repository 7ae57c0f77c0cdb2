-- From a told answer to an audited run.
use Rattle.std.proofs.Common.{◌≡◌, ◌≢◌, ℕ, ◌≤◌, ◌⊎◌, inl, inr, List, length, Option, IfOk, OnOk, Result, Ok, Err}
use Rattle.fa_check.specs.declared.verdict.Verdict.{Verdict}
use Rattle.fa_audit.specs.declared.verdict.AuditError.{AuditError}
use Rattle.fa_audit.specs.declared.verdict.AuditError.TheVariants.{Memory}
use Rattle.fa_audit.specs.declared.running.RunFault.{RunFault}
use Rattle.fa_audit.specs.declared.running.TheConstants.{MAX_TEXT_INPUT_BYTES}
use Rattle.fa_audit.specs.Verdict.{IsAnswer}
use Rattle.fa_audit.specs.Run.{AreBytesOf, IsTold, IsAudited}

-- the audit gave an answer on these bytes, or memory was refused
abbrev pub IsAnswerOrMemory : List ℕ → Option (List ℕ) → List ℕ → Result Verdict AuditError → Type 0
IsAnswerOrMemory capture tree order answer = (answer ≡ Err Memory) ⊎ IsAnswer capture tree order answer

-- a told answer is none that memory was refused, so it is the audit's
pub audited : (result : Result ℕ RunFault) (capture order old new : Option (List ℕ)) (Tree : Option (List ℕ) → Type 0) (c o : List ℕ) (t : Option (List ℕ)) (answer : Result Verdict AuditError)
    → AreBytesOf capture c → AreBytesOf order o → length o ≤ MAX_TEXT_INPUT_BYTES → Tree t
    → IsAnswerOrMemory c t o answer
    → IfOk result (IsTold answer old new) → OnOk result (answer ≢ Err Memory)
    → IfOk result (IsAudited capture Tree order old new)
audited (Ok status) capture order old new Tree c o t answer hc ho lo ht (inl refused) told answered = absurd (answered refused)
audited (Ok status) capture order old new Tree c o t answer hc ho lo ht (inr is_answer) told answered =
    record {
      capture_bytes = c;
      tree_bytes = t;
      order_bytes = o;
      answer = answer;
      capture_read = hc;
      tree_read = ht;
      order_read = record { whole = ho; within = lo };
      is_answer = is_answer;
      told = told;
    }
audited (Err fault) capture order old new Tree c o t answer hc ho lo ht given told answered = tt
