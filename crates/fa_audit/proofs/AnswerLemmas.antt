-- From the audit's clauses, one for each answer, to what holds of any answer.
use Rattle.std.proofs.Common.{◌≡◌, ℕ, ◌⊎◌, inl, inr, refl, List, Option, Result, Ok, Err}
use Rattle.fa_check.specs.declared.verdict.Verdict.{Verdict}
use Rattle.fa_check.specs.declared.verdict.Verdict.TheVariants.{Legal, Fault, NotShown}
use Rattle.fa_ledger.specs.Passing.{IsFirstFault}
use Rattle.fa_audit.specs.declared.verdict.AuditError.{AuditError}
use Rattle.fa_audit.specs.declared.verdict.AuditError.TheVariants.{OrderText, TreeText, Memory}
use Rattle.fa_audit.specs.Verdict.{IsLegal, IsTreeTextAtFault, IsOrderTextAtFault, IsNotShown, IsAnswer, Exactly}

-- each answer says what holds of the capture, the tree and the order, or memory was refused
pub answer_or_memory : (capture : List ℕ) (tree : Option (List ℕ)) (order : List ℕ) (result : Result Verdict AuditError)
    → ((messages placed left : ℕ) → Exactly result (Ok (Legal messages placed left)) (IsLegal capture tree order messages placed left))
    → ((at code : ℕ) → Exactly result (Ok (Fault at code)) (IsFirstFault capture at code))
    → ((entry at code : ℕ) → Exactly result (Ok (NotShown entry at code)) (IsNotShown capture tree order entry at code))
    → ((line : ℕ) → Exactly result (Err (TreeText line)) (IsTreeTextAtFault capture tree line))
    → ((line : ℕ) → Exactly result (Err (OrderText line)) (IsOrderTextAtFault capture tree order line))
    → (result ≡ Err Memory) ⊎ IsAnswer capture tree order result
answer_or_memory capture tree order (Ok (Legal messages placed left)) legal fault not_shown tree_text text = inr ((legal messages placed left).only refl)
answer_or_memory capture tree order (Ok (Fault at code)) legal fault not_shown tree_text text = inr ((fault at code).only refl)
answer_or_memory capture tree order (Ok (NotShown entry at code)) legal fault not_shown tree_text text = inr ((not_shown entry at code).only refl)
answer_or_memory capture tree order (Err (TreeText line)) legal fault not_shown tree_text text = inr ((tree_text line).only refl)
answer_or_memory capture tree order (Err (OrderText line)) legal fault not_shown tree_text text = inr ((text line).only refl)
answer_or_memory capture tree order (Err Memory) legal fault not_shown tree_text text = inl refl
