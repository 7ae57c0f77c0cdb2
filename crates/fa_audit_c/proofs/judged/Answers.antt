-- What is told of a judgement is that of an answer, since the answer was not that memory was refused.
use Rattle.std.proofs.Common.{◌≡◌, ◌≢◌, ℕ, List, Option, Result, Ok, Err, IfOk, refl, string_bytes}
use Rattle.std.specs.Prelude.{OnOk}
use Rattle.std.specs.Option.{option_copied}
use Rattle.fa_ledger.specs.Passing.{IsFirstFault}
use Rattle.fa_audit.specs.declared.found.Judgement.{Judgement}
use Rattle.fa_audit.specs.declared.running.RunFault.{RunFault}
use Rattle.fa_audit.specs.declared.verdict.StartError.{StartError}
use Rattle.fa_audit.specs.declared.verdict.StartError.TheVariants.{Fault, TreeText, Memory}
use Rattle.fa_audit.specs.Status.{status_number}
use Rattle.fa_audit.specs.Verdict.{IsTreeTextAtFault, ExactlyRefused}
use Rattle.fa_audit.specs.Searched.{IsJudged, IsJudgeAnswer, judged_line, judged_status}
use Rattle.fa_audit_c.specs.Told.{IsJudgementOf}
use Rattle.fa_audit_c.proofs.judged.Goals as goal

module _ (capture : List ℕ) (tree : Option (List ℕ)) where
  is_answer : (answer : Result Judgement StartError) → IfOk answer (IsJudged capture tree)
      → ((at code : ℕ) → ExactlyRefused answer Memory (Fault at code) (IsFirstFault capture at code))
      → ((line : ℕ) → ExactlyRefused answer Memory (TreeText line) (IsTreeTextAtFault capture tree line)) → answer ≢ Err Memory → IsJudgeAnswer capture tree answer
  is_answer (Ok judgement) judged fault text told = judged
  is_answer (Err (Fault at code)) judged fault text told = (fault at code).only refl
  is_answer (Err (TreeText line)) judged fault text told = (text line).only refl
  is_answer (Err Memory) judged fault text told = absurd (told refl)

  told_of : {T : Type 0} (result : Result T RunFault) (line_of : T → List ℕ) (status_of : T → ℕ) (answer : Result Judgement StartError)
      → (answer ≢ Err Memory → IsJudgeAnswer capture tree answer) → IfOk result (λ told. line_of told ≡ judged_line answer)
      → IfOk result (λ told. status_of told ≡ judged_status answer) → OnOk result (answer ≢ Err Memory)
      → IfOk result (λ told. IsJudgementOf capture tree (line_of told) (status_of told))
  told_of (Ok told) line_of status_of answer is line status answered =
      record { answer = answer; is = is answered; line_is = line; status_is = status }
  told_of (Err fault) line_of status_of answer is line status answered = tt

pub returns-clause-told : goal.returns-clause-told
returns-clause-told c =
    let capture = c.args.capture.now in
    let tree = option_copied c.args.tree in
    let told = c.judged_line_and_status.ensures in
    told_of capture tree c.judged_line_and_status.result (λ told. string_bytes told.0) (λ told. status_number told.1) c.judge_capture.result
    (is_answer capture tree c.judge_capture.result c.judge_capture.ensures.answer c.judge_capture.ensures.fault c.judge_capture.ensures.tree_text)
    told.line told.status told.answered
