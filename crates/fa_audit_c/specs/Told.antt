-- What is told to a caller that hands over places for a line and its size.
use Rattle.std.specs.Prelude.{◌≡◌, ℕ, List, ◌++◌, length, take, drop, Option, None, Some, Result, Bool, true, false}
use Rattle.fa_check.specs.declared.verdict.Verdict.{Verdict}
use Rattle.fa_audit.specs.declared.verdict.AuditError.{AuditError}
use Rattle.fa_audit.specs.declared.found.Judgement.{Judgement}
use Rattle.fa_audit.specs.declared.verdict.StartError.{StartError}
use Rattle.fa_audit.specs.Verdict.{IsAnswer}
use Rattle.fa_audit.specs.Searched.{IsJudgeAnswer, judged_line, judged_status}
use Rattle.fa_audit.specs.Line.{answer_line, answer_status}

-- the tree text, where one is handed in
abbrev pub text_if : Bool → List ℕ → Option (List ℕ)
text_if false text = None
text_if true text = Some text

-- the audit of these bytes has an answer with this line and this status
pub record IsAnswered (capture : List ℕ) (tree : Option (List ℕ)) (order : List ℕ) (line : List ℕ) (status : ℕ) : Type 0 where
  pub answer : Result Verdict AuditError
  pub is : IsAnswer capture tree order answer
  pub line_is : line ≡ answer_line answer
  pub status_is : status ≡ answer_status answer

-- and that line stands at the front of a place, as much of it as there is room for, with what stood behind it; and the size is that of
-- the whole line
pub record IsToldInto (capture : List ℕ) (tree : Option (List ℕ)) (order : List ℕ) (status size : ℕ) (old new : List ℕ) : Type 0 where
  pub line : List ℕ
  pub answered : IsAnswered capture tree order line status
  pub size_is : size ≡ length line
  pub written : new ≡ take (length old) line ++ drop (length line) old

-- the judgement of these bytes has an answer with this line and this status
pub record IsJudgementOf (capture : List ℕ) (tree : Option (List ℕ)) (line : List ℕ) (status : ℕ) : Type 0 where
  pub answer : Result Judgement StartError
  pub is : IsJudgeAnswer capture tree answer
  pub line_is : line ≡ judged_line answer
  pub status_is : status ≡ judged_status answer

-- and that line stands at the front of a place, as that of the audit does
pub record IsJudgementToldInto (capture : List ℕ) (tree : Option (List ℕ)) (status size : ℕ) (old new : List ℕ) : Type 0 where
  pub line : List ℕ
  pub judged : IsJudgementOf capture tree line status
  pub size_is : size ≡ length line
  pub written : new ≡ take (length old) line ++ drop (length line) old
