-- The line that tells an answer, and the status with which the program ends.
use Rattle.std.specs.Prelude.{ℕ, List, [], ◌++◌, IsSome, unwrap_or, codes, decimal, Result, Ok, Err}
use Rattle.fa_capture.specs.declared.codes.TheConstants.{NOT_AN_ORDER_TEXT, NOT_A_TREE_TEXT}
use Rattle.fa_capture.specs.Codes.{text_of}
use Rattle.fa_check.specs.declared.verdict.Verdict.{Verdict}
use Rattle.fa_check.specs.declared.verdict.Verdict.TheVariants.{Legal, Fault, NotShown}
use Rattle.fa_audit.specs.declared.found.Searched.{Searched}
use Rattle.fa_audit.specs.declared.found.Searched.TheVariants as found
use Rattle.fa_audit.specs.declared.found.Judgement.{Judgement}
use Rattle.fa_audit.specs.declared.found.Judgement.TheVariants as judged
use Rattle.fa_audit.specs.declared.verdict.AuditError.{AuditError}
use Rattle.fa_audit.specs.declared.verdict.AuditError.TheVariants.{OrderText, TreeText, Memory}
use Rattle.fa_audit.specs.declared.status.Status.TheVariants as status
use Rattle.fa_audit.specs.Status.{status_number}

-- the code that the verdict tells, if any, has a text
abbrev pub IsCoded : Verdict → Type 0
IsCoded (Legal messages placed left) = Unit {0}
IsCoded (Fault at code) = IsSome (text_of code)
IsCoded (NotShown entry at code) = IsSome (text_of code)

-- the text of a code that has one
abbrev pub code_text : ℕ → List ℕ
code_text code = unwrap_or (text_of code) []

-- `: code C: TEXT`
abbrev pub code_part : ℕ → List ℕ
code_part code = codes ": code " ++ (decimal code ++ (codes ": " ++ code_text code))

-- `: message N: code C: TEXT`
abbrev pub message_part : ℕ → ℕ → List ℕ
message_part at code = codes ": message " ++ (decimal at ++ code_part code)

-- the line of a verdict
abbrev pub verdict_line : Verdict → List ℕ
verdict_line (Legal messages placed left) =
    codes "legal: " ++ (decimal messages ++ (codes " messages, " ++ (decimal placed ++ (codes " placed, " ++ (decimal left ++ codes " left out")))))
verdict_line (Fault at code) = codes "fault" ++ message_part at code
verdict_line (NotShown entry at code) = codes "not shown: entry " ++ (decimal entry ++ message_part at code)

-- the line of an order text that is not in its grammar, by its first line that does not fit
abbrev pub order_line : ℕ → List ℕ
order_line line = codes "order: line " ++ (decimal line ++ code_part NOT_AN_ORDER_TEXT)

-- the line of a tree text that is not in its grammar, by its first line that does not fit
abbrev pub tree_line : ℕ → List ℕ
tree_line line = codes "tree: line " ++ (decimal line ++ code_part NOT_A_TREE_TEXT)

-- The line of each answer; that memory was refused is no answer.
abbrev pub answer_line : Result Verdict AuditError → List ℕ
answer_line (Ok verdict) = verdict_line verdict
answer_line (Err (TreeText line)) = tree_line line
answer_line (Err (OrderText line)) = order_line line
answer_line (Err Memory) = []

-- The status of each answer.
abbrev pub answer_status : Result Verdict AuditError → ℕ
answer_status (Ok (Legal messages placed left)) = status_number status.Legal
answer_status (Ok (Fault at code)) = status_number status.Fault
answer_status (Ok (NotShown entry at code)) = status_number status.NotShown
answer_status (Err (TreeText line)) = status_number status.Text
answer_status (Err (OrderText line)) = status_number status.Text
answer_status (Err Memory) = status_number status.Failed

-- ---- what a search answers, and what is judged by it

-- the code that a search tells, if any, has a text
abbrev pub IsCodedSearch : Searched → Type 0
IsCodedSearch (found.Order text) = Unit {0}
IsCodedSearch (found.NoOrder at code shortest) = IsSome (text_of code)
IsCodedSearch (found.GaveUp at) = Unit {0}

-- so has that of what is judged
abbrev pub IsCodedJudgement : Judgement → Type 0
IsCodedJudgement (judged.Legal messages placed left) = Unit {0}
IsCodedJudgement (judged.NoOrder at code shortest) = IsSome (text_of code)
IsCodedJudgement (judged.GaveUp at) = Unit {0}

-- The line of what is judged: of a legal order that of its verdict.
abbrev pub judgement_line : Judgement → List ℕ
judgement_line (judged.Legal messages placed left) = verdict_line (Legal messages placed left)
judgement_line (judged.NoOrder at code shortest) = codes "no order" ++ message_part at code
judgement_line (judged.GaveUp at) = codes "gave up: message " ++ decimal at

-- Its status.
abbrev pub judgement_status : Judgement → ℕ
judgement_status (judged.Legal messages placed left) = status_number status.Legal
judgement_status (judged.NoOrder at code shortest) = status_number status.NoOrder
judgement_status (judged.GaveUp at) = status_number status.GaveUp

-- the line behind that of `no order`, of so many first messages
abbrev pub shortest_line : ℕ → List ℕ
shortest_line count = codes "the first " ++ (decimal count ++ codes " messages alone have no order")
