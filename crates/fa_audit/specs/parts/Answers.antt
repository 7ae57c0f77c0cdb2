-- Answers of calls that may be refused memory.
use Rattle.std.specs.Prelude.{◌≡◌, ℕ, List, Option, Some, Result, Ok, Err, Vec}
use Rattle.std.specs.declared.alloc.Global.{Global}
use Rattle.fa_capture.specs.Message.{Message}
use Rattle.fa_ledger.specs.declared.calls.Calls.{Calls}
use Rattle.fa_ledger.specs.Passing.{IsGoodCapture, IsFirstFault}
use Rattle.fa_order.specs.declared.error.TextError.{TextError}
use Rattle.fa_order.specs.declared.error.TextError.TheVariants as texts
use Rattle.fa_tree_text.specs.TreeText.{IsTreeFault}
use Rattle.fa_check.specs.declared.verdict.Verdict.{Verdict}
use Rattle.fa_check.specs.Verdicts.{AreMessagesOf}
use Rattle.fa_audit.specs.declared.verdict.AuditError.{AuditError}
use Rattle.fa_audit.specs.declared.verdict.AuditError.TheVariants.{OrderText, TreeText, Memory}
use Rattle.fa_audit.specs.declared.verdict.StartError.{StartError}
use Rattle.fa_audit.specs.declared.verdict.StartError.TheVariants as starts
use Rattle.fa_audit.specs.declared.verdict.CutError.{CutError}
use Rattle.fa_audit.specs.declared.verdict.CutError.TheVariants as cuts
use Rattle.fa_audit.specs.declared.protocol.Broken.{Broken}
use Rattle.fa_audit.specs.declared.protocol.Broken.TheVariants as broken
use Rattle.fa_audit.specs.Verdict.{IsAnswer, IsTreeTextAtFault, IsOrderTextAtFault}
use Rattle.fa_audit.specs.CutOrders.{IsUncutAtLine}

-- what is told is an answer, or that memory was refused
abbrev pub Tells : (capture : List ℕ) → (tree : Option (List ℕ)) → (order : List ℕ) → Result Verdict AuditError → Type 0
Tells capture tree order (Ok verdict) = IsAnswer capture tree order (Ok verdict)
Tells capture tree order (Err (TreeText line)) = IsTreeTextAtFault capture tree line
Tells capture tree order (Err (OrderText line)) = IsOrderTextAtFault capture tree order line
Tells capture tree order (Err Memory) = Unit {0}

-- the calls are those of a good capture
pub record AreCallsOf (capture : List ℕ) (calls : Calls) : Type 0 where
  pub messages : List Message
  pub good : IsGoodCapture capture messages
  pub are : AreMessagesOf calls messages

-- the capture has this fault; of memory nothing is said
abbrev pub IsCaptureRefused : (capture : List ℕ) → Broken → Type 0
IsCaptureRefused capture (broken.Fault at code) = IsFirstFault capture at code
IsCaptureRefused capture broken.Memory = Unit {0}

-- as what a capture that is refused is told, where an order is to start from it
abbrev pub start_refused : Broken → StartError
start_refused (broken.Fault at code) = starts.Fault at code
start_refused broken.Memory = starts.Memory

-- and where an order is to be cut
abbrev pub cut_refused : Broken → CutError
cut_refused (broken.Fault at code) = cuts.Fault at code
cut_refused broken.Memory = cuts.Memory

-- as what an order text that is refused is told there
abbrev pub cut_text_refused : TextError → CutError
cut_text_refused (texts.Line line) = cuts.OrderText line
cut_text_refused texts.Memory = cuts.Memory

-- the capture or the order text has this fault; of memory nothing is said
abbrev pub IsNoCut : (capture order : List ℕ) → CutError → Type 0
IsNoCut capture order (cuts.Fault at code) = IsFirstFault capture at code
IsNoCut capture order (cuts.OrderText line) = IsUncutAtLine capture order line
IsNoCut capture order cuts.Memory = Unit {0}

-- an order text or an error, as bytes
abbrev pub text_answered : {E : Type 0} → Result (Vec ℕ Global) E → Result (List ℕ) E
text_answered (Ok text) = Ok text.items
text_answered (Err error) = Err error

-- the tree text that is handed in has its fault at this line; of memory nothing is said
abbrev pub IsTreeRefused : (tree : Option (List ℕ)) → StartError → Type 0
IsTreeRefused tree (starts.Fault at code) = ⊥
IsTreeRefused tree (starts.TreeText line) = (text : List ℕ) × (tree ≡ Some text) × IsTreeFault text line
IsTreeRefused tree starts.Memory = Unit {0}
