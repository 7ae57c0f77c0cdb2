-- What an order starts with, or why it has no start.
use Rattle.std.specs.Prelude.{ℕ, List, Option}
use Rattle.fa_capture.specs.Message.{Message}
use Rattle.fa_ledger.specs.declared.calls.Calls.{Calls}
use Rattle.fa_ledger.specs.Passing.{IsGoodCapture, IsFirstFault}
use Rattle.fa_tree.specs.State.{TreeState}
use Rattle.fa_order.specs.Order.{IsOrderFault}
use Rattle.fa_check.specs.Verdicts.{AreMessagesOf}
use Rattle.fa_audit.specs.declared.verdict.AuditError.{AuditError}
use Rattle.fa_audit.specs.declared.verdict.AuditError.TheVariants.{OrderText, TreeText, Memory}
use Rattle.fa_audit.specs.declared.verdict.StartError.{StartError}
use Rattle.fa_audit.specs.declared.verdict.StartError.TheVariants as starts
use Rattle.fa_audit.specs.Verdict.{IsGivenTree, IsTreeTextAtFault}

-- the calls are those of a good capture, and the tree is the given one
pub record IsStartOf (capture : List ℕ) (tree : Option (List ℕ)) (calls : Calls) (first : TreeState) : Type 0 where
  pub messages : List Message
  pub good : IsGoodCapture capture messages
  pub are : AreMessagesOf calls messages
  pub given : IsGivenTree tree first

-- the capture or the tree text that is handed in has this fault; of memory nothing is said
abbrev pub IsNoStart : (capture : List ℕ) → (tree : Option (List ℕ)) → StartError → Type 0
IsNoStart capture tree (starts.Fault at code) = IsFirstFault capture at code
IsNoStart capture tree (starts.TreeText line) = IsTreeTextAtFault capture tree line
IsNoStart capture tree starts.Memory = Unit {0}

-- the order text has its fault at this line; of memory nothing is said
abbrev pub IsOrderRefused : (order : List ℕ) → AuditError → Type 0
IsOrderRefused order (OrderText line) = IsOrderFault order line
IsOrderRefused order (TreeText line) = ⊥
IsOrderRefused order Memory = Unit {0}
