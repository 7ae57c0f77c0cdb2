-- The answers of the audit, each by what it says of the capture, of the tree text if one is handed in, and of the order text. It
-- is the page to read first: each of its words stands one step away.
--
-- How the signs read, here and one step away: `X : A → B → Type 0` says that X is a statement about an A and a B, and the lines under it
-- say which, case by case; a `record` is the statement that there are such values as its fields name (here messages, a first tree,
-- entries) for which all its other fields hold. `a ≡ b` is `a equals b`; `P × Q` is `both hold`, `P ⊎ Q` is `one of them does`, and `⊥`
-- is what never holds. In a statement `P → Q` is `where P holds, Q does`, so `P → ⊥` is `P does not hold`; `(n : ℕ) → P n` is `for each
-- number n`, and `λ b. P b` the condition P on its b. A `List ℕ` is a list of numbers, as bytes are here; `Option` and `Result` are Rust's.
use Rattle.std.specs.Prelude.{◌≡◌, ℕ, ◌⊎◌, List, length, Option, None, Some, Result, Ok, Err, IsErrOf}
use Rattle.fa_capture.specs.Message.{Message}
use Rattle.fa_ledger.specs.Passing.{IsGoodCapture, IsFirstFault}
use Rattle.fa_tree.specs.State.{TreeState}
use Rattle.fa_tree.specs.Building.{empty_tree}
use Rattle.fa_order.specs.declared.entry.Entry.{Entry}
use Rattle.fa_order.specs.Order.{IsOrderText, IsOrderFault}
use Rattle.fa_tree_text.specs.TreeText.{IsTreeText, IsTreeFault}
use Rattle.fa_check.specs.declared.verdict.Verdict.{Verdict}
use Rattle.fa_check.specs.declared.verdict.Verdict.TheVariants.{Legal, Fault, NotShown}
use Rattle.fa_check.specs.Orders.{IsValidOrder}
use Rattle.fa_check.specs.Runs.{Runs}
use Rattle.fa_check.specs.Faults.{IsOrderAtFault}
use Rattle.fa_check.specs.Verdicts.{Counts, IsUnansweredUnplaced}
use Rattle.fa_audit.specs.declared.judge.TheConstants.{ROOT_BITS}
use Rattle.fa_audit.specs.declared.verdict.AuditError.{AuditError}
use Rattle.fa_audit.specs.declared.verdict.AuditError.TheVariants.{OrderText, TreeText, Memory}

-- The tree that the server began with: that of the tree text where one is handed in; else an empty root with the permission bits
-- 755 (octal).
abbrev pub IsGivenTree : (tree : Option (List ℕ)) → TreeState → Type 0
IsGivenTree None first = first ≡ empty_tree ROOT_BITS
IsGivenTree (Some text) first = IsTreeText text first

-- The capture is good (every message is in the grammar, each reply answers one outstanding request, no node that was forgotten and
-- no file handle that was closed is used), and the order, with all answered tree requests and some of the others, each placed after
-- those that were answered before it was sent, is a run of the tree machine from the given tree which gives every recorded reply.
-- With the numbers of the messages, of the entries, and of the unanswered tree requests that are in no entry.
pub record IsLegal (capture : List ℕ) (tree : Option (List ℕ)) (order : List ℕ) (count placed left : ℕ) : Type 0 where
  pub messages : List Message
  pub first : TreeState
  pub last : TreeState
  pub entries : List Entry
  pub good : IsGoodCapture capture messages
  pub given : IsGivenTree tree first
  pub text : IsOrderText order entries
  pub valid : IsValidOrder messages entries
  pub run : Runs first last messages entries
  pub count_is : count ≡ length messages
  pub placed_are : placed ≡ length entries
  pub left_are : Counts (IsUnansweredUnplaced messages entries) left

-- the capture is good, and the tree text that is handed in is at fault in this line
pub record IsTreeTextAtFault (capture : List ℕ) (tree : Option (List ℕ)) (line : ℕ) : Type 0 where
  pub messages : List Message
  pub text : List ℕ
  pub good : IsGoodCapture capture messages
  pub handed_in : tree ≡ Some text
  pub fault : IsTreeFault text line

-- the capture is good, a tree text that is handed in is in its grammar, and the order text is at fault in this line
pub record IsOrderTextAtFault (capture : List ℕ) (tree : Option (List ℕ)) (order : List ℕ) (line : ℕ) : Type 0 where
  pub messages : List Message
  pub first : TreeState
  pub good : IsGoodCapture capture messages
  pub given : IsGivenTree tree first
  pub fault : IsOrderFault order line

-- The capture is good, the texts are in their grammar, and this is the first entry at fault with the first check that it fails; or
-- the number of the entries and, with the code ANSWERED_LEFT_OUT, the least answered request that they leave out.
pub record IsNotShown (capture : List ℕ) (tree : Option (List ℕ)) (order : List ℕ) (entry at code : ℕ) : Type 0 where
  pub messages : List Message
  pub first : TreeState
  pub entries : List Entry
  pub good : IsGoodCapture capture messages
  pub given : IsGivenTree tree first
  pub text : IsOrderText order entries
  pub fault : IsOrderAtFault messages first entries entry at code

-- What each answer says. The fault of a capture is at the least number of a message that does not keep the protocol, with the
-- first check that it fails, or where the framing ends. That memory was refused is no answer.
abbrev pub IsAnswer : (capture : List ℕ) → (tree : Option (List ℕ)) → (order : List ℕ) → Result Verdict AuditError → Type 0
IsAnswer capture tree order (Ok (Legal messages placed left)) = IsLegal capture tree order messages placed left
IsAnswer capture tree order (Ok (Fault at code)) = IsFirstFault capture at code
IsAnswer capture tree order (Ok (NotShown entry at code)) = IsNotShown capture tree order entry at code
IsAnswer capture tree order (Err (TreeText line)) = IsTreeTextAtFault capture tree line
IsAnswer capture tree order (Err (OrderText line)) = IsOrderTextAtFault capture tree order line
IsAnswer capture tree order (Err Memory) = ⊥

-- The call answers this exactly where the fact holds, unless memory was refused. That memory is not refused where
-- there is some, no clause can say.
pub record Exactly (result : Result Verdict AuditError) (answer : Result Verdict AuditError) (Fact : Type 0) : Type 0 where
  pub only : result ≡ answer → Fact
  pub always : Fact → (result ≡ answer) ⊎ (result ≡ Err Memory)

-- The call has this error exactly where the fact holds, unless memory was refused, which it tells by the error `memory`.
pub record ExactlyRefused {T E : Type 0} (result : Result T E) (memory error : E) (Fact : Type 0) : Type 0 where
  pub only : IsErrOf result error → Fact
  pub always : Fact → IsErrOf result error ⊎ IsErrOf result memory
