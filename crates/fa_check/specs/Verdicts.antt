-- What is answered of an order.
use Rattle.std.specs.Prelude.{◌≡◌, ℕ, List, length, Contains, Result, Ok, IfOk}
use Rattle.std.specs.List.Sorted.{IsStrictlyIncreasing}
use Rattle.std.specs.declared.alloc.AllocError.{AllocError}
use Rattle.fa_capture.specs.Message.{Message}
use Rattle.fa_session.specs.Answers.{IsUnanswered}
use Rattle.fa_ledger.specs.declared.calls.Calls.{Calls}
use Rattle.fa_ledger.specs.Passing.{AreGood}
use Rattle.fa_ledger.specs.Calls.{AreCalls}
use Rattle.fa_tree.specs.State.{TreeState}
use Rattle.fa_order.specs.declared.entry.Entry.{Entry}
use Rattle.fa_check.specs.declared.verdict.Verdict.{Verdict}
use Rattle.fa_check.specs.declared.verdict.Verdict.TheVariants.{Legal, Fault, NotShown}
use Rattle.fa_check.specs.Orders.{IsTreeRequestAt, numbers}
use Rattle.fa_check.specs.Runs.{IsLegalRun}
use Rattle.fa_check.specs.Faults.{IsOrderAtFault}

-- the messages are good, and these are their calls
pub record AreMessagesOf (calls : Calls) (c : List Message) : Type 0 where
  pub good : AreGood c
  pub counted : calls.messages ≡ length c
  pub are : AreCalls c calls.list

-- an unanswered tree request that is in no entry
abbrev pub IsUnansweredUnplaced : List Message → List Entry → ℕ → Type 0
IsUnansweredUnplaced c es p = IsTreeRequestAt c p × IsUnanswered c p × (Contains (numbers es) p → ⊥)

-- There are so many such numbers.
pub record Counts (Such : ℕ → Type 0) (count : ℕ) : Type 0 where
  pub all : List ℕ
  pub rising : IsStrictlyIncreasing all
  pub each : (p : ℕ) → Contains all p → Such p
  pub complete : (p : ℕ) → Such p → Contains all p
  pub number : length all ≡ count

-- The order is a legal run from the first tree; with the numbers of the messages, of the entries, and of the unanswered tree
-- requests that are in no entry, those that only read among them.
pub record IsLegalWith (c : List Message) (first : TreeState) (es : List Entry) (messages placed left : ℕ) : Type 0 where
  pub legal : IsLegalRun c first es
  pub messages_are : messages ≡ length c
  pub placed_are : placed ≡ length es
  pub left_are : Counts (IsUnansweredUnplaced c es) left

-- What each verdict says of messages that are good, a first tree and an order. They have no fault.
abbrev pub IsVerdict : List Message → TreeState → List Entry → Verdict → Type 0
IsVerdict c first es (Legal messages placed left) = IsLegalWith c first es messages placed left
IsVerdict c first es (Fault at code) = ⊥
IsVerdict c first es (NotShown entry at code) = IsOrderAtFault c first es entry at code

-- The call answers this exactly where the fact holds, unless memory was refused. That memory is not refused where
-- there is some, no clause can say.
pub record Exactly (result : Result Verdict AllocError) (verdict : Verdict) (Fact : Type 0) : Type 0 where
  pub only : result ≡ Ok verdict → Fact
  pub always : Fact → IfOk result (λ told. told ≡ verdict)
