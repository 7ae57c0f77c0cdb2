-- How far an order is placed, where it is placed entry by entry: which calls are placed, by their places in the list, and which
-- tree the entries lead to.
use Rattle.std.specs.Prelude.{◌≡◌, ◌↔◌, ℕ, ◌^◌, ◌≤◌, ◌<◌, Bool, List, length, slice_get, Contains, Some}
use Rattle.fa_capture.specs.Message.{Message}
use Rattle.fa_session.specs.Answers.{IsAnsweredBy}
use Rattle.fa_ledger.specs.declared.calls.Calls.{Calls}
use Rattle.fa_ledger.specs.Calls.{PlainAnswer, PlainCall}
use Rattle.fa_tree.specs.State.{TreeState}
use Rattle.fa_tree.specs.declared.error.StepError.{StepError}
use Rattle.fa_tree.specs.declared.error.StepError.TheVariants.{Refused, Memory}
use Rattle.fa_order.specs.declared.entry.Entry.{Entry}
use Rattle.fa_check.specs.declared.placing.Placing.{Placing}
use Rattle.fa_check.specs.Orders.{IsTreeRequestAt, numbers}
use Rattle.fa_check.specs.Runs.{Runs}
use Rattle.fa_check.specs.Faults.{EachPlaced, EntryFails}
use Rattle.fa_check.specs.Verdicts.{AreMessagesOf}
use Rattle.fa_check.specs.Marks.{IsSet, IsUnset, IsFirstSet, count_set}

-- ---- calls and answers

-- the call at this place is that of message `at`
abbrev pub IsCallOf : List PlainCall → (place at : ℕ) → Type 0
IsCallOf calls place at = (call : PlainCall) × (slice_get calls place ≡ Some call) × (call.asked ≡ at)

-- message q answers the call at this place
abbrev pub IsAnswerAt : List PlainCall → (place q : ℕ) → Type 0
IsAnswerAt calls place q =
    (call : PlainCall) × (answer : PlainAnswer) × (slice_get calls place ≡ Some call) × (call.answer ≡ Some answer) × (answer.at ≡ q)

-- message q answers a call that is not placed
abbrev pub AnswersUnplaced : List PlainCall → (placed : List Bool) → ℕ → Type 0
AnswersUnplaced calls placed q = (place : ℕ) × IsAnswerAt calls place q × IsUnset placed place

-- ---- what is kept

-- There is a mark for each call, and one for each message, which is set where it answers a call that is not placed; the first of
-- these is known, and how many calls are placed. There are no more messages than a u32 counts.
pub record IsPlacing (calls : List PlainCall) (messages : ℕ) (s : Placing) : Type 0 where
  pub sized : length s.marks.items ≡ length calls
  pub wide : length s.waiting.answers.items ≡ messages
  pub few : messages < 2 ^ 32
  pub waiting : (q : ℕ) → IsSet s.waiting.answers.items q ↔ AnswersUnplaced calls s.marks.items q
  pub front : IsFirstSet s.waiting.answers.items s.waiting.front
  pub counted : s.count ≡ count_set s.marks.items

-- ---- the entries so far

-- The calls that are placed are exactly those of the entries.
pub record ArePlaced (calls : List PlainCall) (es : List Entry) (placed : List Bool) : Type 0 where
  pub exact : (place : ℕ) (call : PlainCall) → slice_get calls place ≡ Some call
      → IsSet placed place ↔ Contains (numbers es) call.asked
  pub known : (p : ℕ) → Contains (numbers es) p → (place : ℕ) × IsCallOf calls place p

-- These entries were replayed: they are placed, and lead from the first tree to this one.
pub record IsReplayed (calls : Calls) (first now : TreeState) (es : List Entry) (s : Placing) : Type 0 where
  pub shape : IsPlacing calls.list calls.messages s
  pub placed : ArePlaced calls.list es s.marks.items
  pub counted : s.count ≡ length es
  pub run : (c : List Message) → AreMessagesOf calls c → EachPlaced c es × Runs first now c es

-- behind entries that were replayed, the next one fails with this code, unless memory was refused
abbrev pub NextFails : Calls → TreeState → Entry → Placing → StepError → Type 0
NextFails calls tree e s (Refused code) =
    (first : TreeState) (es : List Entry) → IsReplayed calls first tree es s
    → (c : List Message) → AreMessagesOf calls c → EntryFails tree c es e code
NextFails calls tree e s Memory = Unit {0}

-- ---- the front

-- The front of an order: each tree request that a message before it answers is in an entry; and it is the number of the first
-- message that answers one which is in none, or that of all messages where there is none.
pub record IsFront (c : List Message) (es : List Entry) (front : ℕ) : Type 0 where
  pub within : front ≤ length c
  pub before : (p q : ℕ) → IsTreeRequestAt c p → IsAnsweredBy c p q → q < front → Contains (numbers es) p
  pub there : front < length c → (p : ℕ) × IsTreeRequestAt c p × IsAnsweredBy c p front × (Contains (numbers es) p → ⊥)
