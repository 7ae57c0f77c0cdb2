-- Which entries may come next, by the ranks of their calls, and which of them is placed.
use Rattle.std.specs.Prelude.{◌≡◌, ℕ, ◌<◌, List, [], ◌∷◌, ◌++◌, ◌⊎◌, slice_get, take, All, Contains, Option, None, Some}
use Rattle.fa_capture.specs.Checks.{AllHold}
use Rattle.fa_capture.specs.Message.{Message}
use Rattle.fa_ledger.specs.Calls.{PlainCall}
use Rattle.fa_ledger.specs.Choices.{Allows}
use Rattle.fa_ledger.specs.declared.calls.Calls.{Calls}
use Rattle.fa_tree.specs.State.{TreeState}
use Rattle.fa_tree.specs.declared.error.StepError.TheVariants.{Refused}
use Rattle.fa_order.specs.declared.entry.Entry.{Entry}
use Rattle.fa_check.specs.Orders.{numbers}
use Rattle.fa_check.specs.Runs.{EntrySteps}
use Rattle.fa_check.specs.declared.placing.Placing.{Placing}
use Rattle.fa_check.specs.Faults.{order_checks}
use Rattle.fa_check.specs.Replays.{NextFails}
use Rattle.fa_propose.specs.declared.rank.Rank.{Rank}
use Rattle.fa_propose.specs.declared.proposing.TheConstants.{MAX_TRIED}
use Rattle.fa_propose.specs.Proposals.{entry_of, IsCandidate, IsRank, IsBefore, IsNext, IsStuck}

-- ---- which entries may come next

-- The entry proposes a candidate among the calls that were looked at, and has its rank.
pub record IsReadyCall (c : List Message) (calls : List PlainCall) (es : List Entry) (seen : ℕ) (rank : Rank) (entry : Entry) : Type 0 where
  pub place : ℕ
  pub call : PlainCall
  pub looked_at : place < seen
  pub there : slice_get calls place ≡ Some call
  pub ranked : IsRank rank call
  pub proposes : entry ≡ entry_of call
  pub candidate : IsCandidate c es call

-- the entry that proposes the call stands at its rank
abbrev pub HasEntry : List (Rank × Entry) → PlainCall → Type 0
HasEntry ready call = (rank : Rank) × IsRank rank call × Contains ready (rank, entry_of call)

-- These propose the candidates among the first calls, so many of them; and the entries so far are of calls among these.
pub record IsReady (c : List Message) (calls : List PlainCall) (es : List Entry) (seen : ℕ) (ready : List (Rank × Entry)) : Type 0 where
  pub each : (rank : Rank) (entry : Entry) → Contains ready (rank, entry) → IsReadyCall c calls es seen rank entry
  pub complete : (place : ℕ) (call : PlainCall) → place < seen → slice_get calls place ≡ Some call → (Contains (numbers es) call.asked → ⊥)
      → Allows call (entry_of call).wrote → HasEntry ready call
  pub placed : (place : ℕ) (call : PlainCall) → slice_get calls place ≡ Some call → Contains (numbers es) call.asked → place < seen

-- each candidate is among the first calls, so many of them
abbrev pub AreAllSeen : List Message → List PlainCall → List Entry → ℕ → Type 0
AreAllSeen c calls es seen = (place : ℕ) (call : PlainCall) → slice_get calls place ≡ Some call → IsCandidate c es call → place < seen

-- A call is taken in: where an order may name it, its entry stands at its rank; the entries at other ranks stay.
pub record IsOffered (call : PlainCall) (old new : List (Rank × Entry)) : Type 0 where
  pub added : Allows call (entry_of call).wrote → HasEntry new call
  pub kept : (rank : Rank) (entry : Entry) → (IsRank rank call → ⊥) → Contains old (rank, entry) → Contains new (rank, entry)
  pub from : (rank : Rank) (entry : Entry) → Contains new (rank, entry)
      → Contains old (rank, entry) ⊎ (Allows call (entry_of call).wrote × IsRank rank call × (entry ≡ entry_of call))

-- ---- which of them is placed

-- each passes the checks of its place
abbrev pub MayEachComeNext : List Message → List Entry → List (Rank × Entry) → Type 0
MayEachComeNext c es ready = (rank : Rank) (entry : Entry) → Contains ready (rank, entry) → AllHold (order_checks c es entry)

-- by ranks that rise
abbrev pub IsRankedBefore : Rank × Entry → Rank × Entry → Type 0
IsRankedBefore a b = IsBefore a.0 b.0

-- from this tree the entry has no step
abbrev pub HasNoEntryStep : List Message → TreeState → Rank × Entry → Type 0
HasNoEntryStep c tree p = (new : TreeState) → EntrySteps tree new c p.1 → ⊥

-- the first of all was refused
abbrev pub IsFirstRefused : Calls → TreeState → Placing → List (Rank × Entry) → Type 0
IsFirstRefused calls tree placing ready =
    (found : Rank × Entry) × (code : ℕ) × (slice_get ready 0 ≡ Some found) × NextFails calls tree found.1 placing (Refused code)

-- none of those that are tried has a step
abbrev pub NoneSteps : List Message → TreeState → List (Rank × Entry) → Type 0
NoneSteps c tree ready = All (HasNoEntryStep c tree) (take MAX_TRIED ready)

-- Of those that are tried this is the first that has a step.
pub record IsFirstStep (c : List Message) (old new : TreeState) (ready : List (Rank × Entry)) (found : Rank × Entry) : Type 0 where
  pub earlier : List (Rank × Entry)
  pub later : List (Rank × Entry)
  pub tried : take MAX_TRIED ready ≡ earlier ++ found ∷ later
  pub none_before : All (HasNoEntryStep c old) earlier
  pub steps : EntrySteps old new c found.1

-- the first that has a step is found, or none has one
abbrev pub IsTriedSo : List Message → (old new : TreeState) → List (Rank × Entry) → Option (Rank × Entry) → Type 0
IsTriedSo c old new ready None = NoneSteps c old ready
IsTriedSo c old new ready (Some found) = IsFirstStep c old new ready found

-- The next call that is proposed is placed by its entry, and those that may come after it are left.
pub record IsPlacedNext (c : List Message) (calls : List PlainCall) (old new : TreeState) (es : List Entry) (seen : ℕ) (ready : List (Rank × Entry)) (entry : Entry) : Type 0 where
  pub call : PlainCall
  pub proposes : entry ≡ entry_of call
  pub next : IsNext c es old new call
  pub left : IsReady c calls (es ++ entry ∷ []) seen ready

-- the next call that is proposed is placed, or there is none
abbrev pub IsGoneOnSo : List Message → List PlainCall → (old new : TreeState) → List Entry → (seen : ℕ) → List (Rank × Entry) → Option Entry → Type 0
IsGoneOnSo c calls old new es seen ready None = IsStuck c es old
IsGoneOnSo c calls old new es seen ready (Some entry) = IsPlacedNext c calls old new es seen ready entry
