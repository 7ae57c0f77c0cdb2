-- Which order is proposed for messages and a first tree. At each place the candidates are the calls that may come next; the first
-- 64 of them are tried in a fixed order, and the first that has a step is taken. The order ends where all answered requests are
-- placed, or none that is tried has a step. It is a guess: where requests overlap, the order that explains them may be another
-- (this profile).
use Rattle.std.specs.Prelude.{◌≡◌, ◌⊎◌, ℕ, ◌<◌, List, [], ◌∷◌, ◌++◌, take, All, AllPairs, Contains, Option, None, Some}
use Rattle.fa_capture.specs.Checks.{AllHold}
use Rattle.fa_capture.specs.Message.{Message}
use Rattle.fa_session.specs.Events.{PlainEvent}
use Rattle.fa_ledger.specs.Events.{AreEvents}
use Rattle.fa_ledger.specs.Calls.{PlainAnswer, PlainCall, IsCall}
use Rattle.fa_ledger.specs.declared.operation.Outcome.TheVariants as Outcomes
use Rattle.fa_ledger.specs.Kinds.{KeepsTree}
use Rattle.fa_ledger.specs.Operations.{PlainOperation}
use Rattle.fa_ledger.specs.Operations.PlainAction.{Write}
use Rattle.fa_ledger.specs.Operations.PlainOperation.{Acts}
use Rattle.fa_tree.specs.State.{TreeState}
use Rattle.fa_order.specs.declared.entry.Entry.{Entry}
use Rattle.fa_check.specs.Runs.{EntrySteps}
use Rattle.fa_check.specs.Faults.{order_checks, IsAnsweredUnplaced}
use Rattle.fa_propose.specs.declared.rank.Group.{Group}
use Rattle.fa_propose.specs.declared.rank.Group.TheVariants.{Unchanging, Changing, Unanswered}
use Rattle.fa_propose.specs.declared.rank.Rank.{Rank}
use Rattle.fa_propose.specs.declared.proposing.TheConstants.{MAX_TRIED}

-- ---- how a call is proposed

-- the count of bytes that is proposed for a call: all of a WRITE without an answer, and none for others
abbrev pub count_proposed : PlainOperation → Option ℕ
count_proposed (Acts (Write offset size payload Outcomes.Unanswered)) = Some size
count_proposed other = None

-- the entry that proposes a call
abbrev pub entry_of : PlainCall → Entry
entry_of call = record { at = call.asked; wrote = count_proposed call.operation }

-- ---- candidates

-- The call may come next after these entries: its entry passes the checks of its place. So it is in none of them, each tree
-- request that was answered before it was sent is in one, and it has an answer where it only reads.
pub record IsCandidate (c : List Message) (es : List Entry) (call : PlainCall) : Type 0 where
  pub events : List PlainEvent
  pub are : AreEvents c events
  pub exact : IsCall events call
  pub placed_rightly : AllHold (order_checks c es (entry_of call))

-- ---- in which order they are tried

-- The rank of a call. Answered calls that leave what is stored as it is are tried first, then the other answered ones, both by the
-- places of their answers; and last those without an answer, by their own places.
abbrev pub IsRankIn : Group → (position : ℕ) → PlainCall → Type 0
IsRankIn Unchanging position call = (answer : PlainAnswer) × (call.answer ≡ Some answer) × KeepsTree call.operation × (position ≡ answer.at)
IsRankIn Changing position call = (answer : PlainAnswer) × (call.answer ≡ Some answer) × (KeepsTree call.operation → ⊥) × (position ≡ answer.at)
IsRankIn Unanswered position call = (call.answer ≡ None) × (position ≡ call.asked)

abbrev pub IsRank : Rank → PlainCall → Type 0
IsRank rank call = IsRankIn rank.group rank.position call

-- the places of the groups
abbrev pub group_number : Group → ℕ
group_number Unchanging = 0
group_number Changing = 1
group_number Unanswered = 2

-- a rank is tried before another: by the group, and within one by the position
abbrev pub IsBefore : Rank → Rank → Type 0
IsBefore a b = (group_number a.group < group_number b.group) ⊎ ((a.group ≡ b.group) × (a.position < b.position))

-- the one call is tried before the other; each call has one rank
abbrev pub IsTriedBefore : PlainCall → PlainCall → Type 0
IsTriedBefore a b = (rank other : Rank) × IsRank rank a × IsRank other b × IsBefore rank other

-- These are all candidates after these entries, in the order in which they are tried.
pub record AreCandidates (c : List Message) (es : List Entry) (candidates : List PlainCall) : Type 0 where
  pub each : All (IsCandidate c es) candidates
  pub complete : (call : PlainCall) → IsCandidate c es call → Contains candidates call
  pub ordered : AllPairs IsTriedBefore candidates

-- These are the candidates that are tried: the first so many, or all where there are fewer.
pub record AreTried (c : List Message) (es : List Entry) (tried : List PlainCall) : Type 0 where
  pub candidates : List PlainCall
  pub are : AreCandidates c es candidates
  pub front : tried ≡ take MAX_TRIED candidates

-- ---- proposals

-- from this tree the call has a step to another
abbrev pub StepsTo : (old new : TreeState) → List Message → PlainCall → Type 0
StepsTo old new c call = EntrySteps old new c (entry_of call)

-- from this tree it has none
abbrev pub HasNoStep : TreeState → List Message → PlainCall → Type 0
HasNoStep tree c call = (new : TreeState) → StepsTo tree new c call → ⊥

-- The next call that is proposed: of those that are tried, the first that has a step.
pub record IsNext (c : List Message) (es : List Entry) (old new : TreeState) (call : PlainCall) : Type 0 where
  pub earlier : List PlainCall
  pub later : List PlainCall
  pub tried : AreTried c es (earlier ++ call ∷ later)
  pub none_before : All (HasNoStep old c) earlier
  pub steps : StepsTo old new c call

-- none of those that are tried has a step
pub record IsStuck (c : List Message) (es : List Entry) (tree : TreeState) : Type 0 where
  pub calls : List PlainCall
  pub tried : AreTried c es calls
  pub none : All (HasNoStep tree c) calls

-- each answered tree request is in an entry
abbrev pub AllPlaced : List Message → List Entry → Type 0
AllPlaced c es = (p : ℕ) → IsAnsweredUnplaced c es p → ⊥

-- These entries were proposed from the first tree, one after the other, and lead to this tree. No further one is proposed where
-- all answered requests are placed.
pub data IsProposedSoFar (c : List Message) (start : TreeState) : List Entry → TreeState → Type 0 where
  begun : IsProposedSoFar c start [] start
  further : (es : List Entry) (tree new : TreeState) (call : PlainCall) → IsProposedSoFar c start es tree → (AllPlaced c es → ⊥) → IsNext c es tree new call
      → IsProposedSoFar c start (es ++ entry_of call ∷ []) new

-- The order that is proposed: it ends at the first place where all answered requests are placed, or no candidate that is tried has
-- a step.
pub record IsProposal (c : List Message) (start : TreeState) (es : List Entry) : Type 0 where
  pub last : TreeState
  pub proposed : IsProposedSoFar c start es last
  pub ends : AllPlaced c es ⊎ IsStuck c es last
