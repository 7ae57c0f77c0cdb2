-- Which requests are in flight at a message, as a search keeps them.
use Rattle.std.specs.Prelude.{◌≡◌, ◌⊎◌, ℕ, ◌<◌, ◌≤◌, true, false, List, [], ◌∷◌, Contains, All, slice_get, Option, None, Some, IsTrue, IfSome}
use Rattle.std.specs.BTreeMap.{BTreeMap}
use Rattle.std.specs.Map.{values_of}
use Rattle.fa_capture.specs.Message.{Message}
use Rattle.fa_ledger.specs.declared.call.Listing.{Listing}
use Rattle.fa_ledger.specs.declared.name.NodeName.{NodeName}
use Rattle.fa_ledger.specs.Kinds.{OnlyReads}
use Rattle.fa_ledger.specs.Calls.{PlainAnswer, PlainCall}
use Rattle.fa_tree.specs.Alike.{IsLastFrom}
use Rattle.fa_tree.specs.Steps.{names_given}
use Rattle.fa_search.specs.declared.flight.Due.{Due}
use Rattle.fa_search.specs.declared.flight.Pending.{Pending}
use Rattle.fa_search.specs.declared.flight.InFlight.{InFlight}
use Rattle.fa_search.specs.Searches.{IsUsedFrom}
use Rattle.fa_search.specs.parts.Configurations.{PlainConfiguration, IsCallPending, KeepsTrees, GivesUpTo, most_written}

-- when a call with this answer is answered
abbrev pub due_by : Option PlainAnswer → (asked : ℕ) → Due
due_by None asked = record { never = true; position = asked }
due_by (Some answer) asked = record { never = false; position = answer.at }

abbrev pub IsDue : Due → PlainCall → Type 0
IsDue due call = due ≡ due_by call.answer call.asked

-- what is kept of the call at this place
pub record IsPendingOf (place : ℕ) (call : PlainCall) (pending : Pending) : Type 0 where
  pub there : pending.place ≡ place
  pub number : pending.asked ≡ call.asked
  pub unanswered : IsTrue pending.unanswered → call.answer ≡ None
  pub most : pending.most ≡ most_written call.answer call.operation
  pub keeps : IsTrue pending.keeps_trees → KeepsTrees call
  pub up_to : IfSome pending.gives_up_to (λ reply. GivesUpTo reply call)
  pub gives : IfSome pending.gives (λ name. names_given call ≡ name ∷ [])

-- it is a call in flight at this message that an order may name
pub record IsInFlight (calls : List PlainCall) (at : ℕ) (pending : Pending) : Type 0 where
  pub call : PlainCall
  pub listed : slice_get calls pending.place ≡ Some call
  pub kept : IsPendingOf pending.place call pending
  pub waits : IsCallPending at call

-- ---- which openings are of use

-- the opening on which an answered call lists stands there with the message that answers it, or a later one
abbrev pub IsUseNoted : PlainCall → (last_uses : BTreeMap ℕ ℕ) → Type 0
IsUseNoted call last_uses =
    (answer : PlainAnswer) (listing : Listing) (opened : ℕ) → call.answer ≡ Some answer → call.listing ≡ Some listing → call.handle ≡ Some opened
    → IsLastFrom last_uses answer.at opened

-- that of each of these calls does
abbrev pub AreLastUses : List PlainCall → (last_uses : BTreeMap ℕ ℕ) → Type 0
AreLastUses calls last_uses = (place : ℕ) (call : PlainCall) → slice_get calls place ≡ Some call → IsUseNoted call last_uses

-- what stands in the table stands in another so, or with a later message
abbrev pub AreLater : (last_uses later : BTreeMap ℕ ℕ) → Type 0
AreLater last_uses later = (from opened : ℕ) → IsLastFrom last_uses from opened → IsLastFrom later from opened

-- each opening that is of use from this message on stands there with it, or a later one
abbrev pub CoversFrom : List Message → (at : ℕ) → (last_uses : BTreeMap ℕ ℕ) → Type 0
CoversFrom c at last_uses = (opened : ℕ) → IsUsedFrom c at opened → IsLastFrom last_uses at opened

-- ---- what is in flight

-- These are all of them, each by when it is answered. So many calls were sent. The table has what lists on which opening.
pub record IsFlight (calls : List PlainCall) (flight : InFlight) : Type 0 where
  pub each : All (λ e. (is : IsInFlight calls flight.at e.1) × IsDue e.0 is.call) flight.requests.entries
  pub all : (place : ℕ) (call : PlainCall) → slice_get calls place ≡ Some call → IsCallPending flight.at call
      → (e : Due × Pending) × Contains flight.requests.entries e × (e.1.place ≡ place)
  pub sent : (place : ℕ) (call : PlainCall) → slice_get calls place ≡ Some call → place < flight.seen → call.asked < flight.at
  pub unsent : (place : ℕ) (call : PlainCall) → slice_get calls place ≡ Some call → flight.seen ≤ place → flight.at ≤ call.asked
  pub uses : AreLastUses calls flight.last_uses

-- no request is in flight but that of the call at this place
abbrev pub IsAlone : InFlight → (place : ℕ) → Type 0
IsAlone flight place = All (λ e. e.1.place ≡ place) flight.requests.entries

-- The request gives one node alone, and so does one in flight that is placed in the configuration, the same node.
abbrev pub IsGivenByPlaced : InFlight → PlainConfiguration → Pending → Type 0
IsGivenByPlaced flight x pending =
    (other : Pending) × (name : NodeName) × Contains (values_of flight.requests.entries) other × Contains x.placed other.asked
    × (other.gives ≡ Some name) × (pending.gives ≡ Some name)

-- What is kept of the request says that it leaves the tree of the configuration, if it has a step from it: by what came of it, or since what
-- it gives was given by a reply that came already, or by a request that is placed.
abbrev pub IsToldIdle : InFlight → PlainConfiguration → Pending → Type 0
IsToldIdle flight x pending =
    IsTrue pending.keeps_trees
    ⊎ ((reply : ℕ) × (pending.gives_up_to ≡ Some reply) × ((reply < flight.at) ⊎ IsGivenByPlaced flight x pending))

-- the call was sent, by when it is answered: it is among them, with the others of before
pub record IsAmongNow (place : ℕ) (call : PlainCall) (old new : List (Due × Pending)) : Type 0 where
  pub due : Due
  pub pending : Pending
  pub is_due : IsDue due call
  pub of_call : IsPendingOf place call pending
  pub added : Contains new (due, pending)
  pub kept : (e : Due × Pending) → Contains old e → (e.0 ≡ due → ⊥) → Contains new e
  pub each : (e : Due × Pending) → Contains new e → Contains old e ⊎ (e ≡ (due, pending))

-- The call at this place was sent; where an order may not name it, those in flight are as they were.
abbrev pub IsSent : (place : ℕ) → PlainCall → (old new : List (Due × Pending)) → Type 0
IsSent place call old new =
    ((call.answer ≡ None) × OnlyReads call.operation × (new ≡ old))
    ⊎ ((call.answer ≡ None → OnlyReads call.operation → ⊥) × IsAmongNow place call old new)
