-- Which entries are a run of the tree machine, and which orders are legal.
use Rattle.std.specs.Prelude.{◌≡◌, ℕ, Bool, List, [], ◌∷◌, take, Option, None, Some}
use Rattle.fa_capture.specs.Message.{Message}
use Rattle.fa_bodies.specs.Dirents.{PlainDirent}
use Rattle.fa_bodies.specs.Requests.{PlainRequest}
use Rattle.fa_session.specs.Events.{PlainEvent}
use Rattle.fa_ledger.specs.Events.{AreEvents}
use Rattle.fa_ledger.specs.Passing.{AreGood}
use Rattle.fa_ledger.specs.Listings.{offset_asked, UsesHandle, IsListedSoFar}
use Rattle.fa_ledger.specs.Calls.{PlainCall, IsCall}
use Rattle.fa_tree.specs.State.{TreeState}
use Rattle.fa_tree.specs.Steps.{Steps}
use Rattle.fa_order.specs.declared.entry.Entry.{Entry}
use Rattle.fa_check.specs.Orders.{IsValidOrder}

-- What was listed so far, after these events, for a request that begins to list at this offset, on the handle that it uses;
-- nothing for one that does not list.
abbrev pub IsListedFrom : List PlainEvent → PlainRequest → Option ℕ → List PlainDirent → Type 0
IsListedFrom before r None so_far = so_far ≡ []
IsListedFrom before r (Some offset) so_far =
    (handle : ℕ) × UsesHandle before r handle × ((adrift : Bool) × IsListedSoFar before handle offset so_far adrift)

-- This is the call of the tree request at message p, and this was listed so far for it. Both depend on the messages up to p,
-- and on the request's answer; of messages that the session allows there is one of each at most.
pub record IsCallAt (c : List Message) (p : ℕ) (call : PlainCall) (so_far : List PlainDirent) : Type 0 where
  pub events : List PlainEvent
  pub are : AreEvents c events
  pub exact : IsCall events call
  pub number : call.asked ≡ p
  pub listed : IsListedFrom (take p events) exact.request (offset_asked exact.request.body) so_far

-- An entry leads from one tree to another: by the step of the call of its request, with the count that it carries.
pub record EntrySteps (old new : TreeState) (c : List Message) (e : Entry) : Type 0 where
  pub call : PlainCall
  pub so_far : List PlainDirent
  pub of_request : IsCallAt c e.at call so_far
  pub steps : Steps old new call e.wrote so_far

-- The entries lead from one tree to another, each on from the tree that the one before it left.
abbrev pub Runs : (old new : TreeState) → List Message → List Entry → Type 0
Runs old new c [] = new ≡ old
Runs old new c (e ∷ es) = (between : TreeState) × EntrySteps old between c e × Runs between new c es

-- The order is a legal run of the messages from this first tree: each message keeps the protocol, the order is valid, and its
-- entries lead on to some last tree.
pub record IsLegalRun (c : List Message) (first : TreeState) (es : List Entry) : Type 0 where
  pub good : AreGood c
  pub valid : IsValidOrder c es
  pub last : TreeState
  pub run : Runs first last c es

-- Some order of these messages is legal from this first tree. Messages that are not good have none.
abbrev pub HasOrder : List Message → TreeState → Type 0
HasOrder c first = (es : List Entry) × IsLegalRun c first es
