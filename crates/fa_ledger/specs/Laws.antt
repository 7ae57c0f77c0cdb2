-- What holds of names, listings and calls.
use Rattle.std.specs.Prelude.{◌≡◌, ◌≢◌, ◌↔◌, ℕ, suc, Bool, List, [], ◌∷◌, ◌++◌, slice_get, take, Option, Some, None}
use Rattle.fa_bodies.specs.declared.requests.TheConstants.{ROOT_ID}
use Rattle.fa_capture.specs.Message.{Message}
use Rattle.fa_bodies.specs.Dirents.{PlainDirent}
use Rattle.fa_bodies.specs.Requests.{PlainRequest}
use Rattle.fa_bodies.specs.Replies.{PlainReply}
use Rattle.fa_session.specs.Allowed.{EachAllowed}
use Rattle.fa_session.specs.Events.{PlainEvent}
use Rattle.fa_session.specs.Events.PlainEvent.{Asked, Answered}
use Rattle.fa_ledger.specs.declared.call.Listing.{Listing}
use Rattle.fa_ledger.specs.declared.key.Key.{Key}
use Rattle.fa_ledger.specs.declared.name.NodeName.TheVariants.{Given}
use Rattle.fa_ledger.specs.Events.{AreEvents}
use Rattle.fa_ledger.specs.Names.{name_at, IsNamedBy}
use Rattle.fa_ledger.specs.Handles.{IsHandle}
use Rattle.fa_ledger.specs.Listings.{UsesHandle, IsListedSoFar, IsListingIfAny, IsFirstWith, offset_asked, count_to}
use Rattle.fa_ledger.specs.declared.operation.Outcome.TheVariants.{Unanswered}
use Rattle.fa_ledger.specs.Calls.{PlainCall, IsCall, AreCalls, AreCallsOf}
use Rattle.fa_ledger.specs.Operations.{ended}
use Rattle.fa_ledger.specs.Passing.{AreGood}
use Rattle.fa_ledger.specs.SoFar.{listing_so_far}

-- A node other than the root has the name of the least event since which it is counted, and has one where there is one.
abbrev pub NameIsLeast : Type 0
NameIsLeast =
    (es : List PlainEvent) (node g : ℕ) → node ≢ ROOT_ID → (name_at es node ≡ Some (Given g node)) ↔ IsNamedBy es node g

-- Messages have one list of events at most.
abbrev pub EventsAreOne : Type 0
EventsAreOne = (c : List Message) (es others : List PlainEvent) → AreEvents c es → AreEvents c others → es ≡ others

-- Messages that the session allows have a list of events.
abbrev pub EventsAreThere : Type 0
EventsAreThere = (c : List Message) → EachAllowed c → (es : List PlainEvent) × AreEvents c es

-- Messages have one list of calls at most.
abbrev pub CallsAreOne : Type 0
CallsAreOne = (c : List Message) (calls others : List PlainCall) → AreCalls c calls → AreCalls c others → calls ≡ others

-- Good messages have never no calls.
abbrev pub CallsAreThere : Type 0
CallsAreThere = (c : List Message) → AreGood c → ((calls : List PlainCall) → AreCalls c calls → ⊥) → ⊥

-- The name of a node, the name of a file handle and the listing of a request as of a message depend on the messages before
-- it alone: where two lists of messages have the same first ones, they have the same events there, and so the same names and
-- listings, whatever follows.
abbrev pub NamesLookBack : Type 0
NamesLookBack =
    (c d : List Message) (es fs : List PlainEvent) (i : ℕ) → AreEvents c es → AreEvents d fs → take i c ≡ take i d
    → ((node : ℕ) → name_at (take i es) node ≡ name_at (take i fs) node)
    × ((key : Key) (handle : ℕ) → IsHandle (take i es) key handle → IsHandle (take i fs) key handle)
    × ((r : PlainRequest) (listing : Option Listing) → IsListingIfAny (take i es) r listing → IsListingIfAny (take i fs) r listing)
    × (take i es ≡ take i fs)

-- A call stays one when messages follow, but for an answer that is among these.
abbrev pub CallsStay : Type 0
CallsStay =
    (es : List PlainEvent) (e : PlainEvent) (call : PlainCall) (is : IsCall es call)
    → ((at : ℕ) (reply : PlainReply) → e ≡ Answered at call.asked is.request reply → ⊥) → IsCall (es ++ e ∷ []) call

-- On a handle, after these events, one list of entries at most was listed so far for an offset, and it is adrift or is not.
abbrev pub ListedIsOne : Type 0
ListedIsOne =
    (es : List PlainEvent) (handle offset : ℕ) (entries others : List PlainDirent) (adrift other : Bool)
    → IsListedSoFar es handle offset entries adrift → IsListedSoFar es handle offset others other
    → (entries ≡ others) × (adrift ≡ other)

-- After the events of messages that the session allows, an offset on a handle has never no listing so far. For each call that
-- lists, the next but one law gives it.
abbrev pub ListedIsThere : Type 0
ListedIsThere =
    (c : List Message) (es : List PlainEvent) → AreEvents c es → (handle offset : ℕ)
    → ((entries : List PlainDirent) (adrift : Bool) → IsListedSoFar es handle offset entries adrift → ⊥) → ⊥

-- A count up to an offset is that up to and with the first entry that has it.
abbrev pub CountIsFirst : Type 0
CountIsFirst =
    (offset : ℕ) (ds : List PlainDirent) (count : ℕ)
    → (count_to offset ds ≡ Some count) ↔ ((n : ℕ) × (count ≡ suc n) × IsFirstWith offset ds n)

-- The listing so far that the calls of messages give for one of them is the listing so far of its request.
abbrev pub CallsListSoFar : Type 0
CallsListSoFar =
    (c : List Message) (es : List PlainEvent) (calls : List PlainCall) → AreEvents c es → AreCallsOf es calls
    → (place : ℕ) (call : PlainCall) (listing : Listing) → slice_get calls place ≡ Some call → call.listing ≡ Some listing
    → (r : PlainRequest) → slice_get es call.asked ≡ Some (Asked call.asked r)
    → (handle offset : ℕ) → UsesHandle (take call.asked es) r handle → offset_asked r.body ≡ Some offset
    → IsListedSoFar (take call.asked es) handle offset (listing_so_far calls place) listing.adrift

-- What came of a call is an error or a success exactly where it has an answer.
abbrev pub CallsEndWhereAnswered : Type 0
CallsEndWhereAnswered =
    (c : List Message) (es : List PlainEvent) (call : PlainCall) → AreEvents c es → IsCall es call
    → (ended call.operation ≡ Unanswered) ↔ (call.answer ≡ None)
