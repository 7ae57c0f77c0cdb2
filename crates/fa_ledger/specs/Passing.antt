-- Which messages pass, which captures are good, and the first fault of those that are not.
use Rattle.std.specs.Prelude.{◌≡◌, ◌≢◌, ℕ, ◌+◌, ◌<◌, ◌≤◌, ◌⊎◌, List, [], ◌∷◌, ◌++◌, length, slice_get, take, All, Option, Some, None}
use Rattle.fa_capture.specs.declared.codes.TheConstants.{FORGOTTEN_NODE, FORGOTTEN_TOO_OFTEN, NODE_ID_NOT_ALLOWED, CLOSED_HANDLE}
use Rattle.fa_capture.specs.declared.fault.CaptureFault.{CaptureFault}
use Rattle.fa_capture.specs.declared.packet.Direction.{Direction}
use Rattle.fa_capture.specs.declared.packet.Direction.TheVariants.{ToServer, FromServer}
use Rattle.fa_capture.specs.Checks.{FirstFailure, AllHold, checks_of}
use Rattle.fa_capture.specs.Message.{Message}
use Rattle.fa_capture.specs.Reading.{IsReading}
use Rattle.fa_bodies.specs.declared.requests.TheConstants.{ROOT_ID}
use Rattle.fa_bodies.specs.Requests.{PlainRequest}
use Rattle.fa_session.specs.Answers.{IsRequestMessage}
use Rattle.fa_session.specs.Allowed.{ForReply, session_checks}
use Rattle.fa_session.specs.Events.{PlainEvent}
use Rattle.fa_ledger.specs.declared.key.Key.{Key}
use Rattle.fa_ledger.specs.Events.{AreEvents}
use Rattle.fa_ledger.specs.Counts.{nodes_given, request_takes, total_taken, lookups_given, lookups_taken, IsKnown}
use Rattle.fa_ledger.specs.Names.{nodes_named}
use Rattle.fa_ledger.specs.Keys.{handle_used, key_used}
use Rattle.fa_ledger.specs.Handles.{IsOpen}

-- ---- the rules

-- each node that the request names is known
abbrev pub NamesKnown : List PlainEvent → PlainRequest → Type 0
NamesKnown es r = All (IsKnown es) (nodes_named r)

-- No item takes more than the count of its node, from which the earlier items of the same message are taken first.
abbrev pub TakesWithin : List PlainEvent → PlainRequest → Type 0
TakesWithin es r =
    (earlier later : List (ℕ × ℕ)) (node nlookup : ℕ) → request_takes r ≡ earlier ++ (node, nlookup) ∷ later
    → lookups_taken es node + total_taken node earlier + nlookup ≤ lookups_given es node

-- the handle that the request uses, if any, is open
abbrev pub UsesOpen : List PlainEvent → PlainRequest → Type 0
UsesOpen es r = (handle_used r.body ≡ None) ⊎ ((key : Key) × (key_used es r ≡ Some key) × IsOpen es key)

-- a node that a reply may give: any but 0, which stands for none, and the root
abbrev pub MayBeGiven : ℕ → Type 0
MayBeGiven node = (node ≢ 0) × (node ≢ ROOT_ID)

-- ---- the checks

-- If the message is a request, this holds of it and of the events before it. Messages that all pass have one list of
-- events, so nothing is lost by speaking of each.
abbrev pub ForAsked : List Message → Message → (List PlainEvent → PlainRequest → Type 0) → Type 0
ForAsked before m Such = (es : List PlainEvent) (r : PlainRequest) → AreEvents before es → IsRequestMessage m r → Such es r

-- the rules of nodes and of file handles for a request, in their order
abbrev pub asked_rules : List (ℕ × (List PlainEvent → PlainRequest → Type 0))
asked_rules = (FORGOTTEN_NODE, NamesKnown) ∷ (FORGOTTEN_TOO_OFTEN, TakesWithin) ∷ (CLOSED_HANDLE, UsesOpen) ∷ []

-- the checks of nodes and file handles by the direction, after these messages
abbrev pub ledger_checks_by : Direction → List Message → Message → List (ℕ × Type 0)
ledger_checks_by ToServer before m = checks_of (ForAsked before m) asked_rules
ledger_checks_by FromServer before m =
    (NODE_ID_NOT_ALLOWED, ForReply before m (λ r reply. All MayBeGiven (nodes_given r.body reply))) ∷ []

-- the checks of nodes and file handles of a message after these messages
abbrev pub ledger_checks : List Message → Message → List (ℕ × Type 0)
ledger_checks before m = ledger_checks_by m.direction before m

-- All checks of a message after these messages, in their order: those of the message grammar and of the session, and then
-- those of nodes and file handles.
abbrev pub message_checks : List Message → Message → List (ℕ × Type 0)
message_checks before m = session_checks before m ++ ledger_checks before m

-- the message keeps the protocol after these messages
abbrev pub Passes : List Message → Message → Type 0
Passes before m = AllHold (message_checks before m)

-- ---- captures

-- each of the first n messages keeps the protocol after those before it
abbrev pub EachPasses : List Message → ℕ → Type 0
EachPasses c n = (i : ℕ) (m : Message) → i < n → slice_get c i ≡ Some m → Passes (take i c) m

-- the messages are good: each keeps the protocol after those before it
abbrev pub AreGood : List Message → Type 0
AreGood c = EachPasses c (length c)

-- a message that does not pass, with the first check that it fails
pub record IsMessageFault (c : List Message) (at code : ℕ) : Type 0 where
  pub message : Message
  pub there : slice_get c at ≡ Some message
  pub passes : EachPasses c at
  pub fails : FirstFailure (message_checks (take at c) message) code

-- a framing fault behind messages that pass
pub record IsFramingFault (c : List Message) (framing : Option CaptureFault) (at code : ℕ) : Type 0 where
  pub there : framing ≡ Some (record { whole = at; code = code })
  pub passes : AreGood c

-- The first fault of messages with a framing fault behind them or none: at the least number of a message that does not
-- pass, or at the framing fault.
abbrev pub IsFaultOf : List Message → Option CaptureFault → ℕ → ℕ → Type 0
IsFaultOf c framing at code = IsMessageFault c at code ⊎ IsFramingFault c framing at code

-- The bytes are a good capture of these messages: no framing fault, and each message keeps the protocol.
pub record IsGoodCapture (bytes : List ℕ) (c : List Message) : Type 0 where
  pub read : IsReading bytes c None
  pub good : AreGood c

-- the first fault of a capture's bytes
pub record IsFirstFault (bytes : List ℕ) (at code : ℕ) : Type 0 where
  pub messages : List Message
  pub framing : Option CaptureFault
  pub read : IsReading bytes messages framing
  pub fault : IsFaultOf messages framing at code
