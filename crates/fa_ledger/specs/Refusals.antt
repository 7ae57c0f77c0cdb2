-- What comes next, and why a ledger does not take it.
use Rattle.std.specs.Prelude.{◌≡◌, ℕ, ◌<◌, ◌⊎◌, List, [], ◌∷◌, ◌++◌, length, take, Contains}
use Rattle.fa_capture.specs.declared.limits.TheConstants.{MAX_MESSAGES}
use Rattle.fa_capture.specs.Checks.{FirstFailure}
use Rattle.fa_capture.specs.Message.{Message}
use Rattle.fa_bodies.specs.Dirents.{PlainDirent}
use Rattle.fa_bodies.specs.Requests.{PlainRequest}
use Rattle.fa_bodies.specs.Replies.{PlainReply}
use Rattle.fa_bodies.specs.Replies.PlainReply.{Listed}
use Rattle.fa_session.specs.Allowed.{IsAllowed}
use Rattle.fa_session.specs.Events.{PlainEvent, IsEvent}
use Rattle.fa_session.specs.Events.PlainEvent.{Asked, Answered, Notice}
use Rattle.fa_ledger.specs.declared.error.LedgerError.{LedgerError}
use Rattle.fa_ledger.specs.declared.error.LedgerError.TheVariants.{Refused, Memory}
use Rattle.fa_ledger.specs.Events.{AreEvents}
use Rattle.fa_ledger.specs.Counts.{nodes_given, IsCounted}
use Rattle.fa_ledger.specs.Handles.{IsHandle}
use Rattle.fa_ledger.specs.Listings.{UsesHandle, IsNeverReached}
use Rattle.fa_ledger.specs.Kinds.{IsTreeRequest}
use Rattle.fa_ledger.specs.Passing.{message_checks, Passes}
use Rattle.fa_ledger.specs.Calls.{OpensAnew}
use Rattle.fa_ledger.specs.Plain.{PlainLedger}
use Rattle.fa_ledger.specs.Shows.{Shows}

-- The ledger shows these messages, and the event is what the session says of the next message.
pub record IsNext (c : List Message) (m : Message) (s : PlainLedger) (e : PlainEvent) : Type 0 where
  pub shows : Shows c s
  pub few : length c < MAX_MESSAGES
  pub allowed : IsAllowed c m
  pub event : IsEvent c m e

-- the reply gives a node that is not counted
abbrev pub GivesNew : List PlainEvent → PlainRequest → PlainReply → Type 0
GivesNew es r reply = (node : ℕ) × Contains (nodes_given r.body reply) node × (IsCounted es node → ⊥)

-- the reply is a listing that gives nodes
abbrev pub ListsNodes : PlainRequest → PlainReply → Type 0
ListsNodes r (Listed ds) = (node : ℕ) × Contains (nodes_given r.body (Listed ds)) node
ListsNodes r other = ⊥

-- The reply lists, on a file handle that is open still, an entry with an offset that no earlier reply on it has.
pub record ListsOn (es : List PlainEvent) (asked : ℕ) (r : PlainRequest) (reply : PlainReply) : Type 0 where
  pub entries : List PlainDirent
  pub lists : reply ≡ Listed entries
  pub handle : ℕ
  pub uses : UsesHandle (take asked es) r handle
  pub «open» : IsHandle es uses.key handle
  pub entry : PlainDirent
  pub listed : Contains entries entry
  pub new : IsNeverReached es handle entry.off

-- The answer wants room for what it gives: a node that was not counted, the names of a listing's nodes, or a key that was not open.
abbrev pub GivesMore : List PlainEvent → (at asked : ℕ) → PlainRequest → PlainReply → Type 0
GivesMore es at asked r reply = GivesNew es r reply ⊎ (ListsNodes r reply ⊎ OpensAnew (es ++ Answered at asked r reply ∷ []) at)

-- More is to be kept after the event: a further call; what an answer gives, or, on a handle that is still open, an offset that no earlier
-- answer on it had.
abbrev pub IsMoreKept : List PlainEvent → PlainEvent → Type 0
IsMoreKept es (Asked at r) = IsTreeRequest r.body
IsMoreKept es (Answered at asked r reply) = GivesMore es at asked r reply ⊎ ListsOn es asked r reply
IsMoreKept es (Notice at) = ⊥

-- The next message is refused with the code of the first check that it fails; or it passes, and memory was refused that this wants.
abbrev pub IsRefusedWith : List Message → Message → (Wanted : Type 0) → LedgerError → Type 0
IsRefusedWith before m Wanted (Refused code) = FirstFailure (message_checks before m) code
IsRefusedWith before m Wanted Memory = Passes before m × Wanted

-- A ledger wants memory only where more is to be kept after the message.
abbrev pub IsRefusal : List Message → Message → PlainEvent → LedgerError → Type 0
IsRefusal before m e error = IsRefusedWith before m ((es : List PlainEvent) → AreEvents before es → IsMoreKept es e) error
