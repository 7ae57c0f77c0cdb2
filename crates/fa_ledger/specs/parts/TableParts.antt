-- What the tables of nodes and of file handles show of events, what a request finds in them, and why a message is refused.
use Rattle.std.specs.Prelude.{◌≡◌, ℕ, List, [], slice_get, nat_eq, All, Option, None, Some, option_map}
use Rattle.std.specs.Map.{lookup}
use Rattle.fa_capture.specs.declared.codes.TheConstants.{NODE_ID_NOT_ALLOWED}
use Rattle.fa_capture.specs.Checks.{AllHold, FirstFailure, checks_of}
use Rattle.fa_capture.specs.Message.{Message}
use Rattle.fa_bodies.specs.Requests.{PlainRequest}
use Rattle.fa_bodies.specs.Replies.{PlainReply}
use Rattle.fa_session.specs.Events.{PlainEvent}
use Rattle.fa_ledger.specs.declared.error.LedgerError.{LedgerError}
use Rattle.fa_ledger.specs.declared.error.LedgerError.TheVariants.{Refused, Memory}
use Rattle.fa_ledger.specs.declared.handles.Handle.{Handle}
use Rattle.fa_ledger.specs.declared.key.Key.{Key}
use Rattle.fa_ledger.specs.declared.nodes.Lookups.{Lookups}
use Rattle.fa_ledger.specs.declared.tables.Names.{Names}
use Rattle.fa_ledger.specs.declared.tables.Used.{Used}
use Rattle.fa_ledger.specs.Counts.{nodes_given}
use Rattle.fa_ledger.specs.Names.{name_at, nodes_named}
use Rattle.fa_ledger.specs.Keys.{key_eq, handle_used, key_used}
use Rattle.fa_ledger.specs.Passing.{NamesKnown, MayBeGiven, asked_rules, ledger_checks}
use Rattle.fa_ledger.specs.Shows.{IsNodeOf, IsOpenAs, IsKeyOf}

-- what the tables of nodes and of keys show of these events
abbrev pub NodesShow : List PlainEvent → List (ℕ × Lookups) → Type 0
NodesShow es known = (node : ℕ) → IsNodeOf es node (lookup (nat_eq node) known)

abbrev pub KeysShow : List PlainEvent → List (Key × Handle) → Type 0
KeysShow es opened = (key : Key) → IsKeyOf es key (lookup (key_eq key) opened)

-- ---- requests

-- the names of the nodes that a request names, which are known
pub record AreNames (es : List PlainEvent) (r : PlainRequest) (names : Names) : Type 0 where
  pub known : NamesKnown es r
  pub node : name_at es r.node ≡ Some names.node
  pub other : option_map (λ node. name_at es node) (slice_get (nodes_named r) 1) ≡ option_map (λ name. Some name) names.other

-- the names of the nodes that a request names, if it names any
abbrev pub AreNamesIfAny : List PlainEvent → PlainRequest → Option Names → Type 0
AreNamesIfAny es r None = nodes_named r ≡ []
AreNamesIfAny es r (Some names) = AreNames es r names

-- the key of the file handle that a request uses, and how it is open
pub record IsUsed (es : List PlainEvent) (r : PlainRequest) (opened : List (Key × Handle)) (used : Used) : Type 0 where
  pub key : key_used es r ≡ Some used.key
  pub «open» : IsOpenAs es used.key used.handle
  pub there : lookup (key_eq used.key) opened ≡ Some used.handle

-- the file handle that a request uses, if it uses any
abbrev pub IsUsedIfAny : List PlainEvent → PlainRequest → List (Key × Handle) → Option Used → Type 0
IsUsedIfAny es r opened None = handle_used r.body ≡ None
IsUsedIfAny es r opened (Some used) = IsUsed es r opened used

-- the rules of nodes and file handles for a request that was read, as checks
abbrev pub asked_checks : List PlainEvent → PlainRequest → List (ℕ × Type 0)
asked_checks es r = checks_of (λ Such. Such es r) asked_rules

-- why a request is refused
abbrev pub IsAskedRefusal : List PlainEvent → PlainRequest → (Wanted : Type 0) → LedgerError → Type 0
IsAskedRefusal es r Wanted (Refused code) = FirstFailure (asked_checks es r) code
IsAskedRefusal es r Wanted Memory = AllHold (asked_checks es r) × Wanted

-- ---- answers

-- why an answer is refused
abbrev pub IsAnsweredRefusal : PlainRequest → PlainReply → (Wanted : Type 0) → LedgerError → Type 0
IsAnsweredRefusal r reply Wanted (Refused code) = (code ≡ NODE_ID_NOT_ALLOWED) × (All MayBeGiven (nodes_given r.body reply) → ⊥)
IsAnsweredRefusal r reply Wanted Memory = All MayBeGiven (nodes_given r.body reply) × Wanted

-- ---- events

-- why an event is refused
abbrev pub IsLedgerRefusal : List Message → Message → (Wanted : Type 0) → LedgerError → Type 0
IsLedgerRefusal c m Wanted (Refused code) = FirstFailure (ledger_checks c m) code
IsLedgerRefusal c m Wanted Memory = AllHold (ledger_checks c m) × Wanted
