-- The calls of messages: each tree request with what it names, and its answer.
use Rattle.std.specs.Prelude.{◌≡◌, ◌↔◌, ℕ, ◌+◌, Bool, false, List, [], ◌∷◌, slice_get, take, map, All, Contains, Option, None, Some, IsTrue, option_map}
use Rattle.std.specs.List.Sorted.{IsStrictlyIncreasing}
use Rattle.fa_bodies.specs.declared.handles.OpenOut.{OpenOut}
use Rattle.fa_bodies.specs.declared.init.InitIn.{InitIn}
use Rattle.fa_bodies.specs.declared.init.Negotiated.{Negotiated}
use Rattle.fa_bodies.specs.FlagBits.{atomic_o_trunc, o_trunc}
use Rattle.fa_bodies.specs.Flags.{HasFlag, init_bits, open_bits}
use Rattle.fa_bodies.specs.Requests.{PlainRequest, PlainBody}
use Rattle.fa_bodies.specs.Requests.PlainBody.{Open, Init, Create}
use Rattle.fa_bodies.specs.Replies.{PlainReply}
use Rattle.fa_bodies.specs.Replies.PlainReply.{InitAnswer}
use Rattle.fa_capture.specs.Message.{Message}
use Rattle.fa_session.specs.Events.{PlainEvent}
use Rattle.fa_session.specs.Events.PlainEvent.{Asked, Answered}
use Rattle.fa_ledger.specs.declared.call.Answer.{Answer}
use Rattle.fa_ledger.specs.declared.call.Call.{Call}
use Rattle.fa_ledger.specs.declared.call.GivenNodes.{GivenNodes}
use Rattle.fa_ledger.specs.declared.call.Listing.{Listing}
use Rattle.fa_ledger.specs.declared.call.GivenNodes.TheVariants.{Nothing, One, Several}
use Rattle.fa_ledger.specs.declared.key.Key.{Key}
use Rattle.fa_ledger.specs.declared.name.NodeName.{NodeName}
use Rattle.fa_ledger.specs.Events.{AreEvents}
use Rattle.fa_ledger.specs.Kinds.{IsTreeRequest}
use Rattle.fa_ledger.specs.Names.{name_at, nodes_named}
use Rattle.fa_ledger.specs.Operations.{PlainOperation, operation_of}
use Rattle.fa_ledger.specs.Counts.{nodes_given}
use Rattle.fa_ledger.specs.Keys.{key_used}
use Rattle.fa_ledger.specs.Listings.{IsListingIfAny}
use Rattle.fa_ledger.specs.Handles.{times_opened, times_closed, OpensAt, IsHandle, IsDirect}

-- The answer of a tree request: the number of its message, the names of the nodes that it gives, and whether it opens a file handle anew.
-- What it says is in the call's operation.
pub record PlainAnswer : Type 0 where
  pub at : ℕ
  pub given : List NodeName
  pub opens : Bool

-- A tree request: the number of its message; what it asks for, with what came of it; the names of the nodes that it names (the second
-- is the new directory of RENAME and RENAME2, and the file of LINK), the name of the file handle that it uses, if any, and whether that
-- one is direct; whether its success empties a file that is there; what it goes on from, if it lists; and its answer, if it has one.
-- What came of it is an error or a success exactly where it has one (`calls_end_where_answered`).
pub record PlainCall : Type 0 where
  pub asked : ℕ
  pub operation : PlainOperation
  pub node : NodeName
  pub other : Option NodeName
  pub handle : Option ℕ
  pub direct : Bool
  pub truncates : Bool
  pub listing : Option Listing
  pub answer : Option PlainAnswer

-- both sides set this flag at INIT (`flags` of struct fuse_init_in and struct fuse_init_out of fuse.h)
abbrev pub IsNegotiatedFlag : List PlainEvent → ℕ → Type 0
IsNegotiatedFlag es flag =
    (at asked : ℕ) × (r : PlainRequest) × (i : InitIn) × (answer : Negotiated)
    × (slice_get es at ≡ Some (Answered at asked r (InitAnswer answer))) × (r.body ≡ Init i)
    × HasFlag (init_bits i.flags) flag × HasFlag (init_bits answer.flags) flag

-- Success empties a file that is there: CREATE with O_TRUNC (POSIX open), and OPEN with O_TRUNC where FUSE_ATOMIC_O_TRUNC
-- (fuse.h) was negotiated before.
abbrev pub Truncates : List PlainEvent → PlainBody → Type 0
Truncates es (Open o) = HasFlag (open_bits o.flags) o_trunc × IsNegotiatedFlag es atomic_o_trunc
Truncates es (Create flags mode umask name) = HasFlag (open_bits flags) o_trunc
Truncates es other = ⊥

-- the file handle that a request uses after these events: its name, or none
abbrev pub IsHandleUsed : List PlainEvent → Option Key → Option ℕ → Type 0
IsHandleUsed es None handle = handle ≡ None
IsHandleUsed es (Some key) handle = (name : ℕ) × (handle ≡ Some name) × IsHandle es key name

-- the mark of a handle that is used stands exactly where this holds of its key
abbrev pub IsMark : (Key → Type 0) → Option Key → Bool → Type 0
IsMark Such None mark = mark ≡ false
IsMark Such (Some key) mark = IsTrue mark ↔ Such key

-- what a call says of this request, after the events before it
pub record IsAskedCall (before : List PlainEvent) (r : PlainRequest) (call : PlainCall) : Type 0 where
  pub tree : IsTreeRequest r.body
  pub node : name_at before r.node ≡ Some call.node
  pub other : option_map (λ node. name_at before node) (slice_get (nodes_named r) 1) ≡ option_map (λ name. Some name) call.other
  pub handle : IsHandleUsed before (key_used before r) call.handle
  pub direct : IsMark (IsDirect before) (key_used before r) call.direct
  pub truncates : IsTrue call.truncates ↔ Truncates before r.body
  pub listing : IsListingIfAny before r call.listing

-- the answer opens a handle anew: its key stood at zero before
abbrev pub OpensAnew : List PlainEvent → ℕ → Type 0
OpensAnew es q = (key : Key) × (out : OpenOut) × OpensAt es q key out × (times_opened (take q es) key ≡ times_closed (take q es) key)

-- what a call says of the answer to this request
pub record IsAnswerOf (es : List PlainEvent) (r : PlainRequest) (call : PlainCall) (answer : PlainAnswer) : Type 0 where
  pub reply : PlainReply
  pub there : slice_get es answer.at ≡ Some (Answered answer.at call.asked r reply)
  pub does : operation_of r.body (Some reply) ≡ Some call.operation
  pub given : map (λ node. name_at (take (answer.at + 1) es) node) (nodes_given r.body reply) ≡ map (λ name. Some name) answer.given
  pub opens : IsTrue answer.opens ↔ OpensAnew es answer.at

-- this request is not answered, and the call says so
pub record HasNoAnswer (es : List PlainEvent) (r : PlainRequest) (call : PlainCall) : Type 0 where
  pub none : (q : ℕ) (reply : PlainReply) → slice_get es q ≡ Some (Answered q call.asked r reply) → ⊥
  pub does : operation_of r.body None ≡ Some call.operation

-- this is the answer of the call, or it has none
abbrev pub HasAnswer : List PlainEvent → PlainRequest → PlainCall → Option PlainAnswer → Type 0
HasAnswer es r call None = HasNoAnswer es r call
HasAnswer es r call (Some answer) = IsAnswerOf es r call answer

-- this is the call of its request
pub record IsCall (es : List PlainEvent) (call : PlainCall) : Type 0 where
  pub request : PlainRequest
  pub there : slice_get es call.asked ≡ Some (Asked call.asked request)
  pub asked : IsAskedCall (take call.asked es) request call
  pub answered : HasAnswer es request call call.answer

-- The calls of events: each tree request once, by rising numbers.
pub record AreCallsOf (es : List PlainEvent) (calls : List PlainCall) : Type 0 where
  pub rising : IsStrictlyIncreasing (map (λ call. call.asked) calls)
  pub each : All (IsCall es) calls
  pub complete : (p : ℕ) (r : PlainRequest) → slice_get es p ≡ Some (Asked p r) → IsTreeRequest r.body
      → Contains (map (λ call. call.asked) calls) p

-- The calls of messages that the session allows.
pub record AreCalls (c : List Message) (calls : List PlainCall) : Type 0 where
  pub events : List PlainEvent
  pub are : AreEvents c events
  pub exact : AreCallsOf events calls

-- ---- what the code's words show

-- the names in what an answer gives
abbrev pub given_shown : GivenNodes → List NodeName
given_shown Nothing = []
given_shown (One name) = name ∷ []
given_shown (Several names) = names.now

-- what an answer shows
abbrev pub answer_shown : Answer → PlainAnswer
answer_shown a = record { at = a.at; given = given_shown a.given; opens = a.opens }

-- what a call shows
abbrev pub call_shown : Call → PlainCall
call_shown c = record {
  asked = c.asked;
  operation = c.messages.said.0;
  node = c.node;
  other = c.other;
  handle = c.handle;
  direct = c.direct;
  truncates = c.truncates;
  listing = c.listing;
  answer = option_map answer_shown c.answer;
}
