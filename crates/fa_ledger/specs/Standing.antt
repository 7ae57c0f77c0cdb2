-- What stands behind some messages: nodes, file handles, and openings that wait for their answers.
use Rattle.std.specs.Prelude.{◌≡◌, ℕ, ◌<◌, List, length, slice_get, take, nat_eq, IsTrue, Option, None, Some}
use Rattle.std.specs.FinMap.{find, is_sorted}
use Rattle.std.specs.Map.{lookup}
use Rattle.std.specs.Ordering.{nat_cmp}
use Rattle.fa_capture.specs.declared.limits.TheConstants.{MAX_MESSAGES}
use Rattle.fa_capture.specs.Message.{Message}
use Rattle.fa_bodies.specs.Requests.{PlainRequest, PlainBody}
use Rattle.fa_bodies.specs.Requests.PlainBody.{Open, Opendir}
use Rattle.fa_bodies.specs.Replies.{PlainReply}
use Rattle.fa_session.specs.Allowed.{IsAllowed}
use Rattle.fa_session.specs.Events.{PlainEvent, IsEvent}
use Rattle.fa_session.specs.Events.PlainEvent.{Asked, Answered, Notice}
use Rattle.fa_ledger.specs.declared.error.LedgerError.{LedgerError}
use Rattle.fa_ledger.specs.declared.handles.Handle.{Handle}
use Rattle.fa_ledger.specs.declared.key.Key.{Key}
use Rattle.fa_ledger.specs.declared.name.NodeName.{NodeName}
use Rattle.fa_ledger.specs.declared.nodes.Lookups.{Lookups}
use Rattle.fa_ledger.specs.Events.{AreEvents}
use Rattle.fa_ledger.specs.Names.{name_at}
use Rattle.fa_ledger.specs.Keys.{key_eq}
use Rattle.fa_ledger.specs.Passing.{AreGood}
use Rattle.fa_ledger.specs.Refusals.{GivesMore, IsRefusedWith}
use Rattle.fa_ledger.specs.Shows.{IsNodeOf, IsKeyOf}

-- How many messages came; the nodes that are known but for the root, by rising ids; the keys that are open; and, by the numbers of their
-- requests, the names of the nodes of openings that wait. The orders of the tables of keys and of names say nothing.
pub record PlainStanding : Type 0 where
  pub messages : ℕ
  pub nodes : List (ℕ × Lookups)
  pub handles : List (Key × Handle)
  pub opening : List (ℕ × NodeName)

-- The success of this request opens a handle under the name that its node had when it was asked: OPEN and OPENDIR, by `opened_by`.
abbrev pub OpensItsNode : PlainBody → Type 0
OpensItsNode (Open o) = Unit {0}
OpensItsNode (Opendir o) = Unit {0}
OpensItsNode other = ⊥

-- this OPEN or OPENDIR, of this number, waits for its answer after these events
pub record WaitsToOpen (es : List PlainEvent) (asked : ℕ) (r : PlainRequest) : Type 0 where
  pub there : slice_get es asked ≡ Some (Asked asked r)
  pub opens : OpensItsNode r.body
  pub unanswered : (at : ℕ) (s : PlainRequest) (reply : PlainReply) → slice_get es at ≡ Some (Answered at asked s reply) → ⊥

-- what stands for a request number after these events: the name that the node of an OPEN or OPENDIR which waits had when it was asked, or
-- that none of this number waits
abbrev pub IsOpeningOf : List PlainEvent → ℕ → Option NodeName → Type 0
IsOpeningOf es asked None = (r : PlainRequest) → WaitsToOpen es asked r → ⊥
IsOpeningOf es asked (Some name) = (r : PlainRequest) × WaitsToOpen es asked r × (name_at (take asked es) r.node ≡ Some name)

-- These stand behind these events.
pub record StandBehind (es : List PlainEvent) (s : PlainStanding) : Type 0 where
  pub counted : s.messages ≡ length es
  pub nodes : (node : ℕ) → IsNodeOf es node (find nat_cmp node s.nodes)
  pub rising : IsTrue (is_sorted nat_cmp s.nodes)
  pub handles : (key : Key) → IsKeyOf es key (lookup (key_eq key) s.handles)
  pub opening : (asked : ℕ) → IsOpeningOf es asked (lookup (nat_eq asked) s.opening)

-- These stand behind these messages, which all pass.
pub record ShowsStanding (c : List Message) (s : PlainStanding) : Type 0 where
  pub good : AreGood c
  pub events : List PlainEvent
  pub are : AreEvents c events
  pub shown : StandBehind events s

-- More stands after the event: an OPEN or OPENDIR that waits, or what an answer gives.
abbrev pub IsMoreStanding : List PlainEvent → PlainEvent → Type 0
IsMoreStanding es (Asked at r) = OpensItsNode r.body
IsMoreStanding es (Answered at asked r reply) = GivesMore es at asked r reply
IsMoreStanding es (Notice at) = ⊥

-- The next message is refused as by a ledger, but that memory is wanted only where more stands after it.
abbrev pub IsStandingRefusal : List Message → Message → PlainEvent → LedgerError → Type 0
IsStandingRefusal before m e error = IsRefusedWith before m ((es : List PlainEvent) → AreEvents before es → IsMoreStanding es e) error

-- These stand behind these messages, and the event is what the session says of the next message.
pub record IsNextBehind (c : List Message) (m : Message) (s : PlainStanding) (e : PlainEvent) : Type 0 where
  pub shows : ShowsStanding c s
  pub few : length c < MAX_MESSAGES
  pub allowed : IsAllowed c m
  pub event : IsEvent c m e
