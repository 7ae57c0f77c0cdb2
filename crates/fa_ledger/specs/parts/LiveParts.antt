-- What is alive behind events, and how one event changes it.
use Rattle.std.specs.Prelude.{◌≡◌, ℕ, ◌<◌, List, [], ◌∷◌, ◌++◌, length, nat_eq, Option, None, Some}
use Rattle.std.specs.Map.{lookup}
use Rattle.fa_capture.specs.declared.limits.TheConstants.{MAX_MESSAGES}
use Rattle.fa_capture.specs.Message.{Message}
use Rattle.fa_bodies.specs.declared.handles.OpenOut.{OpenOut}
use Rattle.fa_bodies.specs.Requests.{PlainBody}
use Rattle.fa_bodies.specs.Replies.{PlainReply}
use Rattle.fa_session.specs.Events.{PlainEvent, IsEvent}
use Rattle.fa_ledger.specs.declared.key.Key.{Key}
use Rattle.fa_ledger.specs.declared.live.Live.{Live}
use Rattle.fa_ledger.specs.declared.name.NodeName.{NodeName}
use Rattle.fa_ledger.specs.Events.{AreEvents}
use Rattle.fa_ledger.specs.Standing.{IsOpeningOf}
use Rattle.fa_ledger.specs.parts.Steps.{created_with, opened_with}
use Rattle.fa_ledger.specs.parts.TableParts.{NodesShow, KeysShow}

-- what the table of the openings that wait shows of these events
abbrev pub OpeningsShow : List PlainEvent → List (ℕ × NodeName) → Type 0
OpeningsShow es opening = (asked : ℕ) → IsOpeningOf es asked (lookup (nat_eq asked) opening)

-- what is alive shows these events
pub record LiveShows (es : List PlainEvent) (l : Live) : Type 0 where
  pub nodes : NodesShow es l.tables.nodes.known.entries
  pub keys : KeysShow es l.tables.handles.opened.entries
  pub opening : OpeningsShow es l.opening.entries

-- What is alive shows these events of these messages, and this one is that of the next message.
pub record Stands (c : List Message) (m : Message) (es : List PlainEvent) (e : PlainEvent) (l : Live) : Type 0 where
  pub are : AreEvents c es
  pub few : length c < MAX_MESSAGES
  pub event : IsEvent c m e
  pub shown : LiveShows es l

-- what is alive shows some events, and this is the event of the next message
abbrev pub StandBefore : PlainEvent → Live → Type 0
StandBefore e l = (c : List Message) × (m : Message) × (es : List PlainEvent) × Stands c m es e l

-- this holds for all messages and events behind which it stands so
abbrev pub WhereStands : PlainEvent → Live → (List Message → Message → List PlainEvent → Type 0) → Type 0
WhereStands e l Such = (c : List Message) (m : Message) (es : List PlainEvent) → Stands c m es e l → Such c m es

-- what showed the events before this one shows it too
abbrev pub ShowNext : PlainEvent → (old new : Live) → Type 0
ShowNext e old new = WhereStands e old (λ c m es. LiveShows (es ++ e ∷ []) new)

-- it has what it had
pub record AreSame (old new : Live) : Type 0 where
  pub nodes : (node : ℕ) → lookup (nat_eq node) new.tables.nodes.known.entries ≡ lookup (nat_eq node) old.tables.nodes.known.entries
  pub keys : new.tables.handles.opened.entries ≡ old.tables.handles.opened.entries
  pub opening : new.opening.entries ≡ old.opening.entries

-- the key that a success opens, and how, by the name that its request waits under, if it does, and those of the nodes that the reply gives
abbrev pub opened_under : Option NodeName → List NodeName → PlainBody → PlainReply → Option (Key × OpenOut)
opened_under None given body reply = created_with body reply given
opened_under (Some node) given body reply = opened_with node given body reply
