-- What the books of a ledger show of events, and how one event changes them.
use Rattle.std.specs.Prelude.{◌≡◌, ◌↔◌, ℕ, ◌<◌, List, [], ◌∷◌, ◌++◌, length, nat_eq, IsTrue}
use Rattle.std.specs.Map.{lookup}
use Rattle.fa_capture.specs.declared.limits.TheConstants.{MAX_MESSAGES}
use Rattle.fa_capture.specs.Message.{Message}
use Rattle.fa_bodies.specs.FlagBits.{atomic_o_trunc}
use Rattle.fa_session.specs.Events.{PlainEvent, IsEvent}
use Rattle.fa_ledger.specs.declared.books.Books.{Books}
use Rattle.fa_ledger.specs.Events.{AreEvents}
use Rattle.fa_ledger.specs.Calls.{IsNegotiatedFlag, AreCallsOf}
use Rattle.fa_ledger.specs.Shows.{ArePlaces}
use Rattle.fa_ledger.specs.parts.ListingParts.{place_of, listed_shown}
use Rattle.fa_ledger.specs.parts.TableParts.{NodesShow, KeysShow}

-- the books show these events
pub record BooksShow (es : List PlainEvent) (b : Books) : Type 0 where
  pub truncating : IsTrue b.truncating ↔ IsNegotiatedFlag es atomic_o_trunc
  pub nodes : NodesShow es b.tables.nodes.known.entries
  pub keys : KeysShow es b.tables.handles.opened.entries
  pub places : ArePlaces es (place_of b.listings.by_key.entries)
  pub calls : AreCallsOf es b.calls.calls

-- The books show these events of these messages, and this one is that of the next message.
pub record Stands (c : List Message) (m : Message) (es : List PlainEvent) (e : PlainEvent) (b : Books) : Type 0 where
  pub are : AreEvents c es
  pub few : length c < MAX_MESSAGES
  pub event : IsEvent c m e
  pub shown : BooksShow es b

-- the books show some events, and this is the event of the next message
abbrev pub StandBefore : PlainEvent → Books → Type 0
StandBefore e b = (c : List Message) × (m : Message) × (es : List PlainEvent) × Stands c m es e b

-- this holds for all messages and events of which the books stand so
abbrev pub WhereStands : PlainEvent → Books → (List Message → Message → List PlainEvent → Type 0) → Type 0
WhereStands e b Such = (c : List Message) (m : Message) (es : List PlainEvent) → Stands c m es e b → Such c m es

-- books that showed the events before this one show it too
abbrev pub ShowNext : PlainEvent → (old new : Books) → Type 0
ShowNext e old new = WhereStands e old (λ c m es. BooksShow (es ++ e ∷ []) new)

-- the books have what they had
pub record AreSame (old new : Books) : Type 0 where
  pub truncating : new.truncating ≡ old.truncating
  pub nodes : (node : ℕ) → lookup (nat_eq node) new.tables.nodes.known.entries ≡ lookup (nat_eq node) old.tables.nodes.known.entries
  pub keys : new.tables.handles.opened.entries ≡ old.tables.handles.opened.entries
  pub listed : listed_shown new.listings.by_key.entries ≡ listed_shown old.listings.by_key.entries
  pub calls : new.calls.calls ≡ old.calls.calls
