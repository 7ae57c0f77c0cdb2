-- What a ledger shows of some messages.
use Rattle.std.specs.Prelude.{◌≡◌, ◌↔◌, ℕ, ◌+◌, ◌<◌, List, length, nat_eq, take, IsTrue, Option, None, Some, option_and_then}
use Rattle.std.specs.FinMap.{find, is_sorted}
use Rattle.std.specs.Map.{lookup}
use Rattle.std.specs.Ordering.{nat_cmp}
use Rattle.fa_bodies.specs.Dirents.{PlainDirent}
use Rattle.fa_bodies.specs.FlagBits.{atomic_o_trunc}
use Rattle.fa_capture.specs.Message.{Message}
use Rattle.fa_session.specs.Events.{PlainEvent}
use Rattle.fa_ledger.specs.declared.handles.Handle.{Handle}
use Rattle.fa_ledger.specs.declared.key.Key.{Key}
use Rattle.fa_ledger.specs.declared.listings.Place.{Place}
use Rattle.fa_ledger.specs.declared.name.NodeName.TheVariants.{Given}
use Rattle.fa_ledger.specs.declared.nodes.Lookups.{Lookups}
use Rattle.fa_ledger.specs.Events.{AreEvents}
use Rattle.fa_ledger.specs.Counts.{lookups_given, lookups_taken}
use Rattle.fa_ledger.specs.Names.{name_at}
use Rattle.fa_ledger.specs.Keys.{key_eq}
use Rattle.fa_ledger.specs.Handles.{times_opened, times_closed, IsOpen, IsHandle, IsShared, IsDirect}
use Rattle.fa_ledger.specs.Listings.{Part, IsLastPart, IsNeverReached, IsListedSoFar, offset_asked}
use Rattle.fa_ledger.specs.Passing.{AreGood}
use Rattle.fa_ledger.specs.Calls.{IsNegotiatedFlag, AreCallsOf}
use Rattle.fa_ledger.specs.Plain.{PlainLedger}

-- Lookups of the node are left after these events: so many, and since this reply.
pub record IsLookups (es : List PlainEvent) (node : ℕ) (l : Lookups) : Type 0 where
  pub some : 0 < l.count
  pub left : lookups_taken es node + l.count ≡ lookups_given es node
  pub named : name_at es node ≡ Some (Given l.by node)

-- what stands for a node after these events: what is left of its lookups, or that none is
abbrev pub IsNodeOf : List PlainEvent → ℕ → Option Lookups → Type 0
IsNodeOf es node None = lookups_taken es node ≡ lookups_given es node
IsNodeOf es node (Some l) = IsLookups es node l

-- The key is open after these events: so often, with this name and these marks.
pub record IsOpenAs (es : List PlainEvent) (key : Key) (h : Handle) : Type 0 where
  pub some : 0 < h.openings
  pub left : times_closed es key + h.openings ≡ times_opened es key
  pub named : IsHandle es key h.name
  pub shared : IsTrue h.shared ↔ IsShared es key
  pub direct : IsTrue h.direct ↔ IsDirect es key

-- what stands for a key after these events: how it is open, or that it is not
abbrev pub IsKeyOf : List PlainEvent → Key → Option Handle → Type 0
IsKeyOf es key None = times_closed es key ≡ times_opened es key
IsKeyOf es key (Some h) = IsOpenAs es key h

-- On this handle the last reply that has an entry with the offset answers the request of this number. So many of its entries
-- come up to and with the first such. The mark says whether that request's listing is adrift.
pub record IsPlace (es : List PlainEvent) (handle offset : ℕ) (place : Place) : Type 0 where
  pub part : Part
  pub last : IsLastPart es handle offset part
  pub asked : place.asked ≡ part.asked
  pub count : place.count ≡ part.count
  pub began : ℕ
  pub begins : offset_asked part.request.body ≡ Some began
  pub adrift : (entries : List PlainDirent) × IsListedSoFar (take part.asked es) handle began entries place.adrift

-- what stands for an offset on a handle after these events: where it was last reached, or that it never was
abbrev pub IsPlaceOf : List PlainEvent → (handle offset : ℕ) → Option Place → Type 0
IsPlaceOf es handle offset None = IsNeverReached es handle offset
IsPlaceOf es handle offset (Some place) = IsPlace es handle offset place

-- These are the places of the offsets on the keys: of one that is open on its handle, of any other none.
pub record ArePlaces (es : List PlainEvent) (place : Key → ℕ → Option Place) : Type 0 where
  pub «open» : (key : Key) (handle offset : ℕ) → IsHandle es key handle → IsPlaceOf es handle offset (place key offset)
  pub closed : (key : Key) (offset : ℕ) → (IsOpen es key → ⊥) → place key offset ≡ None

-- the place of an offset on a key, in what a ledger shows
abbrev pub place_in : List (Key × List (ℕ × Place)) → Key → ℕ → Option Place
place_in listed key offset = option_and_then (λ offsets. lookup (nat_eq offset) offsets) (lookup (key_eq key) listed)

-- The ledger shows these events.
pub record ShowsEvents (es : List PlainEvent) (s : PlainLedger) : Type 0 where
  pub counted : s.messages ≡ length es
  pub truncating : IsTrue s.truncating ↔ IsNegotiatedFlag es atomic_o_trunc
  pub nodes : (node : ℕ) → IsNodeOf es node (find nat_cmp node s.nodes)
  pub rising : IsTrue (is_sorted nat_cmp s.nodes)
  pub handles : (key : Key) → IsKeyOf es key (lookup (key_eq key) s.handles)
  pub listed : ArePlaces es (place_in s.listed)
  pub calls : AreCallsOf es s.calls

-- The ledger shows these messages, which all pass.
pub record Shows (c : List Message) (s : PlainLedger) : Type 0 where
  pub good : AreGood c
  pub events : List PlainEvent
  pub are : AreEvents c events
  pub shown : ShowsEvents events s
