-- What a session's fields show.
use Rattle.std.specs.Prelude.{◌≡◌, ℕ, ◌<◌, ◌≤◌, nat_eq, List, [], ◌∷◌, ◌++◌, map, Option, Some, None}
use Rattle.std.specs.Map.{lookup}
use Rattle.std.specs.Ordering.{nat_cmp}
use Rattle.std.specs.FinMap.{entries, from_entries}
use Rattle.fa_bodies.specs.Requests.{request_shown}
use Rattle.fa_session.specs.declared.event.RequestMessage.{RequestMessage}
use Rattle.fa_session.specs.declared.waiting.Waiting.{Waiting}
use Rattle.fa_session.specs.declared.waiting.OwnedWaiting.{OwnedWaiting}
use Rattle.fa_session.specs.declared.session.Session.TheInside.{Inside}
use Rattle.fa_session.specs.declared.parked.Parked.TheInside.{Inside as Parked}
use Rattle.fa_session.specs.declared.outstanding.Outstanding.TheInside.{Inside as Outstanding}
use Rattle.fa_session.specs.Plain.{PlainSession, PlainWaiting}

-- what a request in the table shows
abbrev pub waiting_shown : Waiting → PlainWaiting
waiting_shown w = record { at = w.at; request = w.said.0 }

-- what a request shows that was read again, with the number of its message
abbrev pub asked_shown : ℕ → RequestMessage → PlainWaiting
asked_shown at message = record { at = at; request = request_shown message.request }

-- what the entries of the table show, in their order
abbrev pub entries_shown : List (ℕ × Waiting) → List (ℕ × PlainWaiting)
entries_shown es = map (λ e. (e.0, waiting_shown e.1)) es

-- what the entries show, by rising uniques
abbrev pub by_unique : List (ℕ × Waiting) → List (ℕ × PlainWaiting)
by_unique es = entries (from_entries {R = nat_cmp} (entries_shown es))

-- the request of the highest unique so far, if it waits, as an entry
abbrev pub newest_entry : Option Waiting → List (ℕ × Waiting)
newest_entry None = []
newest_entry (Some w) = (w.unique, w) ∷ []

-- the outstanding requests as entries, that of the highest unique before those of the table
abbrev pub outstanding_shown : Outstanding → List (ℕ × Waiting)
outstanding_shown o = newest_entry o.newest ++ o.earlier.entries

-- In the table each stands under its own unique; that of the highest is not in it; and none is above the highest.
pub record AreOutstanding (o : Outstanding) : Type 0 where
  pub own : (unique : ℕ) (w : Waiting) → lookup (nat_eq unique) o.earlier.entries ≡ Some w → w.unique ≡ unique
  pub apart : (w : Waiting) → o.newest ≡ Some w → lookup (nat_eq w.unique) o.earlier.entries ≡ None
  pub within : (unique : ℕ) → o.highest < unique → lookup (nat_eq unique) o.earlier.entries ≡ None
  pub newest_within : (w : Waiting) → o.newest ≡ Some w → w.unique ≤ o.highest

-- what a request with its message in memory of its own shows, as an entry
abbrev pub owned_shown : OwnedWaiting → ℕ × PlainWaiting
owned_shown w = (w.unique, record { at = w.at; request = w.said.0 })

-- what such requests show, by rising uniques
abbrev pub owned_by_unique : List OwnedWaiting → List (ℕ × PlainWaiting)
owned_by_unique ws = entries (from_entries {R = nat_cmp} (map owned_shown ws))

-- what the fields of a session show
abbrev pub session_shown : Inside → PlainSession
session_shown s =
    record { messages = s.messages; negotiated = s.negotiated; waiting = by_unique s.waiting }

-- what the fields of a session that is put aside show
abbrev pub parked_shown : Parked → PlainSession
parked_shown s =
    record { messages = s.messages; negotiated = s.negotiated; waiting = owned_by_unique s.waiting.items }
