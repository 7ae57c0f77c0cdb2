-- What a ledger's fields show.
use Rattle.std.specs.Prelude.{ℕ, List}
use Rattle.std.specs.FinMap.{entries, from_entries}
use Rattle.std.specs.Ordering.{nat_cmp}
use Rattle.fa_capture.specs.Message.{Message}
use Rattle.fa_ledger.specs.declared.ledger.Ledger.TheInside.{Inside}
use Rattle.fa_ledger.specs.declared.nodes.Lookups.{Lookups}
use Rattle.fa_ledger.specs.Plain.{PlainLedger}
use Rattle.fa_ledger.specs.Shows.{Shows}
use Rattle.fa_ledger.specs.parts.ListingParts.{listed_shown}

-- the entries of the table of nodes, by rising ids
abbrev pub by_id : List (ℕ × Lookups) → List (ℕ × Lookups)
by_id known = entries (from_entries {R = nat_cmp} known)

-- what the fields show
abbrev pub ledger_shown : Inside → PlainLedger
ledger_shown s = record {
  messages = s.messages;
  truncating = s.books.truncating;
  nodes = by_id s.books.tables.nodes.known.entries;
  handles = s.books.tables.handles.opened.entries;
  listed = listed_shown s.books.listings.by_key.entries;
  calls = s.books.calls.calls;
}

-- the fields show some messages, which all pass
abbrev pub ShowsSome : Inside → Type 0
ShowsSome s = ∥ ((c : List Message) × Shows c (ledger_shown s)) ∥₁
