-- The table of the offsets that were reached.
use Rattle.std.specs.Prelude.{cond, ◌≡◌, ◌≢◌, ℕ, ◌≤◌, ◌==◌, if◌then◌else◌, Bool, true, false, nat_eq, List, [], length, map, is_none, IsTrue, Option, None, Some, option_and_then}
use Rattle.std.specs.List.{list_any}
use Rattle.std.specs.Map.{lookup}
use Rattle.indexmap.specs.IndexMap.{IndexMap, get, spare}
use Rattle.fa_bodies.specs.Dirents.{PlainDirent}
use Rattle.fa_bodies.specs.Listing.{entries_left}
use Rattle.fa_bodies.specs.Requests.{PlainBody}
use Rattle.fa_bodies.specs.Replies.{PlainReply}
use Rattle.fa_bodies.specs.Replies.PlainReply.{Listed}
use Rattle.fa_ledger.specs.declared.tables.Used.{Used}
use Rattle.fa_ledger.specs.declared.row.WaitingCall.{WaitingCall}
use Rattle.fa_ledger.specs.declared.call.Listing.{Listing}
use Rattle.fa_ledger.specs.declared.handles.Handle.{Handle}
use Rattle.fa_ledger.specs.declared.key.Key.{Key}
use Rattle.fa_ledger.specs.declared.listings.ListedOn.{ListedOn}
use Rattle.fa_ledger.specs.declared.listings.Offsets.{Offsets}
use Rattle.fa_ledger.specs.declared.listings.Place.{Place}
use Rattle.fa_ledger.specs.Keys.{key_eq, handle_used}
use Rattle.fa_ledger.specs.Listings.{count_to}

-- where an offset was last reached on the handle of a key, if it was
abbrev pub place_of : List (Key × Offsets) → Key → ℕ → Option Place
place_of table key offset =
    option_and_then (λ offsets. lookup (nat_eq offset) offsets.places.entries) (lookup (key_eq key) table)

-- what the table shows: for each key its offsets, and where each was last reached
abbrev pub listed_shown : List (Key × Offsets) → List (Key × List (ℕ × Place))
listed_shown table = map (λ row. (row.0, row.1.places.entries)) table

-- the handle of the key has room for so many offsets more
abbrev pub HasRoom : {S : Type 0} → IndexMap Key Offsets S → Key → ℕ → Type 0
HasRoom table key additional =
    (offsets : Offsets) × (get key_eq table key ≡ Some offsets) × (additional ≤ spare offsets.places)

-- some entry has an offset that is not in the table, as a test; and one that was not reached on the handle of a key
abbrev pub some_new : List (ℕ × Place) → List PlainDirent → Bool
some_new table entries = list_any (λ d. is_none (lookup (nat_eq d.off) table)) entries

abbrev pub some_unreached : List (Key × Offsets) → Key → List PlainDirent → Bool
some_unreached table key entries = list_any (λ d. is_none (place_of table key d.off)) entries

-- an answer lists an entry with an offset that was not reached on its handle
abbrev pub ListsNew : List (Key × Offsets) → Option ListedOn → Type 0
ListsNew table None = ⊥
ListsNew table (Some listed) = IsTrue (some_unreached table listed.key (entries_left listed.entries))

-- the handle on which an answer lists has room for its entries, if it lists a new one
abbrev pub HasRoomIfNew : {S : Type 0} → IndexMap Key Offsets S → Option ListedOn → Type 0
HasRoomIfNew table None = Unit {0}
HasRoomIfNew table (Some listed) =
    IsTrue (some_unreached table.entries listed.key (entries_left listed.entries)) → HasRoom table listed.key listed.count

-- where an offset was last reached, once the answer to the request of this number came, which counts so many entries up to it
-- or has none with it
abbrev pub noted : (asked : ℕ) → (adrift : Bool) → Option ℕ → Option Place → Option Place
noted asked adrift None place = place
noted asked adrift (Some count) place = Some (record { asked = asked; count = count; adrift = adrift })

-- the places before and after the answer to this request lists, if it does
abbrev pub IsNotedBy : (asked : ℕ) → Option ListedOn → List (Key × Offsets) → List (Key × Offsets) → Type 0
IsNotedBy asked None old new = (other : Key) (offset : ℕ) → place_of new other offset ≡ place_of old other offset
IsNotedBy asked (Some listed) old new =
    (other : Key) (offset : ℕ) → place_of new other offset
    ≡ cond (key_eq listed.key other) (noted asked listed.adrift (count_to offset (entries_left listed.entries)) (place_of old other offset)) (place_of old other offset)

-- where an offset was last reached, once an entry has it here: of the entries of one answer with it the first stays
abbrev pub noted_once : Place → Option Place → Option Place
noted_once place None = Some place
noted_once place (Some old) = (if old.asked == place.asked then Some old else Some place)

-- what a request that begins elsewhere than at 0 goes on from, where its offset was last reached here, if it was
abbrev pub further_on : (shared : Bool) → Option Place → Listing
further_on shared None = record { before = None; adrift = true; shared = shared }
further_on shared (Some place) = record { before = Some (place.asked, place.count); adrift = place.adrift; shared = shared }

-- what a request that begins at this offset goes on from
abbrev pub going_on : (offset : ℕ) → (shared : Bool) → Option Place → Listing
going_on offset shared place =
    (if offset == 0 then record { before = None; adrift = false; shared = shared } else further_on shared place)

-- what a request that uses this handle goes on from, if it lists
abbrev pub listing_by : Option ℕ → Option Used → (Key → ℕ → Option Place) → Option Listing
listing_by None used place = None
listing_by (Some offset) None place = None
listing_by (Some offset) (Some used) place = Some (going_on offset used.handle.shared (place used.key offset))

-- The answer to a call that waits lists these entries on its handle, which is open still under this key.
pub record ListsStill (opened : List (Key × Handle)) (waiting : WaitingCall) (body : PlainBody) (reply : PlainReply) (key : Key) (entries : List PlainDirent) : Type 0 where
  pub lists : reply ≡ Listed entries
  pub some : entries ≢ []
  pub used : handle_used body ≡ Some (key.fh, key.kind)
  pub node : key.node ≡ waiting.node
  pub handle : Handle
  pub there : lookup (key_eq key) opened ≡ Some handle
  pub named : waiting.handle ≡ Some handle.name

-- what such an answer lists, if it lists any
abbrev pub ListsStillIfAny : List (Key × Handle) → WaitingCall → PlainBody → PlainReply → Option ListedOn → Type 0
ListsStillIfAny opened waiting body reply None = (key : Key) (entries : List PlainDirent) → ListsStill opened waiting body reply key entries → ⊥
ListsStillIfAny opened waiting body reply (Some l) =
    ListsStill opened waiting body reply l.key (entries_left l.entries) × (l.adrift ≡ waiting.adrift) × (l.count ≡ length (entries_left l.entries))
