-- Listings: what a READDIR or READDIRPLUS goes on from (this profile). A directory is read by several of them. Each begins at
-- an offset (`offset` of struct fuse_read_in of fuse.h): 0 for the start, and as a rule the `off` of an entry (struct
-- fuse_dirent) that an earlier reply on its handle gave. At any other offset the listing is adrift.
use Rattle.std.specs.Prelude.{◌≡◌, ◌≢◌, ◌↔◌, ℕ, suc, ◌<◌, ◌≤◌, ◌==◌, if◌then◌else◌, Bool, true, false, IsTrue, List, [], ◌∷◌, ◌++◌, slice_get, take, Option, Some, None, option_map}
use Rattle.fa_bodies.specs.Dirents.{PlainDirent}
use Rattle.fa_bodies.specs.Requests.{PlainRequest, PlainBody}
use Rattle.fa_bodies.specs.Requests.PlainBody.{Readdir, Readdirplus}
use Rattle.fa_bodies.specs.Replies.PlainReply.{Listed}
use Rattle.fa_session.specs.Events.{PlainEvent}
use Rattle.fa_session.specs.Events.PlainEvent.{Answered}
use Rattle.fa_ledger.specs.declared.call.Listing.{Listing}
use Rattle.fa_ledger.specs.declared.key.Key.{Key}
use Rattle.fa_ledger.specs.Keys.{key_used}
use Rattle.fa_ledger.specs.Handles.{IsHandle, IsShared}

-- ---- what is asked for and answered

-- the offset at which a request begins to list, if it lists
abbrev pub offset_asked : PlainBody → Option ℕ
offset_asked (Readdir r) = Some r.offset
offset_asked (Readdirplus r) = Some r.offset
offset_asked other = None

-- how many entries there are up to and with the first that has this offset, if one has it
abbrev pub count_to : ℕ → List PlainDirent → Option ℕ
count_to offset [] = None
count_to offset (d ∷ ds) = (if d.off == offset then Some 1 else option_map (λ n. suc n) (count_to offset ds))

-- The entry of this number is the first that has this offset.
pub record IsFirstWith (offset : ℕ) (ds : List PlainDirent) (n : ℕ) : Type 0 where
  pub entry : PlainDirent
  pub there : slice_get ds n ≡ Some entry
  pub has : entry.off ≡ offset
  pub first : (i : ℕ) (d : PlainDirent) → i < n → slice_get ds i ≡ Some d → d.off ≢ offset

-- After these events the request uses the handle of this name.
pub record UsesHandle (es : List PlainEvent) (r : PlainRequest) (handle : ℕ) : Type 0 where
  pub key : Key
  pub used : key_used es r ≡ Some key
  pub named : IsHandle es key handle

-- A reply as a part of a listing: its number, that of the request that it answers, this request, the entries that it lists,
-- and how many of them count.
pub record Part : Type 0 where
  pub at : ℕ
  pub asked : ℕ
  pub request : PlainRequest
  pub entries : List PlainDirent
  pub count : ℕ

-- The part is of a reply on this handle that has an entry with this offset, and counts the entries up to and with the first
-- such.
pub record ReachesOffset (es : List PlainEvent) (handle offset : ℕ) (part : Part) : Type 0 where
  pub there : slice_get es part.at ≡ Some (Answered part.at part.asked part.request (Listed part.entries))
  pub uses : UsesHandle (take part.asked es) part.request handle
  pub count : count_to offset part.entries ≡ Some part.count

-- of the replies on this handle that have an entry with this offset, the part is of the last
pub record IsLastPart (es : List PlainEvent) (handle offset : ℕ) (part : Part) : Type 0 where
  pub reaches : ReachesOffset es handle offset part
  pub last : (other : Part) → ReachesOffset es handle offset other → other.at ≤ part.at

-- no reply on this handle has an entry with this offset
abbrev pub IsNeverReached : List PlainEvent → (handle offset : ℕ) → Type 0
IsNeverReached es handle offset = (part : Part) → ReachesOffset es handle offset part → ⊥

-- ---- the listing so far

-- What was listed so far on this handle, after these events, for a request that begins at this offset: these entries; and
-- whether the listing is adrift. At 0 it begins anew. Elsewhere it goes on from the last reply that has an entry with the
-- offset: with what was listed so far for that reply's request, then the reply's entries up to and with the first such. Where
-- there is no such reply nothing was listed, and it is adrift; so is what goes on from a listing that is adrift.
pub data IsListedSoFar : List PlainEvent → (handle offset : ℕ) → List PlainDirent → (adrift : Bool) → Type 0 where
  anew : (es : List PlainEvent) (handle : ℕ) → IsListedSoFar es handle 0 [] false
  unreached : (es : List PlainEvent) (handle offset : ℕ) → offset ≢ 0 → IsNeverReached es handle offset → IsListedSoFar es handle offset [] true
  further : (es : List PlainEvent) (handle offset : ℕ) (part : Part) (began : ℕ) (entries : List PlainDirent) (adrift : Bool)
      → offset ≢ 0 → IsLastPart es handle offset part → offset_asked part.request.body ≡ Some began
      → IsListedSoFar (take part.asked es) handle began entries adrift
      → IsListedSoFar es handle offset (entries ++ take part.count part.entries) adrift

-- ---- what a request goes on from

-- What a request that begins at this offset goes on from, by the number of the earlier request and how many entries of its
-- answer count: at 0, and at an offset that was never reached, from none.
abbrev pub GoesOnFrom : List PlainEvent → (handle offset : ℕ) → Option (ℕ × ℕ) → Type 0
GoesOnFrom es handle offset None = offset ≢ 0 → IsNeverReached es handle offset
GoesOnFrom es handle offset (Some before) =
    (offset ≢ 0) × ((part : Part) × IsLastPart es handle offset part × (before ≡ (part.asked, part.count)))

-- The listing of a request after these events: what it goes on from, whether it is adrift, and whether its handle is shared.
pub record IsListing (es : List PlainEvent) (r : PlainRequest) (listing : Listing) : Type 0 where
  pub offset : ℕ
  pub asks : offset_asked r.body ≡ Some offset
  pub handle : ℕ
  pub uses : UsesHandle es r handle
  pub before : GoesOnFrom es handle offset listing.before
  pub adrift : (entries : List PlainDirent) × IsListedSoFar es handle offset entries listing.adrift
  pub shared : IsTrue listing.shared ↔ IsShared es uses.key

-- the listing of a request, if it lists
abbrev pub IsListingIfAny : List PlainEvent → PlainRequest → Option Listing → Type 0
IsListingIfAny es r None = offset_asked r.body ≡ None
IsListingIfAny es r (Some listing) = IsListing es r listing
