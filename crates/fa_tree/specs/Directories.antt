-- READDIR and READDIRPLUS (POSIX readdir: what is added or removed after opendir may be given or not; what stayed is given).
use Rattle.std.specs.Prelude.{◌≡◌, ◌≢◌, ◌+◌, ◌*◌, ◌^◌, ◌⊎◌, ◌≤◌, ℕ, false, List, [], ◌∷◌, ◌++◌, All, Contains, count_by, filter, not, Option, Some, None, IsTrue}
use Rattle.std.specs.FinMap.{get}
use Rattle.std.specs.FinSet.{contains}
use Rattle.std.specs.Str.{bytes_eq}
use Rattle.fa_bodies.specs.declared.entry.EntryOut.{EntryOut}
use Rattle.fa_bodies.specs.declared.names.TheConstants.{MAX_NAME}
use Rattle.fa_bodies.specs.Dirents.{PlainDirent}
use Rattle.fa_bodies.specs.Modes.{mode_bits, type_number, HasFileType}
use Rattle.fa_ledger.specs.declared.call.Listing.{Listing}
use Rattle.fa_ledger.specs.Counts.{is_dots, nodes_of_entry}
use Rattle.fa_ledger.specs.declared.operation.Outcome.{Outcome}
use Rattle.fa_tree.specs.declared.id.FileId.{FileId}
use Rattle.fa_tree.specs.State.{File, Store, OpenDirectory, HasName, IsThere}
use Rattle.fa_tree.specs.Rules.{Said, if_done}

-- the entries that are judged: all but `.` and `..`
abbrev pub judged : List PlainDirent → List PlainDirent
judged entries = filter (λ d. not (is_dots d.name)) entries

-- The name was in the directory at some moment since it was opened.
abbrev pub WasThere : OpenDirectory → PlainDirent → Type 0
WasThere h d = IsTrue (contains h.since d.name)

-- The type of an entry (`type` of struct fuse_dirent) is 0 or that of this file.
abbrev pub IsTypeOf : Store → FileId → PlainDirent → Type 0
IsTypeOf s id d =
    (d.kind ≡ 0) ⊎ ((file : File) × (get s.files id ≡ Some file) × (d.kind * 2 ^ 12 ≡ type_number file.kind))

-- Where a file stayed under the entry's name, the type is that file's.
abbrev pub IsTypedAsStayed : Store → OpenDirectory → PlainDirent → Type 0
IsTypedAsStayed s h d = (file : FileId) → get h.stayed d.name ≡ Some file → IsTypeOf s file d

-- how often entries have the name
abbrev pub times_listed : (name : List ℕ) → List PlainDirent → ℕ
times_listed name entries = count_by (λ d. bytes_eq d.name name) entries

-- The least size of an answer into which any entry fits: 128 bytes for its node (struct fuse_entry_out), 24 for itself (struct
-- fuse_dirent) and the longest name.
abbrev pub room_for_any : ℕ
room_for_any = 128 + (24 + MAX_NAME)

-- A listing that begins at the start, without gaps, on a handle of its own: what was listed so far and this answer name
-- nothing twice that stayed; and an answer without an entry, where there was room for any, comes only when all that stayed was
-- listed (this profile).
pub record IsOrderly (h : OpenDirectory) (so_far entries : List PlainDirent) (size : ℕ) : Type 0 where
  pub once : (name : List ℕ) (file : FileId) → get h.stayed name ≡ Some file → times_listed name (so_far ++ entries) ≤ 1
  pub whole : entries ≡ [] → room_for_any ≤ size → (name : List ℕ) (file : FileId) → get h.stayed name ≡ Some file
      → (d : PlainDirent) × Contains so_far d × (d.name ≡ name)

-- the entry looks its name up: it has a node id other than 0
abbrev pub LooksUp : PlainDirent → Type 0
LooksUp d = (entry : EntryOut) × (d.entry ≡ Some entry) × (entry.nodeid ≢ 0)

-- Then its name is in the directory now (this profile: a READDIRPLUS acts at one moment, and looks all its entries with a node
-- up together).
abbrev pub IsThereIfLookedUp : Store → (directory : FileId) → PlainDirent → Type 0
IsThereIfLookedUp s directory d = LooksUp d → IsThere s directory d.name

-- And the type in its attributes is that of the file which has the name (told with the attributes, not with the listing).
abbrev pub IsTypedIfLookedUp : Store → (directory : FileId) → PlainDirent → Type 0
IsTypedIfLookedUp s directory d =
    (entry : EntryOut) (id : FileId) (file : File) → d.entry ≡ Some entry → entry.nodeid ≢ 0 → HasName s directory d.name id
    → get s.files id ≡ Some file → HasFileType (mode_bits entry.attr.mode) (Some file.kind)

-- The rule of listings, for a request of this size that goes on from this listing, after what was listed so far.
pub record IsListed (s : Store) (h : OpenDirectory) (listing : Listing) (size : ℕ) (so_far entries : List PlainDirent) : Type 0 where
  pub there : All (WasThere h) (judged entries)
  pub typed : All (IsTypedAsStayed s h) (judged entries)
  pub orderly : listing.adrift ≡ false → listing.shared ≡ false → IsOrderly h so_far entries size
  pub now : All (IsThereIfLookedUp s h.directory) (judged entries)

-- ---- what an answer says of the directory that is open

-- The types in the attributes of entries fit, by the names of the directory that is open.
abbrev pub TypesFit : Store → Option OpenDirectory → List PlainDirent → Type 0
TypesFit s None entries = ⊥
TypesFit s (Some h) entries = All (IsTypedIfLookedUp s h.directory) (judged entries)

-- the file for the node of an entry, if the entry gives one
abbrev pub file_if : (nodes : List ℕ) → Option FileId → List (Option FileId)
file_if [] file = []
file_if (node ∷ nodes) file = file ∷ []

-- the files of the entries that give a name to a node, in their order
abbrev pub files_listed : Store → (directory : FileId) → List PlainDirent → List (Option FileId)
files_listed s directory [] = []
files_listed s directory (d ∷ ds) =
    file_if (nodes_of_entry d.entry d.name) (get s.names (directory, d.name)) ++ files_listed s directory ds

-- those of the names in the directory that is open
abbrev pub files_on : Store → Option OpenDirectory → List PlainDirent → List (Option FileId)
files_on s None entries = []
files_on s (Some h) entries = files_listed s h.directory entries

-- The entries that an answer gives, in so many bytes, are what the rule of listings allows.
abbrev pub EntriesAre : Store → (size : ℕ) → Option OpenDirectory → Option Listing → (so_far entries : List PlainDirent) → Type 0
EntriesAre s size (Some h) (Some listing) so_far entries = IsListed s h listing size so_far entries
EntriesAre s size h listing so_far entries = ⊥

-- entries: types in their attributes, nodes, and the listing
abbrev pub entries_said : Store → (size : ℕ) → Option OpenDirectory → Option Listing → (so_far entries : List PlainDirent) → Said
entries_said s size h listing so_far entries = record {
  found = Unit {0};
  attributes = TypesFit s h entries;
  files = files_on s h entries;
  bytes = Unit {0};
  listing = EntriesAre s size h listing so_far entries;
}

-- READDIR and READDIRPLUS; what their success needs, and when their errors have their cause, is with OPENDIR
abbrev pub list_said : Store → (size : ℕ) → Option OpenDirectory → Option Listing → (so_far : List PlainDirent) → Outcome (List PlainDirent) → Said
list_said s size h listing so_far o = if_done o (entries_said s size h listing so_far)
