-- What is said of each operation, on the page of its family: its rule, which has what its success needs, what that makes of the store
-- and when each error of POSIX has its cause; and what its answer says.
use Rattle.std.specs.Prelude.{◌≡◌, ℕ, ℤ, Bool, List, [], ◌∷◌, Option}
use Rattle.std.specs.Option.{option_map_or}
use Rattle.std.specs.FinMap.{FinMap, get, insert}
use Rattle.fa_bodies.specs.declared.attributes.Attributes.{Attributes}
use Rattle.fa_bodies.specs.declared.entry.EntryOut.{EntryOut}
use Rattle.fa_bodies.specs.declared.errno.TheConstants.{ENOENT, EEXIST, ENOTDIR, EISDIR, ENOTEMPTY}
use Rattle.fa_ledger.specs.declared.operation.Outcome.{Outcome}
use Rattle.fa_ledger.specs.declared.operation.Outcome.TheVariants.{Fails, Succeeds, Unanswered}
use Rattle.fa_tree.specs.declared.id.FileId.{FileId}
use Rattle.fa_tree.specs.State.{File, Store, file_cmp, HasName}
use Rattle.fa_tree.specs.Attributes.{Fits}
use Rattle.fa_tree.specs.Edits.{Edit}

-- ---- rules

-- What a success needs of the store; what it does to names, and the files after it, where its call says whether it empties a file
-- that is there and how many bytes it wrote; and the cause of each error that the store determines (<errno.h> and the pages of POSIX for
-- each operation).
pub record Rule : Type 1 where
  pub needs : Type 0
  pub edits : List Edit
  pub files : (truncates : Bool) → (count : ℕ) → FinMap file_cmp File
  -- ENOENT: a name is not there, or what is named is not linked
  pub missing : Type 0
  -- EEXIST: what may not be there is: the new name, or a name in the directory that would go
  pub taken : Type 0
  -- ENOTDIR: what is named as a directory is none
  pub no_directory : Type 0
  -- EISDIR: a directory is where none may be
  pub a_directory : Type 0
  -- ENOTEMPTY: the directory that would go has a name in it
  pub not_empty : Type 0

-- An error that the store determines has its cause. Any other may come at any time. Where several causes are there, an error for any of
-- them is right; and an error that has its cause is right where a success would be too (this profile).
pub record HasCause (r : Rule) (error : ℤ) : Type 0 where
  pub missing : error ≡ ENOENT → r.missing
  pub taken : error ≡ EEXIST → r.taken
  pub no_directory : error ≡ ENOTDIR → r.no_directory
  pub a_directory : error ≡ EISDIR → r.a_directory
  pub not_empty : error ≡ ENOTEMPTY → r.not_empty

-- the files, with this one changed
abbrev pub with_file : FinMap file_cmp File → FileId → (File → File) → FinMap file_cmp File
with_file files id change = option_map_or (λ file. insert files id (change file)) (get files id) files

-- ---- what answers say

-- What a success says: that it finds what was there when it was asked for; attributes; the files for which it gives names of nodes, in the
-- order of these; bytes; and entries of a directory.
pub record Said : Type 1 where
  pub found : Type 0
  pub attributes : Type 0
  pub files : List (Option FileId)
  pub bytes : Type 0
  pub listing : Type 0

-- nothing that is judged
abbrev pub nothing_said : Said
nothing_said = record { found = Unit {0}; attributes = Unit {0}; files = []; bytes = Unit {0}; listing = Unit {0} }

-- the attributes of a file
abbrev pub attributes_said : Store → FileId → Attributes → Said
attributes_said s file attr = record { found = Unit {0}; attributes = Fits s file attr; files = []; bytes = Unit {0}; listing = Unit {0} }

-- bytes, of which this has to hold
abbrev pub bytes_said : Type 0 → Said
bytes_said Fit = record { found = Unit {0}; attributes = Unit {0}; files = []; bytes = Fit; listing = Unit {0} }

-- attributes are those of the file that has the name
abbrev pub FitsNamed : Store → (directory : FileId) → (name : List ℕ) → Attributes → Type 0
FitsNamed s directory name attr = (file : FileId) × HasName s directory name file × Fits s file attr

-- an entry: the attributes of the file that has the name, and a node for it
abbrev pub entry_said : Store → (directory : FileId) → (name : List ℕ) → EntryOut → Said
entry_said s directory name entry = record {
  found = Unit {0};
  attributes = FitsNamed s directory name entry.attr;
  files = get s.names (directory, name) ∷ [];
  bytes = Unit {0};
  listing = Unit {0};
}

-- what a success says, if one came of it
abbrev pub if_done : {A : Type 0} → Outcome A → (A → Said) → Said
if_done (Fails error) says = nothing_said
if_done (Succeeds success) says = says success
if_done Unanswered says = nothing_said
