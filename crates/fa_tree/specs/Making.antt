-- SYMLINK, MKNOD, MKDIR and CREATE (POSIX symlink, mknod, mkdir, open with O_CREAT).
use Rattle.std.specs.Prelude.{◌≡◌, ◌⊎◌, ◌-◌, ◌==◌, if◌then◌else◌, ℕ, Bool, true, false, List, [], ◌∷◌, Option, Some, None}
use Rattle.std.specs.Option.{option_map_or}
use Rattle.std.specs.FinMap.{FinMap, get, insert}
use Rattle.std.specs.Int.RustNames.{bit_and}
use Rattle.fa_bodies.specs.declared.entry.EntryOut.{EntryOut}
use Rattle.fa_bodies.specs.declared.flags.OpenFlags.{OpenFlags}
use Rattle.fa_bodies.specs.declared.handles.OpenOut.{OpenOut}
use Rattle.fa_bodies.specs.declared.mode.Kind.{Kind}
use Rattle.fa_bodies.specs.declared.mode.Kind.TheVariants.{Fifo, CharDevice, Directory, BlockDevice, Regular, Symlink, Socket}
use Rattle.fa_bodies.specs.declared.mode.Mode.{Mode}
use Rattle.fa_bodies.specs.FlagBits.{o_excl}
use Rattle.fa_bodies.specs.Flags.{HasFlag, open_bits}
use Rattle.fa_bodies.specs.Modes.{mode_bits, type_bits, type_number}
use Rattle.fa_ledger.specs.declared.operation.Outcome.{Outcome}
use Rattle.fa_tree.specs.declared.id.FileId.TheVariants as file_id
use Rattle.fa_tree.specs.declared.id.FileId.{FileId}
use Rattle.fa_tree.specs.State.{File, Store, file_cmp, HasName, IsFree, IsThere, IsDirectory, IsLinked, IsRegular, IsLinkedDirectory}
use Rattle.fa_tree.specs.Attributes.{all_bits, permission_bits}
use Rattle.fa_tree.specs.Edits.Edit.{Added}
use Rattle.fa_tree.specs.Causes.{IsDirectoryThere}
use Rattle.fa_tree.specs.Rules.{Rule, Said, entry_said, if_done, with_file}

-- A file is made in a linked directory under a name that is not in it.
abbrev pub MayBeMade : Store → (directory : FileId) → (name : List ℕ) → Type 0
MayBeMade s directory name = IsLinkedDirectory s directory × IsFree s directory name

-- the request of this number has made no file, so it is not done twice
abbrev pub HasMadeNone : Store → (asked : ℕ) → Type 0
HasMadeNone s asked = get s.files (file_id.Made asked) ≡ None

-- CREATE makes a regular file, or opens a regular file that is there (this profile: of no other type), unless O_EXCL asks for a
-- new one.
abbrev pub MayBeCreated : Store → (asked : ℕ) → (directory : FileId) → (name : List ℕ) → OpenFlags → Type 0
MayBeCreated s asked directory name flags =
    IsLinkedDirectory s directory
    × ((IsFree s directory name × HasMadeNone s asked)
    ⊎ ((file : FileId) × HasName s directory name file × IsRegular s file × (HasFlag (open_bits flags) o_excl → ⊥)))

-- the permission bits of a new file: those of its mode that the umask does not take (this profile: that of the request alone)
abbrev pub new_bits : Mode → (umask : ℕ) → ℕ
new_bits mode umask = bit_and (permission_bits (mode_bits mode)) (all_bits - permission_bits umask)

-- the type of a file that MKNOD makes, by the type in its mode; type 0 stands for a regular file, and the message grammar does
-- not let directories and symbolic links pass
abbrev pub node_kind : Mode → Kind
node_kind mode =
    (if type_bits (mode_bits mode) == type_number Fifo then Fifo
    else if type_bits (mode_bits mode) == type_number CharDevice then CharDevice
    else if type_bits (mode_bits mode) == type_number BlockDevice then BlockDevice
    else if type_bits (mode_bits mode) == type_number Socket then Socket
    else Regular)

-- the files that are made: a symbolic link has all permission bits, and its target
abbrev pub new_symlink : (target : List ℕ) → File
new_symlink target = record { kind = Symlink; bits = all_bits; bytes = target }

abbrev pub new_node : Mode → (umask : ℕ) → File
new_node mode umask = record { kind = node_kind mode; bits = new_bits mode umask; bytes = [] }

abbrev pub new_directory : Mode → (umask : ℕ) → File
new_directory mode umask = record { kind = Directory; bits = new_bits mode umask; bytes = [] }

abbrev pub new_regular : Mode → (umask : ℕ) → File
new_regular mode umask = record { kind = Regular; bits = new_bits mode umask; bytes = [] }

-- a file that is emptied
abbrev pub emptied : File → File
emptied file = record { kind = file.kind; bits = file.bits; bytes = [] }

-- what CREATE makes of the files: a further one, or the one that is there, emptied where the request empties it
abbrev pub files_created : FinMap file_cmp File → (asked : ℕ) → (truncates : Bool) → File → Option FileId → FinMap file_cmp File
files_created files asked truncates new None = insert files (file_id.Made asked) new
files_created files asked true new (Some id) = with_file files id emptied
files_created files asked false new (Some id) = files

-- ---- the operations, each by the number of its request, by which the file is known that it makes

-- SYMLINK, MKNOD and MKDIR, each of its new file
abbrev pub making_rule : Store → (asked : ℕ) → (directory : FileId) → (name : List ℕ) → File → Rule
making_rule s asked directory name new = record {
  needs = MayBeMade s directory name × HasMadeNone s asked;
  edits = Added directory name (file_id.Made asked) ∷ [];
  files = λ truncates count. insert s.files (file_id.Made asked) new;
  missing = IsLinked s directory → ⊥;
  taken = IsThere s directory name;
  no_directory = IsDirectory s directory → ⊥;
  a_directory = ⊥;
  not_empty = ⊥;
}

-- the answer of these and of LINK: the file that the name has then
abbrev pub made_said : Store → (directory : FileId) → (name : List ℕ) → Outcome EntryOut → Said
made_said s directory name o = if_done o (entry_said s directory name)

abbrev pub create_rule : Store → (asked : ℕ) → (directory : FileId) → (name : List ℕ) → OpenFlags → File → Rule
create_rule s asked directory name flags new = record {
  needs = MayBeCreated s asked directory name flags;
  edits = option_map_or (λ file. []) (get s.names (directory, name)) (Added directory name (file_id.Made asked) ∷ []);
  files = λ truncates count. files_created s.files asked truncates new (get s.names (directory, name));
  missing = IsLinked s directory → ⊥;
  taken = IsThere s directory name;
  no_directory = IsDirectory s directory → ⊥;
  a_directory = IsDirectoryThere s directory name;
  not_empty = ⊥;
}

abbrev pub create_said : Store → (directory : FileId) → (name : List ℕ) → Outcome (EntryOut × OpenOut) → Said
create_said s directory name o = if_done o (λ made. entry_said s directory name made.0)
