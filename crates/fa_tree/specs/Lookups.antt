-- LOOKUP, GETATTR, SETATTR and READLINK (POSIX: pathname resolution, fstatat, chmod and truncate, readlink).
use Rattle.std.specs.Prelude.{◌≡◌, ◌≢◌, ℕ, if◌then◌else◌, List, [], ◌∷◌, Some}
use Rattle.std.specs.FinMap.{get}
use Rattle.fa_bodies.specs.declared.mode.Kind.{Kind}
use Rattle.fa_bodies.specs.declared.mode.Kind.TheVariants.{Fifo, CharDevice, Directory, BlockDevice, Regular, Symlink, Socket}
use Rattle.fa_bodies.specs.declared.setattr.SetattrIn.{SetattrIn}
use Rattle.fa_bodies.specs.FlagBits.{fattr_mode, fattr_size}
use Rattle.fa_bodies.specs.Flags.{HasFlag, has_flag, fattr_bits}
use Rattle.fa_bodies.specs.Modes.{mode_bits}
use Rattle.fa_bodies.specs.declared.attributes.AttrOut.{AttrOut}
use Rattle.fa_bodies.specs.declared.entry.EntryOut.{EntryOut}
use Rattle.fa_ledger.specs.declared.operation.Outcome.{Outcome}
use Rattle.fa_tree.specs.declared.id.FileId.{FileId}
use Rattle.fa_tree.specs.State.{File, Store, IsFree, IsThere, IsDirectory, IsLinked, IsRegular, IsSymlink}
use Rattle.fa_tree.specs.Attributes.{permission_bits}
use Rattle.fa_store.specs.Contents.{resized}
use Rattle.fa_tree.specs.Rules.{Rule, Said, FitsNamed, attributes_said, bytes_said, if_done, with_file}

-- LOOKUP answers node id 0 where the name is not in the directory, and another where it is.
abbrev pub IsFoundAs : Store → (directory : FileId) → (name : List ℕ) → (nodeid : ℕ) → Type 0
IsFoundAs s directory name nodeid =
    (nodeid ≡ 0 → IsFree s directory name) × (nodeid ≢ 0 → IsThere s directory name)

-- SETATTR of a size succeeds on a regular file alone.
abbrev pub MayBeSet : Store → FileId → SetattrIn → Type 0
MayBeSet s id a = HasFlag (fattr_bits a.valid) fattr_size → IsRegular s id

-- the permission bits that SETATTR leaves: those of its mode, if that counts; a symbolic link keeps its own (this profile)
abbrev pub bits_set : SetattrIn → Kind → ℕ → ℕ
bits_set a Symlink bits = bits
bits_set a Fifo bits = (if has_flag (fattr_bits a.valid) fattr_mode then permission_bits (mode_bits a.mode) else bits)
bits_set a CharDevice bits = (if has_flag (fattr_bits a.valid) fattr_mode then permission_bits (mode_bits a.mode) else bits)
bits_set a Directory bits = (if has_flag (fattr_bits a.valid) fattr_mode then permission_bits (mode_bits a.mode) else bits)
bits_set a BlockDevice bits = (if has_flag (fattr_bits a.valid) fattr_mode then permission_bits (mode_bits a.mode) else bits)
bits_set a Regular bits = (if has_flag (fattr_bits a.valid) fattr_mode then permission_bits (mode_bits a.mode) else bits)
bits_set a Socket bits = (if has_flag (fattr_bits a.valid) fattr_mode then permission_bits (mode_bits a.mode) else bits)

-- the file after SETATTR: cut or filled with zeros, if the size counts
abbrev pub file_set : SetattrIn → File → File
file_set a file = record {
  kind = file.kind;
  bits = bits_set a file.kind file.bits;
  bytes = (if has_flag (fattr_bits a.valid) fattr_size then resized file.bytes a.size else file.bytes);
}

-- READLINK gives the target.
abbrev pub IsTargetOf : Store → FileId → List ℕ → Type 0
IsTargetOf s id target = (file : File) × (get s.files id ≡ Some file) × (target ≡ file.bytes)

-- ---- the operations

abbrev pub lookup_rule : Store → (directory : FileId) → (name : List ℕ) → Rule
lookup_rule s directory name = record {
  needs = IsDirectory s directory;
  edits = [];
  files = λ truncates count. s.files;
  missing = IsFree s directory name;
  taken = ⊥;
  no_directory = IsDirectory s directory → ⊥;
  a_directory = ⊥;
  not_empty = ⊥;
}

-- where the entry says that the name is not there, no attributes are judged
abbrev pub found_said : (before after : Store) → (directory : FileId) → (name : List ℕ) → EntryOut → Said
found_said before after directory name entry = record {
  found = IsFoundAs before directory name entry.nodeid;
  attributes = entry.nodeid ≢ 0 → FitsNamed after directory name entry.attr;
  files = get after.names (directory, name) ∷ [];
  bytes = Unit {0};
  listing = Unit {0};
}

abbrev pub lookup_said : (before after : Store) → (directory : FileId) → (name : List ℕ) → Outcome EntryOut → Said
lookup_said before after directory name o = if_done o (found_said before after directory name)

-- it may always succeed
abbrev pub getattr_rule : Store → (file : FileId) → Rule
getattr_rule s file = record {
  needs = Unit {0};
  edits = [];
  files = λ truncates count. s.files;
  missing = IsLinked s file → ⊥;
  taken = ⊥;
  no_directory = ⊥;
  a_directory = ⊥;
  not_empty = ⊥;
}

-- GETATTR and SETATTR
abbrev pub file_said : Store → (file : FileId) → Outcome AttrOut → Said
file_said s file o = if_done o (λ out. attributes_said s file out.attr)

abbrev pub setattr_rule : Store → (file : FileId) → SetattrIn → Rule
setattr_rule s file a = record {
  needs = MayBeSet s file a;
  edits = [];
  files = λ truncates count. with_file s.files file (file_set a);
  missing = IsLinked s file → ⊥;
  taken = ⊥;
  no_directory = ⊥;
  a_directory = HasFlag (fattr_bits a.valid) fattr_size × IsDirectory s file;
  not_empty = ⊥;
}

abbrev pub readlink_rule : Store → (file : FileId) → Rule
readlink_rule s file = record {
  needs = IsSymlink s file;
  edits = [];
  files = λ truncates count. s.files;
  missing = IsLinked s file → ⊥;
  taken = ⊥;
  no_directory = ⊥;
  a_directory = ⊥;
  not_empty = ⊥;
}

abbrev pub readlink_said : Store → (file : FileId) → Outcome (List ℕ) → Said
readlink_said s file o = if_done o (λ target. bytes_said (IsTargetOf s file target))
