-- UNLINK and RMDIR (POSIX unlink and rmdir).
use Rattle.std.specs.Prelude.{◌⊎◌, ℕ, List, [], ◌∷◌}
use Rattle.fa_tree.specs.declared.id.FileId.{FileId}
use Rattle.fa_tree.specs.State.{Store, HasName, IsFree, IsDirectory, IsEmptyDirectory}
use Rattle.fa_tree.specs.Edits.Edit.{Removed}
use Rattle.fa_tree.specs.Causes.{IsDirectoryThere, IsFullDirectoryThere, IsNonDirectoryThere}
use Rattle.fa_tree.specs.Rules.{Rule}

-- UNLINK takes away a name that is in a directory, of a file that is none itself.
abbrev pub MayBeUnlinked : Store → (directory : FileId) → (name : List ℕ) → Type 0
MayBeUnlinked s directory name =
    IsDirectory s directory × ((file : FileId) × HasName s directory name file × (IsDirectory s file → ⊥))

-- RMDIR takes away the name of an empty directory.
abbrev pub MayBeRemoved : Store → (directory : FileId) → (name : List ℕ) → Type 0
MayBeRemoved s directory name = IsDirectory s directory × ((file : FileId) × HasName s directory name file × IsEmptyDirectory s file)

-- ---- the operations

abbrev pub unlink_rule : Store → (directory : FileId) → (name : List ℕ) → Rule
unlink_rule s directory name = record {
  needs = MayBeUnlinked s directory name;
  edits = Removed directory name ∷ [];
  files = λ truncates count. s.files;
  missing = IsFree s directory name;
  taken = ⊥;
  no_directory = IsDirectory s directory → ⊥;
  a_directory = IsDirectoryThere s directory name;
  not_empty = ⊥;
}

-- RMDIR. Of a directory that is not empty POSIX lets a server answer ENOTEMPTY or EEXIST.
abbrev pub rmdir_rule : Store → (directory : FileId) → (name : List ℕ) → Rule
rmdir_rule s directory name = record {
  needs = MayBeRemoved s directory name;
  edits = Removed directory name ∷ [];
  files = λ truncates count. s.files;
  missing = IsFree s directory name;
  taken = IsFullDirectoryThere s directory name;
  no_directory = (IsDirectory s directory → ⊥) ⊎ IsNonDirectoryThere s directory name;
  a_directory = ⊥;
  not_empty = IsFullDirectoryThere s directory name;
}
