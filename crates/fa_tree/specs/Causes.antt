-- What the causes of errors speak of.
use Rattle.std.specs.Prelude.{ℕ, List}
use Rattle.fa_tree.specs.declared.id.FileId.{FileId}
use Rattle.fa_tree.specs.State.{Store, HasName, IsDirectory, IsEmptyDirectory}

-- the name is in the directory, for a directory
abbrev pub IsDirectoryThere : Store → (directory : FileId) → (name : List ℕ) → Type 0
IsDirectoryThere s directory name = (file : FileId) × HasName s directory name file × IsDirectory s file

-- it is, for a directory that is not empty
abbrev pub IsFullDirectoryThere : Store → (directory : FileId) → (name : List ℕ) → Type 0
IsFullDirectoryThere s directory name = (file : FileId) × HasName s directory name file × IsDirectory s file × (IsEmptyDirectory s file → ⊥)

-- it is, for a file that is no directory
abbrev pub IsNonDirectoryThere : Store → (directory : FileId) → (name : List ℕ) → Type 0
IsNonDirectoryThere s directory name = (file : FileId) × HasName s directory name file × (IsDirectory s file → ⊥)
