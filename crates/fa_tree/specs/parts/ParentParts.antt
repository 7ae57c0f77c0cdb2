-- The directory that each directory is in, as it is noted.
use Rattle.std.specs.Prelude.{◌≡◌, List, Option, Some, option_map}
use Rattle.std.specs.Map.{lookup}
use Rattle.fa_tree.specs.declared.id.FileId.{FileId}
use Rattle.fa_tree.specs.declared.parents.Parent.{Parent}
use Rattle.fa_tree.specs.contracts.id.FileIdPartialEq.TheImpl as derived
use Rattle.fa_tree.specs.State.{Store, IsDirectory, IsParent}

-- the directory that is noted for a file, if one is
abbrev pub parent_noted : List (FileId × Parent) → FileId → Option FileId
parent_noted table file = option_map (λ parent. parent.directory) (lookup (derived.eq-value.it file) table)

-- parents are noted: for each directory that has a name the directory that the name is in
abbrev pub AreParentsNoted : Store → (noted : FileId → Option FileId) → Type 0
AreParentsNoted s noted = (file directory : FileId) → IsDirectory s file → IsParent s directory file → noted file ≡ Some directory

-- notes are parents: what is noted for a file is a directory that has a name for it, and the file is a directory
abbrev pub AreNotesParents : Store → (noted : FileId → Option FileId) → Type 0
AreNotesParents s noted = (file directory : FileId) → noted file ≡ Some directory → IsDirectory s file × IsParent s directory file
