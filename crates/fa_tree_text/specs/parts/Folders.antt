-- Directories that are kept by their paths.
use Rattle.std.specs.Prelude.{IfSome}
use Rattle.fa_tree.specs.State.{Store}
use Rattle.fa_tree_text.specs.declared.folders.Folder.{Folder}
use Rattle.fa_tree_text.specs.declared.folders.Folders.{Folders}
use Rattle.fa_tree_text.specs.parts.Ways.{IsFileAt}

-- the path of the folder leads to its directory
abbrev pub IsFound : Store → Folder → Type 0
IsFound s folder = IsFileAt s folder.path.now folder.directory

-- so of each of these
abbrev pub AreFound : Store → Folders → Type 0
AreFound s folders = IfSome folders.parent (IsFound s) × IfSome folders.added (IsFound s)
