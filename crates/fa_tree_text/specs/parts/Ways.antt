-- Ways down a tree, by the text of a path.
use Rattle.std.specs.Prelude.{◌≡◌, ℕ, List}
use Rattle.fa_tree.specs.declared.id.FileId.{FileId}
use Rattle.fa_tree.specs.State.{Store}
use Rattle.fa_tree_text.specs.Paths.{Path, path_text, IsPath, name_of, LeadsTo, IsAt}

-- From this directory the text of a path leads to another directory and a last name.
pub record Reaches (s : Store) (from : FileId) (text : List ℕ) (to : FileId) (last : List ℕ) : Type 0 where
  pub path : Path
  pub spelled : text ≡ path_text path
  pub is_path : IsPath path
  pub leads : LeadsTo s from path.directories to
  pub last_is : last ≡ name_of path

-- The text of a path leads to this file.
pub record IsFileAt (s : Store) (text : List ℕ) (file : FileId) : Type 0 where
  pub path : Path
  pub spelled : text ≡ path_text path
  pub is_path : IsPath path
  pub is_at : IsAt s file path
