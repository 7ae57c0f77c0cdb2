-- What makes what is stored a tree. Nothing here is asked of anyone: it holds of the empty tree, and whatever may be added and
-- done keeps it (Laws).
use Rattle.std.specs.Prelude.{◌≡◌, ◌≤◌, ℕ, List, None}
use Rattle.std.specs.FinMap.{get, len}
use Rattle.fa_tree.specs.declared.id.FileId.TheVariants as file_id
use Rattle.fa_tree.specs.declared.id.FileId.{FileId}
use Rattle.fa_tree.specs.State.{Store, root, HasName, IsFile, IsDirectory, IsParent}

-- Each way from the file up, from child to parent, ends.
pub data IsRooted (s : Store) : FileId → Type 0 where
  rooted : (file : FileId) → ((parent : FileId) → IsParent s parent file → IsRooted s parent) → IsRooted s file

-- The root is a directory; names are in directories, for files that there are; a directory has one name at most; no way up leads
-- round; and the files that would be put in by name next, and later, are not there yet.
pub record IsTree (s : Store) : Type 0 where
  pub root_is_one : IsDirectory s root
  pub inside : (directory : FileId) (name : List ℕ) (file : FileId) → HasName s directory name file → IsDirectory s directory
  pub there : (directory : FileId) (name : List ℕ) (file : FileId) → HasName s directory name file → IsFile s file
  pub one_name : (directory other : FileId) (name further : List ℕ) (file : FileId) → HasName s directory name file
      → HasName s other further file → IsDirectory s file → (directory ≡ other) × (name ≡ further)
  pub ends : (file : FileId) → IsRooted s file
  pub next : (n : ℕ) → len s.files ≤ n → get s.files (file_id.Added n) ≡ None
