-- The tree: which file each name of a directory is, what each file is, which file each node name stands for, and the
-- directories that are open.
use Rattle.std.specs.Prelude.{◌≡◌, ◌⊎◌, ◌+◌, ◌*◌, ℕ, Bool, List, count_by, Option, Some, None}
use Rattle.std.specs.Ordering.{nat_cmp, ordering_then, eq_by_cmp}
use Rattle.std.specs.Cmp.Lexicographic.{slice_cmp}
use Rattle.std.specs.declared.cmp.Ordering.{Ordering}
use Rattle.std.specs.declared.cmp.Ordering.TheVariants.{Less, Equal, Greater}
use Rattle.std.specs.FinMap.{FinMap, get, entries}
use Rattle.std.specs.Hash as fed
use Rattle.std.specs.Hash.{HashWrites}
use Rattle.std.specs.FinSet.{FinSet}
use Rattle.fa_bodies.specs.declared.mode.Kind.{Kind}
use Rattle.fa_bodies.specs.declared.mode.Kind.TheVariants.{Directory, Regular, Symlink}
use Rattle.fa_ledger.specs.declared.name.NodeName.{NodeName}
use Rattle.fa_ledger.specs.declared.name.NodeName.TheVariants.{Root, Given}
use Rattle.fa_tree.specs.declared.id.FileId.TheVariants as file_id
use Rattle.fa_tree.specs.declared.id.FileId.{FileId}

-- ---- what is stored

-- A file: its type, its permission bits, and its bytes, which of a symbolic link are its target. Only regular files and
-- symbolic links have any.
pub record File : Type 0 where
  pub kind : Kind
  pub bits : ℕ
  pub bytes : List ℕ

-- files in order, by what made them: the root, those that were put in by name, those that requests made
abbrev pub file_pair : FileId → ℕ × ℕ
file_pair file_id.Root = (0, 0)
file_pair (file_id.Added n) = (1, n)
file_pair (file_id.Made asked) = (2, asked)

-- a number for each file, and no two have one; it is what a file feeds a hasher
abbrev pub file_number : FileId → ℕ
file_number file_id.Root = 0
file_number (file_id.Added n) = n * 4 + 1
file_number (file_id.Made asked) = asked * 4 + 2

abbrev pub file_fed : FileId → HashWrites
file_fed f = fed.u64 (file_number f)

abbrev pub file_cmp : FileId → FileId → Ordering
file_cmp a b = ordering_then (nat_cmp (file_pair a).0 (file_pair b).0) (nat_cmp (file_pair a).1 (file_pair b).1)

-- they are one file, as a test
abbrev pub file_eq : FileId → FileId → Bool
file_eq a b = eq_by_cmp file_cmp a b

-- a place is a directory and a name in it; places in order
abbrev pub Place : Type 0
Place = FileId × List ℕ

abbrev pub name_cmp : List ℕ → List ℕ → Ordering
name_cmp = slice_cmp nat_cmp

abbrev pub place_cmp : Place → Place → Ordering
place_cmp a b = ordering_then (file_cmp a.0 b.0) (name_cmp a.1 b.1)

-- Which file is at each place, and what each file is. A file stays when its last name goes.
pub record Store : Type 0 where
  pub names : FinMap place_cmp FileId
  pub files : FinMap file_cmp File

-- the root of the tree
abbrev pub root : FileId
root = file_id.Root

-- ---- names and files

-- the directory has the name, for this file
abbrev pub HasName : Store → (directory : FileId) → (name : List ℕ) → (file : FileId) → Type 0
HasName s directory name file = get s.names (directory, name) ≡ Some file

-- the name is not in the directory
abbrev pub IsFree : Store → (directory : FileId) → (name : List ℕ) → Type 0
IsFree s directory name = get s.names (directory, name) ≡ None

-- the name is in the directory
abbrev pub IsThere : Store → (directory : FileId) → (name : List ℕ) → Type 0
IsThere s directory name = (file : FileId) × HasName s directory name file

-- there is this file
abbrev pub IsFile : Store → FileId → Type 0
IsFile s id = (file : File) × (get s.files id ≡ Some file)

-- the file is of this type
abbrev pub IsOfKind : Store → FileId → Kind → Type 0
IsOfKind s id kind = (file : File) × (get s.files id ≡ Some file) × (file.kind ≡ kind)

abbrev pub IsDirectory : Store → FileId → Type 0
IsDirectory s file = IsOfKind s file Directory

abbrev pub IsRegular : Store → FileId → Type 0
IsRegular s file = IsOfKind s file Regular

abbrev pub IsSymlink : Store → FileId → Type 0
IsSymlink s file = IsOfKind s file Symlink

-- a linked file is the root or has a name
abbrev pub IsLinked : Store → FileId → Type 0
IsLinked s file = (file ≡ root) ⊎ ((directory : FileId) × (name : List ℕ) × HasName s directory name file)

abbrev pub IsLinkedDirectory : Store → FileId → Type 0
IsLinkedDirectory s file = IsDirectory s file × IsLinked s file

-- a directory in which no name is
abbrev pub IsEmptyDirectory : Store → FileId → Type 0
IsEmptyDirectory s directory = IsDirectory s directory × ((name : List ℕ) → IsFree s directory name)

-- how many names a file has
abbrev pub links : Store → FileId → ℕ
links s file = count_by (λ entry. file_eq entry.1 file) (entries s.names)

-- ---- below

-- the directory `parent` has a name for the file
abbrev pub IsParent : Store → (parent : FileId) → (file : FileId) → Type 0
IsParent s parent file = (name : List ℕ) × HasName s parent name file

-- A file is below a directory where a way leads up to that one, from child to parent.
pub data IsBelow (s : Store) : (above : FileId) → (below : FileId) → Type 0 where
  child : (above below : FileId) → IsParent s above below → IsBelow s above below
  further : (above between below : FileId) → IsParent s between below → IsBelow s above between → IsBelow s above below

-- ---- nodes and open directories

-- names of nodes in order: the root first, then by id and reply
abbrev pub node_cmp : NodeName → NodeName → Ordering
node_cmp Root Root = Equal
node_cmp Root (Given by id) = Less
node_cmp (Given by id) Root = Greater
node_cmp (Given by id) (Given other_by other_id) = ordering_then (nat_cmp id other_id) (nat_cmp by other_by)

-- A directory that is open: which it is, the names that were in it at some moment since it was opened, and for each of these
-- whose file stayed in it under that name since then, this file.
pub record OpenDirectory : Type 0 where
  pub directory : FileId
  pub since : FinSet name_cmp
  pub stayed : FinMap name_cmp FileId

-- The tree: what is stored; the files that names of nodes stand for, but for the root's; and the directories that are open,
-- by the numbers of the OPENDIR requests that opened them. These stay when they are closed, as a request may be placed after
-- that which was sent before.
pub record TreeState : Type 0 where
  pub store : Store
  pub nodes : FinMap node_cmp FileId
  pub handles : FinMap nat_cmp OpenDirectory

-- the file that the name of a node stands for, if it stands for one
abbrev pub file_of : TreeState → NodeName → Option FileId
file_of t Root = Some root
file_of t (Given by id) = get t.nodes (Given by id)
