-- What is counted of files: of each how many names it has, and how many names are in it.
use Rattle.std.specs.Prelude.{◌≡◌, ◌≢◌, ◌+◌, ◌-◌, ℕ, List, Option, Some, count_by, is_some, IsTrue}
use Rattle.std.specs.Option.{option_map, unwrap_or}
use Rattle.std.specs.Map.{lookup}
use Rattle.std.specs.FinMap.{FinMap, get, entries}
use Rattle.fa_tree.specs.declared.id.FileId.{FileId}
use Rattle.fa_tree.specs.contracts.id.FileIdPartialEq.TheImpl as derived
use Rattle.fa_tree.specs.State.{place_cmp, file_eq}
use Rattle.fa_tree.specs.declared.files.Counts.{Counts}
use Rattle.fa_tree.specs.declared.files.CountedFile.{CountedFile}

-- of a file that has no name, nor one in it, nothing is counted
abbrev pub nothing_counted : Counts
nothing_counted = record { links = 0; inside = 0 }

-- a name more of a file
abbrev pub one_link_more : Counts → Counts
one_link_more c = record { links = c.links + 1; inside = c.inside }

-- a name less of a file
abbrev pub one_link_less : Counts → Counts
one_link_less c = record { links = c.links - 1; inside = c.inside }

-- a name more in a directory
abbrev pub one_inside_more : Counts → Counts
one_inside_more c = record { links = c.links; inside = c.inside + 1 }

-- a name less in a directory
abbrev pub one_inside_less : Counts → Counts
one_inside_less c = record { links = c.links; inside = c.inside - 1 }

-- the entry of a file in the table of files, if it has one
abbrev pub entry_of : List (FileId × CountedFile) → FileId → Option CountedFile
entry_of table file = lookup (derived.eq-value.it file) table

-- what is counted of a file
abbrev pub counts_of : List (FileId × CountedFile) → FileId → Counts
counts_of table file = unwrap_or (option_map (λ entry. entry.counts) (entry_of table file)) nothing_counted

-- the file has an entry
abbrev pub IsKnown : List (FileId × CountedFile) → FileId → Type 0
IsKnown table file = IsTrue (is_some (entry_of table file))

-- What is counted of each file is what names it has, and what names are in it.
pub record AreCounted (names : FinMap place_cmp FileId) (counts : FileId → Counts) : Type 0 where
  pub links : (file : FileId) → (counts file).links ≡ count_by (λ entry. file_eq entry.1 file) (entries names)
  pub inside : (directory : FileId) → (counts directory).inside ≡ count_by (λ entry. file_eq entry.0.0 directory) (entries names)

-- the names that are counted, and a name of the directory, which is for this file, or is not there
pub record IsCountedAt (counts : FileId → Counts) (directory : FileId) (file : Option FileId) : Type 0 where
  pub names : FinMap place_cmp FileId
  pub name : List ℕ
  pub at : get names (directory, name) ≡ file
  pub counted : AreCounted names counts

-- the names that are counted, one that is for this file in the old directory, and one in the new directory that is not, and is for the
-- file taken, or is not there
pub record IsMovedAt (counts : FileId → Counts) (old_directory new_directory file : FileId) (taken : Option FileId) : Type 0 where
  pub names : FinMap place_cmp FileId
  pub old_name : List ℕ
  pub new_name : List ℕ
  pub there : get names (old_directory, old_name) ≡ Some file
  pub at : get names (new_directory, new_name) ≡ taken
  pub apart : taken ≢ Some file
  pub counted : AreCounted names counts
