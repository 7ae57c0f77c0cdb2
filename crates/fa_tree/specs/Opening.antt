-- OPEN, and OPENDIR with what READDIR and READDIRPLUS need (POSIX open, opendir): what an open directory has when it is opened.
use Rattle.std.specs.Prelude.{ℕ, if◌then◌else◌, Bool, true, List, [], Option, Some, map, filter}
use Rattle.std.specs.Ordering.{nat_cmp}
use Rattle.std.specs.FinMap.{FinMap, entries, from_entries, insert}
use Rattle.std.specs.FinSet.{from_list}
use Rattle.fa_tree.specs.declared.id.FileId.{FileId}
use Rattle.fa_tree.specs.State.{Store, place_cmp, file_eq, OpenDirectory, IsDirectory, IsLinked, IsRegular}
use Rattle.fa_tree.specs.Making.{emptied}
use Rattle.fa_tree.specs.Rules.{Rule, with_file}

-- the names of a directory, each with its file
abbrev pub names_in : FinMap place_cmp FileId → (directory : FileId) → List (List ℕ × FileId)
names_in names directory = map (λ entry. (entry.0.1, entry.1)) (filter (λ entry. file_eq entry.0.0 directory) (entries names))

-- a directory that is opened now: the names that are in it now have been in it, and their files have stayed
abbrev pub opened : FinMap place_cmp FileId → (directory : FileId) → OpenDirectory
opened names directory = record {
  directory = directory;
  since = from_list (map (λ entry. entry.0) (names_in names directory));
  stayed = from_entries (names_in names directory);
}

-- the open directories, with the one that a success of the request of this number opened, if it opened one anew
abbrev pub with_opened : FinMap place_cmp FileId → Option FileId → (asked : ℕ) → (opens : Bool) → FinMap nat_cmp OpenDirectory → FinMap nat_cmp OpenDirectory
with_opened names (Some directory) asked true handles = insert handles asked (opened names directory)
with_opened names directory asked opens handles = handles

-- ---- the operations

-- OPEN, which empties the file where its call says so
abbrev pub open_rule : Store → (file : FileId) → Rule
open_rule s file = record {
  needs = IsRegular s file;
  edits = [];
  files = λ truncates count. (if truncates then with_file s.files file emptied else s.files);
  missing = IsLinked s file → ⊥;
  taken = ⊥;
  no_directory = ⊥;
  a_directory = IsDirectory s file;
  not_empty = ⊥;
}

-- OPENDIR, and READDIR and READDIRPLUS
abbrev pub directory_rule : Store → (directory : FileId) → Rule
directory_rule s directory = record {
  needs = IsDirectory s directory;
  edits = [];
  files = λ truncates count. s.files;
  missing = IsLinked s directory → ⊥;
  taken = ⊥;
  no_directory = IsDirectory s directory → ⊥;
  a_directory = ⊥;
  not_empty = ⊥;
}
