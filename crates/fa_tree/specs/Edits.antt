-- What a request does to names: the names that it takes away and adds, in their order; and what that leaves of the store's
-- names and of an open directory.
use Rattle.std.specs.Prelude.{ℕ, if◌then◌else◌, List, [], ◌∷◌}
use Rattle.std.specs.Prelude as list
use Rattle.std.specs.Ordering.{nat_cmp}
use Rattle.std.specs.FinMap as map
use Rattle.std.specs.FinMap.{FinMap}
use Rattle.std.specs.FinSet as set
use Rattle.fa_tree.specs.declared.id.FileId.{FileId}
use Rattle.fa_tree.specs.State.{place_cmp, file_eq, OpenDirectory}

-- one name more, for a file, or one fewer
pub data Edit : Type 0 where
  Added : (directory : FileId) (name : List ℕ) (file : FileId) → Edit
  Removed : (directory : FileId) (name : List ℕ) → Edit

-- the names after these edits
abbrev pub names_after : List Edit → FinMap place_cmp FileId → FinMap place_cmp FileId
names_after [] names = names
names_after (Added directory name file ∷ edits) names = names_after edits (map.insert names (directory, name) file)
names_after (Removed directory name ∷ edits) names = names_after edits (map.remove names (directory, name))

-- An open directory after one edit. A name that is added was in it at some moment; one that is taken away has not stayed, and
-- has not when it is added again.
abbrev pub open_after_one : Edit → OpenDirectory → OpenDirectory
open_after_one (Added directory name file) h =
    (if file_eq directory h.directory then record { directory = h.directory; since = set.insert h.since name; stayed = h.stayed } else h)
open_after_one (Removed directory name) h =
    (if file_eq directory h.directory then record { directory = h.directory; since = h.since; stayed = map.remove h.stayed name } else h)

-- an open directory after these edits
abbrev pub open_after : List Edit → OpenDirectory → OpenDirectory
open_after [] h = h
open_after (edit ∷ edits) h = open_after edits (open_after_one edit h)

-- each open directory after a change
abbrev pub each_open : (OpenDirectory → OpenDirectory) → FinMap nat_cmp OpenDirectory → FinMap nat_cmp OpenDirectory
each_open change handles = map.from_entries (list.map (λ entry. (entry.0, change entry.1)) (map.entries handles))

-- the open directories after these edits
abbrev pub handles_after : List Edit → FinMap nat_cmp OpenDirectory → FinMap nat_cmp OpenDirectory
handles_after edits handles = each_open (open_after edits) handles
