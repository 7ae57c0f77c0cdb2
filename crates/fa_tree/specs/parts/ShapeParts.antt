-- Ways up the tree.
use Rattle.std.specs.Prelude.{ℕ, zero, suc, if◌then◌else◌, List, [], ◌∷◌, Option, Some, None}
use Rattle.std.specs.FinMap.{entries}
use Rattle.fa_tree.specs.declared.id.FileId.{FileId}
use Rattle.fa_tree.specs.State.{Place, Store, file_eq, IsParent}

-- the directory of the first name for this file, if there is one
abbrev pub parent_in : List (Place × FileId) → (file : FileId) → Option FileId
parent_in [] file = None
parent_in (entry ∷ entries) file = (if file_eq entry.1 file then Some entry.0.0 else parent_in entries file)

abbrev pub parent_of : Store → (file : FileId) → Option FileId
parent_of s file = parent_in (entries s.names) file

-- The way up from a file, from child to parent, ends after so many steps: after none where no name is for it, else after one
-- more than that from a parent.
pub data Climbs (s : Store) : (file : FileId) (steps : ℕ) → Type 0 where
  at_top : (file : FileId) → ((parent : FileId) → IsParent s parent file → ⊥) → Climbs s file zero
  goes_on : (file parent : FileId) (steps : ℕ) → IsParent s parent file → Climbs s parent steps → Climbs s file (suc steps)
