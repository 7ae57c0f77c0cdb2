-- What is stored of a tree, as a value: all but the nodes.
use Rattle.std.specs.Prelude.{◌≡◌, ℕ, Bool, List, [], ◌∷◌}
use Rattle.std.specs.Option.{option_map_or}
use Rattle.std.specs.Ordering.{nat_cmp}
use Rattle.std.specs.FinMap as map
use Rattle.std.specs.FinMap.{FinMap, get}
use Rattle.fa_bodies.specs.declared.setattr.SetattrIn.{SetattrIn}
use Rattle.fa_ledger.specs.Operations.{PlainAction}
use Rattle.fa_ledger.specs.Operations.PlainOperation.{Acts}
use Rattle.fa_tree.specs.declared.id.FileId.TheVariants as file_id
use Rattle.fa_tree.specs.declared.id.FileId.{FileId}
use Rattle.fa_tree.specs.State.{File, Store, file_cmp, OpenDirectory, TreeState}
use Rattle.fa_tree.specs.Resolved.{Resolved}
use Rattle.fa_tree.specs.Edits.{Edit, names_after, handles_after}
use Rattle.fa_tree.specs.Making.{files_created}
use Rattle.fa_tree.specs.Operations.{action_rule, changed, directory_opened}
use Rattle.fa_tree.specs.Edits.Edit.{Added}
use Rattle.fa_tree.specs.Opening.{opened, with_opened}
use Rattle.fa_tree.specs.Lookups.{bits_set}
use Rattle.fa_tree.specs.parts.FileParts.{with_bits}

pub record StoredShown : Type 0 where
  pub store : Store
  pub handles : FinMap nat_cmp OpenDirectory

-- the tree with no node named
abbrev pub as_tree : StoredShown → TreeState
as_tree t = record { store = t.store; nodes = map.empty; handles = t.handles }

-- what is stored of a tree
abbrev pub stored_of : TreeState → StoredShown
stored_of t = record { store = t.store; handles = t.handles }

-- after the change of an action, which empties a file that is there or not
abbrev pub stored_changed : Resolved → (truncates : Bool) → PlainAction → (count : ℕ) → StoredShown → StoredShown
stored_changed x truncates a count t = record {
  store = changed t.store x truncates (Acts a) count;
  handles = handles_after (action_rule t.store x a).edits t.handles;
}

-- after edits of names
abbrev pub stored_edited : List Edit → StoredShown → StoredShown
stored_edited edits t = record {
  store = record { names = names_after edits t.store.names; files = t.store.files };
  handles = handles_after edits t.handles;
}

-- with other files
abbrev pub stored_with : FinMap file_cmp File → StoredShown → StoredShown
stored_with files t = record { store = record { names = t.store.names; files = files }; handles = t.handles }

-- it is one that a request makes, or the next that is put in by name
abbrev pub IsMadeOrNext : FinMap file_cmp File → FileId → Type 0
IsMadeOrNext files file_id.Root = ⊥
IsMadeOrNext files (file_id.Added n) = n ≡ map.len files
IsMadeOrNext files (file_id.Made asked) = Unit {0}

-- with this file made in a directory under a name
abbrev pub stored_made : FileId → (directory : FileId) → (name : List ℕ) → File → StoredShown → StoredShown
stored_made id directory name new t = stored_with (map.insert t.store.files id new) (stored_edited (Added directory name id ∷ []) t)

-- with a directory opened by the request of this number
abbrev pub stored_opened : (asked : ℕ) (directory : FileId) → StoredShown → StoredShown
stored_opened asked directory t = record { store = t.store; handles = map.insert t.handles asked (opened t.store.names directory) }

-- after the change of an action, with the directory that its answer opens, if it opens one anew
abbrev pub stored_left : Resolved → (truncates : Bool) → PlainAction → (asked : ℕ) → (opens : Bool) → (count : ℕ) → StoredShown → StoredShown
stored_left x truncates a asked opens count t = record {
  store = changed t.store x truncates (Acts a) count;
  handles = with_opened (changed t.store x truncates (Acts a) count).names (directory_opened x (Acts a)) asked opens
      (handles_after (action_rule t.store x a).edits t.handles);
}

-- a file with the permission bits that SETATTR leaves
abbrev pub mode_set : SetattrIn → File → File
mode_set a file = with_bits (bits_set a file.kind file.bits) file

-- after a CREATE
abbrev pub stored_created : (asked : ℕ) → (directory : FileId) → (name : List ℕ) → (truncates : Bool) → File → StoredShown → StoredShown
stored_created asked directory name truncates new t = stored_with (files_created t.store.files asked truncates new (get t.store.names (directory, name)))
    (stored_edited (option_map_or (λ file. []) (get t.store.names (directory, name)) (Added directory name (file_id.Made asked) ∷ [])) t)
