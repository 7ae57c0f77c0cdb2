-- Trees that are put together name by name (this profile: what a tree text says).
use Rattle.std.specs.Prelude.{◌≡◌, ◌≢◌, ◌≤◌, ℕ, List, [], ◌∷◌, length, Some}
use Rattle.std.specs.FinMap as map
use Rattle.fa_bodies.specs.declared.bodies.TheConstants.{MAX_FILE_BYTES}
use Rattle.fa_bodies.specs.declared.mode.Kind.{Kind}
use Rattle.fa_bodies.specs.declared.mode.Kind.TheVariants.{Fifo, CharDevice, Directory, BlockDevice, Regular, Symlink, Socket}
use Rattle.fa_bodies.specs.Names.{IsName, IsTarget}
use Rattle.fa_tree.specs.declared.id.FileId.TheVariants as file_id
use Rattle.fa_tree.specs.declared.id.FileId.{FileId}
use Rattle.fa_tree.specs.State.{File, Store, TreeState, root}
use Rattle.fa_tree.specs.Edits.{names_after, handles_after}
use Rattle.fa_tree.specs.Edits.Edit.{Added}
use Rattle.fa_tree.specs.Making.{MayBeMade, new_symlink}

-- a root alone, with these permission bits
abbrev pub empty_tree : (bits : ℕ) → TreeState
empty_tree bits = record {
  store = record { names = map.empty; files = map.insert map.empty root (record { kind = Directory; bits = bits; bytes = [] }) };
  nodes = map.empty;
  handles = map.empty;
}

-- a file of this type, with these bytes, or this target; a symbolic link has all permission bits
abbrev pub file_of_kind : Kind → (bits : ℕ) → (body : List ℕ) → File
file_of_kind Symlink bits body = new_symlink body
file_of_kind Fifo bits body = record { kind = Fifo; bits = bits; bytes = body }
file_of_kind CharDevice bits body = record { kind = CharDevice; bits = bits; bytes = body }
file_of_kind Directory bits body = record { kind = Directory; bits = bits; bytes = body }
file_of_kind BlockDevice bits body = record { kind = BlockDevice; bits = bits; bytes = body }
file_of_kind Regular bits body = record { kind = Regular; bits = bits; bytes = body }
file_of_kind Socket bits body = record { kind = Socket; bits = bits; bytes = body }

-- what a file of this type may hold: a regular file any bytes, a symbolic link a target, any other none
abbrev pub MayHold : Kind → (body : List ℕ) → Type 0
MayHold Regular body = Unit {0}
MayHold Symlink body = IsTarget body
MayHold Fifo body = body ≡ []
MayHold CharDevice body = body ≡ []
MayHold Directory body = body ≡ []
MayHold BlockDevice body = body ≡ []
MayHold Socket body = body ≡ []

-- A file may be added as it may be made, under a name that is permitted, with a body that a file of its type may hold and no
-- more bytes than a file may have.
abbrev pub MayBeAdded : TreeState → (parent : FileId) → (name : List ℕ) → Kind → (body : List ℕ) → Type 0
MayBeAdded t parent name kind body =
    MayBeMade t.store parent name × IsName name × MayHold kind body × (length body ≤ MAX_FILE_BYTES)

-- The file that is put in by name next. It is known by how many files there are now, the root among them.
abbrev pub next_added : TreeState → FileId
next_added t = file_id.Added (map.len t.store.files)

-- the tree with this file added
abbrev pub tree_added : TreeState → (parent : FileId) → (name : List ℕ) → File → TreeState
tree_added t parent name file = record {
  store = record {
    names = names_after (Added parent name (next_added t) ∷ []) t.store.names;
    files = map.insert t.store.files (next_added t) file;
  };
  nodes = t.nodes;
  handles = handles_after (Added parent name (next_added t) ∷ []) t.handles;
}

-- there is this file, and it is no directory
abbrev pub IsNonDirectory : Store → FileId → Type 0
IsNonDirectory s id = (file : File) × (map.get s.files id ≡ Some file) × (file.kind ≢ Directory)

-- A further name may be added in a linked directory that has not the name, if it is permitted, for a file that is no directory.
abbrev pub MayBeLinkedTo : TreeState → (parent : FileId) → (name : List ℕ) → (file : FileId) → Type 0
MayBeLinkedTo t parent name file = MayBeMade t.store parent name × IsName name × IsNonDirectory t.store file

-- the tree with this name added for a file that is there
abbrev pub tree_linked : TreeState → (parent : FileId) → (name : List ℕ) → (file : FileId) → TreeState
tree_linked t parent name file = record {
  store = record { names = names_after (Added parent name file ∷ []) t.store.names; files = t.store.files };
  nodes = t.nodes;
  handles = handles_after (Added parent name file ∷ []) t.handles;
}
