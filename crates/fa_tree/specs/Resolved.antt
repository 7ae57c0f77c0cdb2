-- What a call names, as files of the tree.
use Rattle.std.specs.Prelude.{ℕ, Option, Some, None, option_map, option_and_then}
use Rattle.std.specs.FinMap.{get}
use Rattle.fa_ledger.specs.declared.call.Listing.{Listing}
use Rattle.fa_ledger.specs.declared.name.NodeName.{NodeName}
use Rattle.fa_ledger.specs.Calls.{PlainCall}
use Rattle.fa_tree.specs.declared.id.FileId.{FileId}
use Rattle.fa_tree.specs.State.{OpenDirectory, TreeState, file_of}

-- The number of a request, and the files that it names: of its header's node, and the new directory of a RENAME or RENAME2, or the file
-- of a LINK. And the open directory that it lists, if it lists one.
pub record Resolved : Type 0 where
  pub asked : ℕ
  pub node : FileId
  pub other : Option FileId
  pub handle : Option OpenDirectory

-- the second file, where a second node is named
abbrev pub other_of : TreeState → Option NodeName → Option (Option FileId)
other_of t None = Some None
other_of t (Some name) = option_map (λ file. Some file) (file_of t name)

-- the open directory, where the call lists by its handle
abbrev pub handle_of : TreeState → Option Listing → Option ℕ → Option (Option OpenDirectory)
handle_of t None handle = Some None
handle_of t (Some listing) None = None
handle_of t (Some listing) (Some handle) = option_map (λ h. Some h) (get t.handles handle)

-- what a call names whose header names this file, and then this second file
abbrev pub resolved_with : TreeState → PlainCall → (node : FileId) → (other : Option FileId) → Option Resolved
resolved_with t call node other =
    option_map (λ handle. record { asked = call.asked; node = node; other = other; handle = handle }) (handle_of t call.listing call.handle)

-- what a call names whose header names this file
abbrev pub resolved_on : TreeState → PlainCall → (node : FileId) → Option Resolved
resolved_on t call node = option_and_then (resolved_with t call node) (other_of t call.other)

-- what a call names in the tree, if the tree knows all of it
abbrev pub resolved : TreeState → PlainCall → Option Resolved
resolved t call = option_and_then (resolved_on t call) (file_of t call.node)

-- A second file is named, and it is such.
abbrev pub OfOther : Option FileId → (FileId → Type 0) → Type 0
OfOther None Such = ⊥
OfOther (Some file) Such = Such file
