-- What the fields of what is stored show.
use Rattle.fa_tree.specs.Shape.{IsTree}
use Rattle.fa_tree.specs.declared.stored.Stored.TheInside.{Inside}
use Rattle.fa_tree.specs.parts.CountParts.{counts_of, AreCounted}
use Rattle.fa_tree.specs.parts.FileParts.{files_shown}
use Rattle.fa_tree.specs.parts.ParentParts.{parent_noted, AreParentsNoted, AreNotesParents}
use Rattle.fa_tree.specs.parts.StoredParts.{StoredShown}

abbrev pub stored_shown : Inside → StoredShown
stored_shown t = record { store = record { names = t.names.names; files = files_shown t.files.by_id.entries }; handles = t.names.handles }

-- what they hold is a tree, the parents of directories are noted, and nothing else, and names are counted
abbrev pub HoldsTree : Inside → Type 0
HoldsTree t =
    IsTree (stored_shown t).store
    × AreParentsNoted (stored_shown t).store (parent_noted t.parents.table.entries)
    × AreNotesParents (stored_shown t).store (parent_noted t.parents.table.entries)
    × AreCounted t.names.names (counts_of t.files.by_id.entries)
