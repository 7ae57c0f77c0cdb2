use Rattle.std.proofs.Common.{◌≡◌, ◌++◌}
use Rattle.fa_bodies.specs.Listing.{entries_left}
use Rattle.fa_tree.specs.Directories.{files_listed}
use Rattle.fa_tree.specs.Bindings.{bound}
use Rattle.fa_tree.proofs.stored.Stored.nodes_listed.Given as goal

-- the names so far, with those of what is left, are the whole
abbrev pub invariant-loop-dirent : goal.invariant-loop-dirent
invariant-loop-dirent l =
    (goal.iterator-loop-dirent).can_next l.dirent-iterator
    × (goal.iterator-loop-dirent).is_finite l.dirent-iterator
    × (bound l.names (files_listed l.self.store l.directory (entries_left l.fn.entries))
    ≡ l.given.items ++ bound l.left (files_listed l.self.store l.directory (entries_left l.dirent-iterator)))
