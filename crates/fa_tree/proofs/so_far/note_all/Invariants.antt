use Rattle.std.proofs.Common.{◌≡◌, List, ◌++◌, length}
use Rattle.fa_bodies.specs.Dirents.{PlainDirent}
use Rattle.fa_bodies.specs.Listing.{entries_left}
use Rattle.fa_tree.specs.parts.TallyParts.{Grows, Notes}
use Rattle.fa_tree.proofs.so_far.note_all.Given as goal

-- the entries so far are noted and counted
abbrev pub invariant-loop-dirent : goal.invariant-loop-dirent
invariant-loop-dirent l =
    (goal.iterator-loop-dirent).can_next l.dirent-iterator
    × (goal.iterator-loop-dirent).is_finite l.dirent-iterator
    × ((front : List PlainDirent)
    × (entries_left l.fn.entries ≡ front ++ entries_left l.dirent-iterator)
    × (l.count ≡ length front)
    × Grows l.fn.tally l.tally
    × Notes l.fn.tally l.tally front)
