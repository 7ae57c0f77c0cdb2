use Rattle.std.proofs.Common.{◌≡◌, List, ◌++◌, take}
use Rattle.std.specs.Iterator.Adapters.{take_count, take_source}
use Rattle.fa_bodies.specs.Dirents.{PlainDirent}
use Rattle.fa_bodies.specs.Listing.{entries_left}
use Rattle.fa_tree.specs.parts.TallyParts.{Notes}
use Rattle.fa_tree.proofs.so_far.note_entries.Given as goal

-- the entries so far are noted
abbrev pub invariant-loop-dirent : goal.invariant-loop-dirent
invariant-loop-dirent l =
    (goal.iterator-loop-dirent).can_next l.dirent-iterator
    × (goal.iterator-loop-dirent).is_finite l.dirent-iterator
    × ((front : List PlainDirent)
    × (take l.fn.count (entries_left l.fn.entries) ≡ front ++ take (take_count l.dirent-iterator) (entries_left (take_source l.dirent-iterator)))
    × Notes l.fn.tally l.tally front)
