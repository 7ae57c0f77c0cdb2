use Rattle.std.proofs.Common.{◌≡◌, List, ◌++◌}
use Rattle.std.specs.Prelude.{All}
use Rattle.fa_bodies.specs.Dirents.{PlainDirent}
use Rattle.fa_bodies.specs.Listing.{entries_left}
use Rattle.fa_ledger.specs.Counts.{nodes_of_listing}
use Rattle.fa_ledger.specs.Passing.{MayBeGiven}
use Rattle.fa_ledger.proofs.giving.may_be_listed.Given as goal

-- the entries so far give what may be given
abbrev pub invariant-loop-dirent : goal.invariant-loop-dirent
invariant-loop-dirent l =
    (goal.iterator-loop-dirent).can_next l.dirent-iterator
    × (goal.iterator-loop-dirent).is_finite l.dirent-iterator
    × ((front : List PlainDirent) × (entries_left l.fn.listing ≡ front ++ entries_left l.dirent-iterator) × All MayBeGiven (nodes_of_listing front))
