use Rattle.std.proofs.Common.{◌≡◌, false, List, ◌++◌}
use Rattle.fa_bodies.specs.Dirents.{PlainDirent}
use Rattle.fa_bodies.specs.Listing.{entries_left}
use Rattle.fa_ledger.specs.parts.ListingParts.{some_unreached}
use Rattle.fa_ledger.proofs.listings.Listings.has_new.Given as goal

-- none of the entries so far has a new offset
abbrev pub invariant-loop-dirent : goal.invariant-loop-dirent
invariant-loop-dirent l =
    (goal.iterator-loop-dirent).can_next l.dirent-iterator
    × (goal.iterator-loop-dirent).is_finite l.dirent-iterator
    × ((front : List PlainDirent) × (entries_left l.listed.entries ≡ front ++ entries_left l.dirent-iterator)
    × (some_unreached l.self.by_key.entries l.listed.key front ≡ false))
